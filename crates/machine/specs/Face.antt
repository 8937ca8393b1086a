-- The C face: what each function returns, what it leaves in `answer`, and what it leaves of all else that was lent, for any input. Assumes nothing.
-- The number, the count, the prototype and the instruction (or the line) go to answer[0] to answer[3], the operand that a Lua error names to answer[6], as 32
-- bits each; all else in `answer` stays.
-- An `answer` shorter than 8 is 5, of a run 60, and then nothing is touched.
use Rattle.std.specs.Prelude.{List, ℕ, ◌%◌, ◌^◌, length, set, leb, cond, Result, Ok, Err}
use Rattle.image.specs.Frames.{frames_of}
use Rattle.storage.specs.Layout.{Storage}
use Rattle.reader.specs.Reading.{read_of, left_of}
use Rattle.writer.specs.Writing.{Wrote, write_of, out_of}
use Rattle.checker.specs.Check.{check_of}
use Rattle.state.specs.States.{State}
use Rattle.starter.specs.Start.{start_of}
use Rattle.step.specs.Run.{outcome, run_of}
use Rattle.step.specs.declared.Outcome.{Outcome}
use Rattle.machine.specs.Answers.{read_answer, write_answer, check_answer}
use Rattle.machine.specs.Results.{returned_of, text_number, span_of}
use Rattle.machine.specs.declared.Values.{Values}
use Rattle.machine.specs.declared.Span.{Span}
use Rattle.machine.specs.declared.TextRefusal.{TextRefusal}

-- ---- the version: 10,000 times its first number, 100 times its second, and its third; this is 0.3.0, which the header has as DM_VERSION

abbrev pub version : ℕ
version = 300

-- ---- the answer

abbrev pub answer_size : ℕ
answer_size = 8

-- the number that is returned, and what `answer` holds then
pub record Said : Type 0 where
  pub number : ℕ
  pub answer : List ℕ

abbrev pub said : ℕ → List ℕ → Said
said number answer = record { number = number; answer = answer }

unfoldable pub tells : Outcome → List ℕ → List ℕ
tells o l =
    set (set (set (set (set l 0 o.number) 1 o.count) 2 (o.prototype % 2 ^ 32)) 3 (o.instruction % 2 ^ 32)) 6 (o.operand % 2 ^ 32)

-- answer[4] too; answer[5] too
unfoldable pub tells5 : Outcome → ℕ → List ℕ → List ℕ
tells5 o x l = set (tells o l) 4 (x % 2 ^ 32)

unfoldable pub tells6 : Outcome → ℕ → ℕ → List ℕ → List ℕ
tells6 o x y l = set (tells5 o x l) 5 (y % 2 ^ 32)

abbrev pub saying : Outcome → List ℕ → Said
saying o l = said o.number (tells o l)

abbrev pub saying5 : Outcome → ℕ → List ℕ → Said
saying5 o x l = said o.number (tells5 o x l)

abbrev pub saying6 : Outcome → ℕ → ℕ → List ℕ → Said
saying6 o x y l = said o.number (tells6 o x y l)

-- the same, and what is left of what was lent
pub record Left (L : Type 0) : Type 0 where
  pub said : Said
  pub lent : L

abbrev pub leaving : {L : Type 0} → Said → L → Left L
leaving s l = record { said = s; lent = l }

-- ---- dm_read

unfoldable pub dm_read : List ℕ → Storage → List ℕ → Left Storage
dm_read image S l =
    cond (leb answer_size (length l)) (leaving (saying (read_answer (read_of image S)) l) (left_of (read_of image S) (frames_of image) S))
    (leaving (said 5 l) S)

-- ---- dm_write: answer[4] is how many bytes were written

abbrev pub bytes_told : Wrote → ℕ
bytes_told (Ok n) = n
bytes_told (Err refusal) = 0

unfoldable pub dm_write : Storage → List ℕ → List ℕ → Left (List ℕ)
dm_write S out l =
    cond (leb answer_size (length l))
    (leaving (saying5 (write_answer (write_of S out)) (bytes_told (write_of S out)) l) (out_of (write_of S out) S out))
    (leaving (said 5 l) out)

-- ---- dm_check

unfoldable pub dm_check : Storage → List ℕ → Said
dm_check S l = cond (leb answer_size (length l)) (saying (check_answer (check_of S)) l) (said 5 l)

-- ---- dm_start, dm_run

unfoldable pub dm_start : Storage → List ℕ → List ℕ → State → List ℕ → Left State
dm_start S arg_kinds arg_words s l =
    cond (leb answer_size (length l))
    (leaving (saying (check_answer (start_of S arg_kinds arg_words s).answer) l) (start_of S arg_kinds arg_words s).state)
    (leaving (said 5 l) s)

unfoldable pub dm_run : Storage → ℕ → State → List ℕ → Left State
dm_run S budget s l =
    cond (leb answer_size (length l)) (leaving (saying (run_of S budget s).answer l) (run_of S budget s).state)
    (leaving (said 60 l) s)

-- ---- dm_returned: answer[4] is the first register, answer[5] how many

abbrev pub returned_answer : Values → List ℕ → Said
returned_answer r l = saying6 r.answer r.first r.count l

unfoldable pub dm_returned : Storage → State → List ℕ → Said
dm_returned S s l = cond (leb answer_size (length l)) (returned_answer (returned_of S s) l) (said 60 l)

-- ---- dm_text: answer[4] is where the string's bytes begin in `texts`, answer[5] how many they are

abbrev pub text_answer : Result Span TextRefusal → List ℕ → Said
text_answer (Ok s) l = saying6 (outcome 0 0 0 0) s.start s.count l
text_answer (Err e) l = saying6 (outcome (text_number e) 0 0 0) 0 0 l

unfoldable pub dm_text : Storage → ℕ → List ℕ → Said
dm_text S word l = cond (leb answer_size (length l)) (text_answer (span_of S word) l) (said 5 l)
