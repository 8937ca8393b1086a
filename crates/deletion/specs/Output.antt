-- All that the program writes, from the bytes that it reads and from what the run is given. Document 01: "The program reads an image from standard input, runs
-- it without arguments on budget 1,000,000 and writes `f0`, answer (1 byte), count (4), prototype (1), instruction (2; for reading, prototype 0 and the line),
-- then each returned value as a `b0` line, a function as tag 05 and its prototype." With a budget and arguments of its caller's it writes the same. Assumes nothing.
use Rattle.std.specs.Prelude.{ℕ, zero, suc, ◌+◌, ◌-◌, ◌≤◌, ◌≡◌, cond, List, [], ◌++◌, length, get_or, eqb}
use Rattle.image.specs.Frames.{frames_of}
use Rattle.std.specs.Prelude.{Ok, Err}
use Rattle.image.specs.Judge.{Judged}
use Rattle.storage.specs.Layout.{Storage, laid, blank_storage}
use Rattle.reader.specs.Reading.{read_of, left_of}
use Rattle.writer.specs.Writing.{line_of}
use Rattle.constant.specs.Values.{text_of}
use Rattle.checker.specs.Check.{Checked}
use Rattle.state.specs.States.{State, blank_state}
use Rattle.cells.specs.Cells.{entry_in}
use Rattle.starter.specs.Start.{start_of}
use Rattle.step.specs.Run.{Ended, run_of}
use Rattle.step.specs.declared.Outcome.{Outcome}
use Rattle.machine.specs.Answers.{read_answer, check_answer}
use Rattle.machine.specs.Results.{returned_of}
use Rattle.machine.specs.declared.Values.{Values}
use Rattle.deletion.specs.Lines.{answer_bytes, value_bytes}

-- ---- lines

abbrev pub answer_line : Outcome → List ℕ
answer_line o = line_of (answer_bytes o)

-- the value in register r; a function's word is the number of its entry, which holds its prototype + 1
unfoldable pub value_line : List ℕ → List ℕ → List ℕ → List ℕ → List ℕ → ℕ → List ℕ
value_line const_words texts frames kinds words r =
    let word = get_or words r 0 in
    line_of (value_bytes (get_or kinds r 0) word (text_of const_words texts word) (entry_in frames word - 1))

-- the values in n registers from r on
unfoldable pub value_lines : List ℕ → List ℕ → List ℕ → List ℕ → List ℕ → ℕ → ℕ → List ℕ
value_lines const_words texts frames kinds words zero r = []
value_lines const_words texts frames kinds words (suc n) r =
    value_line const_words texts frames kinds words r ++ value_lines const_words texts frames kinds words n (r + 1)

-- ---- what a run is given: a budget, and the kinds and words of its arguments

pub record Given : Type 0 where
  pub budget : ℕ
  pub arg_kinds : List ℕ
  pub arg_words : List ℕ

abbrev pub given : ℕ → List ℕ → List ℕ → Given
given n k w = record { budget = n; arg_kinds = k; arg_words = w }

-- "without arguments on budget 1,000,000"
abbrev pub plainly : Given
plainly = given 1_000_000 [] []

-- ---- "runs it .. and writes" the answer, "then each returned value"

-- how many values are written: those that were returned after 0, none after any other answer
unfoldable pub shown_of : Outcome → Values → ℕ
shown_of o v = cond (eqb o.number 0) v.count 0

unfoldable pub returned_lines : Storage → State → Outcome → Values → List ℕ
returned_lines S s o v = value_lines S.words S.texts s.frames s.kinds s.words (shown_of o v) v.first

unfoldable pub ended_output : Storage → Ended → List ℕ
ended_output S e = answer_line e.answer ++ returned_lines S e.state e.answer (returned_of S e.state)

-- ---- started with its arguments, in a state of the published sizes; where the start is refused, its answer alone

unfoldable pub started_output : ℕ → Storage → Checked → State → List ℕ
started_output allowed S (Ok u) s = ended_output S (run_of S allowed s)
started_output allowed S (Err refusal) s = answer_line (check_answer (Err refusal))

unfoldable pub stored_output : Given → Storage → List ℕ
stored_output g S =
    let start = start_of S g.arg_kinds g.arg_words blank_state in
    started_output g.budget S start.answer start.state

-- ---- "reads an image", into storage of the published sizes; where that is refused, its answer alone

unfoldable pub read_output : Given → Judged → Storage → List ℕ
read_output g (Ok n) S = stored_output g S
read_output g (Err refusal) S = answer_line (read_answer (Err refusal))

unfoldable pub output_of : Given → List ℕ → List ℕ
output_of g image = read_output g (read_of image blank_storage) (left_of (read_of image blank_storage) (frames_of image) blank_storage)

-- ---- in the lent output

-- how much of it any image may take: the answer's line of 21 bytes, and 255 lines of values, of 133 bytes each at most
abbrev pub output_size : ℕ
output_size = 33936

-- proofs/Fits shows it
abbrev pub AlwaysFits : Type 0
AlwaysFits = (g : Given) (image : List ℕ) → length (output_of g image) ≤ output_size

-- all that the program writes for an image: r bytes, at the front of the output; all beyond is unchanged
pub record Output (g : Given) (image : List ℕ) (r : ℕ) (out out' : List ℕ) : Type 0 where
  pub count : r ≡ length (output_of g image)
  pub left : out' ≡ laid (output_of g image) out
