-- From what was read, started, run and put to the whole output of an image. Assumes nothing.
use Prim.Native.Nat.{ℕ, ◌≤◌}
use native.Mathlib.Omega.{arith}
use mathlib.Core.Path.{◌≡◌, ap, ◌∙◌}
use mathlib.Core.List.{List}
use native.Mathlib.Nat.{zero-add}
use lib.ListN.{length, drop, length-append}
use lib.Seq.{sets-eq}
use Rattle.std.specs.Prelude.{Ok, Err}
use Rattle.image.specs.Judge.{Judged}
use Rattle.image.specs.declared.ReadRefusal.{ReadRefusal}
use Rattle.storage.specs.Layout.{Storage, blank_storage}
use Rattle.reader.specs.Reading.{Read}
use Rattle.writer.specs.Writing.{Lined}
use Rattle.writer.specs.Putting.{Room, Put}
use Rattle.writer.proofs.Puts.{put_then, room-then}
use Rattle.checker.specs.Check.{Checked}
use Rattle.checker.specs.declared.Refusal.{Refusal}
use Rattle.state.specs.States.{State, blank_state}
use Rattle.starter.specs.Start.{started, start_of}
use Rattle.step.specs.Run.{ended, run_of}
use Rattle.step.specs.declared.Outcome.{Outcome}
use Rattle.machine.specs.Answers.{read_answer, check_answer}
use Rattle.machine.specs.Results.{returned_of}
use Rattle.machine.specs.declared.Values.{Values}
use Rattle.deletion.specs.Output.{Given, answer_line, value_lines, shown_of, returned_lines, ended_output, started_output, stored_output, read_output, output_of, output_size, Output}
use Rattle.deletion.proofs.Fits.{answer-length, run_fits, output-fits}
use Rattle.deletion.proofs.Puts.{lined-put}

-- ---- an answer's line

pub answer-put : {out out' : List ℕ} {r : ℕ} (o : Outcome) → output_size ≤ length out → Lined (answer_line o) r out out' → Put out 0 (answer_line o) r out'
answer-put {out} {out'} {r} o h p = lined-put (omega (arith, answer-length o)) p

-- ---- a run's answer, and the values behind it: the run left t and answered o, and n of the values v are shown

module _ (S : Storage) (t : State) (o : Outcome) (v : Values) (e : v ≡ returned_of S t) (n : ℕ) (f : n ≡ shown_of o v) where
  abbrev values : List ℕ
  values = value_lines S.words S.texts t.frames t.kinds t.words n v.first

  module _ {out out' : List ℕ} {at : ℕ} (p : Put out 0 (answer_line o) at out') where
    pub values-room : output_size ≤ length out → Room out' at values
    unfolding returned_lines
    values-room h =
        rw (f, e)
        (room-then out 0 (answer_line o) (returned_lines S t o (returned_of S t)) (omega (arith, run_fits S t o)) out' at p)

    pub run-put :
        {out'' : List ℕ} {r : ℕ} (allowed : ℕ) (s : State) → ended o t ≡ run_of S allowed s → Put out' at values r out''
        → Put out 0 (ended_output S (run_of S allowed s)) r out''
    unfolding ended_output returned_lines
    run-put allowed s ran q = rw (← ran) (put_then p (rw (f, e) at q))

-- ---- a start

module _ (g : Given) (S : Storage) (c : Checked) (s : State) (b : started c s ≡ start_of S g.arg_kinds g.arg_words blank_state) where
  pub start-refused : (y : Refusal) → c ≡ Err y → (o : Outcome) → o ≡ check_answer c → answer_line o ≡ stored_output g S
  unfolding stored_output started_output
  start-refused y e o f = rw (← b, f, e)

  pub start-run : c ≡ Ok tt → ended_output S (run_of S g.budget s) ≡ stored_output g S
  unfolding stored_output started_output
  start-run e = rw (← b, e)

-- ---- reading

module _ (g : Given) (image : List ℕ) (j : Judged) (S : Storage) (r : Read image j blank_storage S) where
  pub read-refused : (y : ReadRefusal) → j ≡ Err y → (o : Outcome) → o ≡ read_answer j → answer_line o ≡ output_of g image
  unfolding output_of read_output
  read-refused y e o f = rw (← r.answer, f, e)

  pub read-stored : (n : ℕ) → j ≡ Ok n → stored_output g S ≡ output_of g image
  unfolding output_of read_output
  read-stored n e = rw (r.left, ← r.answer, e)

-- ---- the whole

module _ {g : Given} {image out out' : List ℕ} {r : ℕ} where
  pub whole : output_size ≤ length out → Put out 0 (output_of g image) r out' → Output g image r out out'
  whole h p =
      record {
        count = p.next ∙ zero-add (length (output_of g image));
        left = p.left ∙ sets-eq (output_of g image) out 0 (omega (arith, output-fits g image)) ∙ rw (zero-add (length (output_of g image)));
      }

  -- it ends within the output
  pub whole-within : Output g image r out out' → r ≤ length out'
  whole-within p = omega (arith, p.count, ap length p.left, length-append (output_of g image) (drop (length (output_of g image)) out))
