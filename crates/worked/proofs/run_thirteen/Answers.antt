-- `worked::run_thirteen` meets its contract: what the reader, the start and the run ensure, one after the other. Assumes nothing.
use mathlib.Core.Path.{◌≡◌, ap, ◌∙◌}
use mathlib.Core.List.{List, []}
use Prim.Native.Nat.{ℕ}
use Rattle.image.specs.Frames.{frames_of}
use Rattle.image.specs.Judge.{Judged}
use Rattle.image.specs.Frames as frames
use Rattle.image.specs.Write as write
use Rattle.storage.specs.Layout.{Storage, blank_storage}
use Rattle.reader.specs.Reading.{Read, read_of, left_of}
use Rattle.constant.specs.declared.Value.{Value}
use Rattle.checker.specs.Check.{Checked}
use Rattle.state.specs.States.{State, blank_state}
use Rattle.starter.specs.Start.{Started, started, start_of}
use Rattle.step.specs.Run.{ended, run_of}
use Rattle.step.specs.declared.Outcome.{Outcome}
use Rattle.worked.specs.Thirteen.{thirteen_text, thirteen_stored, begins, ends_on, ran_on, register, told_of}
use Rattle.worked.specs.Thirteen as thirteen
use Rattle.worked.proofs.run_thirteen.Goals as goal

-- what the reader leaves, by its two fields
left_as : {image : List ℕ} {j : Judged} {S S' : Storage} → Read image j S S' → S' ≡ left_of (read_of image S) (frames_of image) S
left_as {image = image} {S = S} r = r.left ∙ ap (λ (x : Judged). left_of x (frames_of image) S) r.answer

-- W13's storage, its state at the start, its end on a budget, and what is told of that
stored-as : {j : Judged} {S' : Storage} → Read thirteen_text j blank_storage S' → S' ≡ thirteen_stored
unfolding thirteen_stored
stored-as r = left_as r

begins_as : {c : Checked} {S : Storage} {s : State} → S ≡ thirteen_stored → started c s ≡ start_of S [] [] blank_state → s ≡ begins
unfolding begins
begins_as e h = ap (λ (x : Started). x.state) h ∙ ap (λ (x : Storage). (start_of x [] [] blank_state).state) e

ends_as : {o : Outcome} {S : Storage} {s s' : State} (budget : ℕ) → S ≡ thirteen_stored → s ≡ begins → ended o s' ≡ run_of S budget s → ended o s' ≡ ends_on budget
unfolding ends_on
ends_as {s = s} budget e f h = h ∙ ap (λ (x : Storage). run_of x budget s) e ∙ ap (λ (x : State). run_of thirteen_stored budget x) f

ran-as : {o : Outcome} {s : State} {u v : Value} (budget : ℕ) → ended o s ≡ ends_on budget → u ≡ register s 0 → v ≡ register s 3 → record { answer = o; first = u; fourth = v } ≡ ran_on budget
unfolding ran_on
ran-as budget h e f = rw e (rw f (ap told_of h))

pub returns : goal.returns
unfolding thirteen.thirteen_frames thirteen_text frames.payload write.hex_digit write.hex_of write.word_bytes write.frame_bytes write.written
returns c =
    let image = stored-as c.read.ensures in
    let begun = begins_as image c.start.ensures in
    ran-as _ (ends_as _ image begun c.run-answer.ensures) c.value_of.ensures c.value_of-2.ensures
