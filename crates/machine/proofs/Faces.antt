-- The C face's functions, each from what its callees answered: an `answer` too short, and one that is told. Assumes nothing.
use Prim.Native.Nat.{ℕ, ◌%◌, ◌^◌, ◌<◌, ◌≤◌}
use mathlib.Core.Path.{◌≡◌, refl, ◌∙◌}
use mathlib.Core.List.{List}
use lib.ListN.{length, set}
use lib.Dec.{leb}
use borrow.Author.Tests.{le-leb, lt-leb}
use mathlib.Core.Bool.{cond}
use Rattle.image.specs.Judge.{Judged}
use Rattle.storage.specs.Layout.{Storage}
use Rattle.reader.specs.Reading.{Read}
use Rattle.writer.specs.Writing.{Wrote, Written}
use Rattle.checker.specs.Check.{check_of}
use Rattle.checker.specs.Check.{Checked}
use Rattle.state.specs.States.{State}
use Rattle.starter.specs.Start.{started, start_of}
use Rattle.step.specs.Run.{outcome, ended, run_of}
use Rattle.step.specs.declared.Outcome.{Outcome}
use Rattle.machine.specs.Answers.{read_answer, write_answer, check_answer}
use Rattle.std.specs.Prelude.{Result, Ok, Err}
use Rattle.machine.specs.Results.{returned_of, text_number, span_of}
use Rattle.machine.specs.Face.{Said, said, tells, tells5, tells6, saying, saying5, saying6, leaving, bytes_told, returned_answer, text_answer, dm_read, dm_write, dm_check, dm_start, dm_run, dm_returned, dm_text}
use Rattle.machine.specs.declared.Values.{Values}
use Rattle.machine.specs.declared.Span.{Span}
use Rattle.machine.specs.declared.TextRefusal.{TextRefusal}

-- ---- the test of `answer`'s length

module _ {X : Type 0} (l : List ℕ) (full refusal : X) where
  too_short : length l < 8 → refusal ≡ cond (leb 8 (length l)) full refusal
  too_short h = rw (lt-leb _ _ h)

  long : 8 ≤ length l → (x : X) → x ≡ full → x ≡ cond (leb 8 (length l)) full refusal
  long h x e = rw (le-leb _ _ h) e

both : {L : Type 0} (s t : Said) (x y : L) → s ≡ t → x ≡ y → leaving s x ≡ leaving t y
both s t x y e f = cc

-- ---- dm_read

module _ (image : List ℕ) (S : Storage) (l : List ℕ) where
  pub read_short : length l < 8 → leaving (said 5 l) S ≡ dm_read image S l
  unfolding dm_read
  read_short h = too_short l _ _ h

  pub read_told :
      8 ≤ length l → (r : Judged) (S' : Storage) → Read image r S S' → (o : Outcome) → o ≡ read_answer r → (n : ℕ) (l' : List ℕ) → said n l' ≡ saying o l
      → leaving (said n l') S' ≡ dm_read image S l
  unfolding dm_read
  read_told h r S' e o f n l' g =
      long l _ _ h _ (both _ _ _ _ (g ∙ rw (f, e.answer)) (e.left ∙ rw e.answer))

-- ---- dm_write

module _ (S : Storage) (out l : List ℕ) where
  pub write-short : length l < 8 → leaving (said 5 l) out ≡ dm_write S out l
  unfolding dm_write
  write-short h = too_short l _ _ h

  pub write-told :
      8 ≤ length l → (r : Wrote) (out' : List ℕ) → Written S r out out' → (o : Outcome) → o ≡ write_answer r → (x : ℕ) → x ≡ bytes_told r → (n : ℕ) (l' : List ℕ)
      → said n l' ≡ saying5 o x l
      → leaving (said n l') out' ≡ dm_write S out l
  unfolding dm_write
  write-told h r out' e o f x b n l' g =
      long l _ _ h _ (both _ _ _ _ (g ∙ rw (f, b, e.answer)) (e.left ∙ rw e.answer))

-- ---- dm_check

module _ (S : Storage) (l : List ℕ) where
  pub check-short : length l < 8 → said 5 l ≡ dm_check S l
  unfolding dm_check
  check-short h = too_short l _ _ h

  pub check-told :
      8 ≤ length l → (r : Checked) → r ≡ check_of S → (o : Outcome) → o ≡ check_answer r → (n : ℕ) (l' : List ℕ) → said n l' ≡ saying o l
      → said n l' ≡ dm_check S l
  unfolding dm_check
  check-told h r e o f n l' g = long l _ _ h _ (g ∙ rw (f, e))

-- ---- dm_start

module _ (S : Storage) (a b : List ℕ) (s : State) (l : List ℕ) where
  pub start-short : length l < 8 → leaving (said 5 l) s ≡ dm_start S a b s l
  unfolding dm_start
  start-short h = too_short l _ _ h

  pub start-told :
      8 ≤ length l → (r : Checked) (s' : State) → started r s' ≡ start_of S a b s → (o : Outcome) → o ≡ check_answer r → (n : ℕ) (l' : List ℕ) → said n l' ≡ saying o l
      → leaving (said n l') s' ≡ dm_start S a b s l
  unfolding dm_start
  start-told h r s' e o f n l' g = rw (← e) (long l _ _ h _ (both _ _ _ _ (g ∙ rw f) refl))

-- ---- dm_run

module _ (S : Storage) (budget : ℕ) (s : State) (l : List ℕ) where
  pub run_short : length l < 8 → leaving (said 60 l) s ≡ dm_run S budget s l
  unfolding dm_run
  run_short h = too_short l _ _ h

  pub run-told :
      8 ≤ length l → (o : Outcome) (s' : State) → ended o s' ≡ run_of S budget s → (n : ℕ) (l' : List ℕ) → said n l' ≡ saying o l
      → leaving (said n l') s' ≡ dm_run S budget s l
  unfolding dm_run
  run-told h o s' e n l' g = rw (← e) (long l _ _ h _ (both _ _ _ _ g refl))

-- ---- dm_returned

module _ (S : Storage) (s : State) (l : List ℕ) where
  pub returned-short : length l < 8 → said 60 l ≡ dm_returned S s l
  unfolding dm_returned
  returned-short h = too_short l _ _ h

  pub returned-told :
      8 ≤ length l → (r : Values) → r ≡ returned_of S s → (n : ℕ) (l' : List ℕ) → said n l' ≡ returned_answer r l → said n l' ≡ dm_returned S s l
  unfolding dm_returned
  returned-told h r e n l' g = long l _ _ h _ (g ∙ rw e)

-- ---- dm_text

module _ (S : Storage) (word : ℕ) (l : List ℕ) where
  pub text-short : length l < 8 → said 5 l ≡ dm_text S word l
  unfolding dm_text
  text-short h = too_short l _ _ h

  pub text-told :
      8 ≤ length l → (r : Result Span TextRefusal) → r ≡ span_of S word → (n : ℕ) (l' : List ℕ) → said n l' ≡ text_answer r l → said n l' ≡ dm_text S word l
  unfolding dm_text
  text-told h r e n l' g = long l _ _ h _ (g ∙ rw e)

-- ---- telling

numbers : (s t : Said) → s ≡ t → s.number ≡ t.number
numbers s t e = cc

answers : (s t : Said) → s ≡ t → s.answer ≡ t.answer
answers s t e = cc

module _ (o : Outcome) (l : List ℕ) where
  pub told-outcome :
      (a : List ℕ) → a ≡ set l 0 o.number → (b : List ℕ) → b ≡ set a 1 o.count → (q : ℕ) → q ≡ o.prototype % 2 ^ 32 → (d : List ℕ) → d ≡ set b 2 q → (p : ℕ)
      → p ≡ o.instruction % 2 ^ 32
      → (e : List ℕ)
      → e ≡ set d 3 p
      → (n : ℕ)
      → n ≡ o.operand % 2 ^ 32
      → (m : List ℕ)
      → m ≡ set e 6 n
      → said o.number m ≡ saying o l
  unfolding tells
  told-outcome a ea b eb q eq d ed p ep e ee n en m em = rw (em, ee, ed, eb, ea, eq, ep, en)

  pub told-five :
      (x n : ℕ) (a : List ℕ) → said n a ≡ saying o l → (y : ℕ) → y ≡ x % 2 ^ 32 → (m : List ℕ) → m ≡ set a 4 y → said n m ≡ saying5 o x l
  unfolding tells5
  told-five x n a e y f m g = rw (g, f, answers _ _ e, numbers _ _ e)

  pub told-six :
      (x z n : ℕ) (a : List ℕ) → said n a ≡ saying5 o x l → (y : ℕ) → y ≡ z % 2 ^ 32 → (m : List ℕ) → m ≡ set a 5 y → said n m ≡ saying6 o x z l
  unfolding tells6
  told-six x z n a e y f m g = rw (g, f, answers _ _ e, numbers _ _ e)

-- ---- a string's place, told

module _ (l l' : List ℕ) (number : ℕ) (o : Outcome) (r : Result Span TextRefusal) where
  pub span-told :
      (s : Span) → r ≡ Ok s → o ≡ outcome 0 0 0 0 → said number l' ≡ saying6 o s.start s.count l → said number l' ≡ text_answer r l
  span-told s e f h = rw e (rw f at h)

  pub refusal-told :
      (k : TextRefusal) → r ≡ Err k → o ≡ outcome (text_number k) 0 0 0 → said number l' ≡ saying6 o 0 0 l → said number l' ≡ text_answer r l
  refusal-told k e f h = rw e (rw f at h)
