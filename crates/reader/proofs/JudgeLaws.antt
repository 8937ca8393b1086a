-- Laws of judging: what is left, judged from where the code stands, is the whole judged. Assumes nothing.
use Rattle.std.proofs.Common.{◌≡◌, ℕ, ◌+◌, ◌<◌, ◌≤◌, List, ◌∷◌, length, drop, Ok, refl, ◌∙◌, arith, le-ltb, lt-ltb}
use Rattle.image.specs.Lines.{line_len}
use Rattle.image.specs.Frames.{F, frames_of}
use Rattle.image.specs.Judge.{refused, frame_step, start, at_end, judge_after, judge_frames, judge_of}
use Rattle.image.specs.declared.Counts.{Counts}
use Rattle.image.specs.declared.Step.{Step}
use Rattle.image.specs.declared.Step.TheVariants.{On, Done, No}
use Rattle.image.specs.declared.ReadError.{ReadError}
use Rattle.image.specs.declared.ReadError.TheVariants.{PastLimit, WrongEnd}
use Rattle.reader.specs.declared.line.Next.{Next}
use Rattle.reader.specs.Steps.{Advance}
use Rattle.choices.proofs.Choices.{by_order}
use Rattle.reader.proofs.LineLaws.{frames_cut, frames_uncut, frames_none}

pub judge-long : (l : List ℕ) → 65536 < length l → judge_of l ≡ refused PastLimit 0
unfolding judge_of
judge-long l h = simp (lt-ltb _ _ h)

-- n lines, up to `at`, are judged and counted in st
pub record Going (l : List ℕ) (at n : ℕ) (st : Counts) : Type 0 where
  pub within : at ≤ length l
  pub few : n ≤ at
  pub rest : judge_of l ≡ judge_frames st n (frames_of (drop at l))

pub going_start : (l : List ℕ) → length l ≤ 65536 → Going l 0 0 start
unfolding judge_of
going_start l h = record { within = omega arith; few = omega arith; rest = simp (le-ltb _ _ h) }

-- bytes left make a frame
some-frame : (l : List ℕ) (at : ℕ) → at < length l → (f : F) × ((fs : List F) × (frames_of (drop at l) ≡ f ∷ fs))
some-frame l at h =
    by_order (length l) (at + line_len (drop at l))
    (λ k. (_, (_, frames_uncut l at k h)))
    (λ k. (_, (_, frames_cut l at (at + line_len (drop at l)) refl k)))

end-all : (p n : ℕ) (l : List ℕ) (at : ℕ) → at ≡ length l → at_end p n (frames_of (drop at l)) ≡ Ok p
unfolding at_end
end-all p n l at h = rw (frames_none l at (omega arith))

end_more : (p n : ℕ) (l : List ℕ) (at : ℕ) → at < length l → at_end p n (frames_of (drop at l)) ≡ refused WrongEnd n
unfolding at_end
end_more p n l at h = let s = some-frame l at h in rw s.1.1

module _ (l : List ℕ) (at n : ℕ) (st : Counts) (g : Going l at n st) where
  pub going_end : length l ≤ at → judge_of l ≡ refused WrongEnd n
  unfolding judge_frames
  going_end h = g.rest ∙ rw (frames_none l at h)

  -- r is what reading the line at `at` gave, and its frame's step is known
  module _ (r : Next) (a : Advance l at r) where
    turn : (u : Step) → frame_step st r.frame ≡ u
        → judge_of l ≡ judge_after u st.protos n (frames_of (drop r.next l)) (λ t. judge_frames t (n + 1) (frames_of (drop r.next l)))
    unfolding judge_frames
    turn u e = g.rest ∙ rw (a.list, ← a.here, e)

    pub going_on : (t : Counts) → frame_step st r.frame ≡ On t → Going l r.next (n + 1) t
    unfolding judge_after
    going_on t e = record { within = a.within; few = omega (arith, a.more, g.few); rest = turn (On t) e }

    pub going_all : frame_step st r.frame ≡ Done → r.next ≡ length l → judge_of l ≡ Ok st.protos
    unfolding judge_after
    going_all e h = turn Done e ∙ end-all _ _ l r.next h

    pub going_more : frame_step st r.frame ≡ Done → (r.next ≡ length l → ⊥) → judge_of l ≡ refused WrongEnd (n + 1)
    unfolding judge_after
    going_more e h =
        let k : r.next < length l = omega (arith, a.within) in
        turn Done e ∙ end_more _ _ l r.next k

    pub going_no : (k : ReadError) → frame_step st r.frame ≡ No k → judge_of l ≡ refused k n
    unfolding judge_after
    going_no k e = turn (No k) e
