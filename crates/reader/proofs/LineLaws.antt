-- Laws of lines: what the code finds by an index is what the list's own recursion says. Assumes nothing.
use Rattle.std.proofs.Common.{◌≡◌, ℕ, zero, suc, ◌+◌, ◌-◌, ◌<◌, ◌≤◌, cond, eqb, List, [], ◌∷◌, length, get_or, take, drop, arith, length-drop, drop_of_length-le, drop-cons, drop-drop, le-ltb, lt-ltb, eq-eqb, ne_eqb}
use lib.Seq.{drop-length}
use Rattle.image.specs.Lines.{ended, unended, onto, lines, line_len}
use Rattle.image.specs.declared.ReadError.TheVariants.{BrokenLine}
use Rattle.image.specs.Frames.{bad, frame_of, line_frame, frames_of, first_frame}
use Rattle.choices.proofs.Choices.{by_bool}

module _ (l : List ℕ) (i : ℕ) where
  pub lf_here : i < length l → get_or l i 0 ≡ 10 → line_len (drop i l) ≡ 0
  unfolding line_len
  lf_here h e = rw (drop-cons l i 0 h) (simp (eq-eqb _ _ e))

  pub lf_next : i < length l → (get_or l i 0 ≡ 10 → ⊥) → line_len (drop i l) ≡ suc (line_len (drop (suc i) l))
  unfolding line_len
  lf_next h e = rw (drop-cons l i 0 h) (simp (ne_eqb _ _ e))

  pub lf_none : length l ≤ i → line_len (drop i l) ≡ 0
  unfolding line_len
  lf_none h = rw (drop_of_length-le l h)

-- an ended line, and the lines after it
lines_cut : (l : List ℕ) → line_len l < length l → lines l ≡ ended (take (line_len l) l) ∷ lines (drop (suc (line_len l)) l)
unfolding line_len lines onto
lines_cut [] h = absurd (omega arith)
lines_cut (b ∷ l) h =
    by_bool (eqb b 10) (λ e. rw e)
    (λ e.
    let k : cond (eqb b 10) zero (suc (line_len l)) < suc (length l) = h in
    let m : suc (line_len l) < suc (length l) = rw e at k in
    rw (e, lines_cut l (omega arith)))

-- text with no LF is one unended line
lines_uncut : (l : List ℕ) → length l ≤ line_len l → 0 < length l → lines l ≡ unended l ∷ []
unfolding line_len lines onto
lines_uncut [] h k = absurd (omega arith)
lines_uncut (b ∷ []) h k =
    by_bool (eqb b 10)
    (λ e. let m : suc zero ≤ cond (eqb b 10) zero (suc zero) = h in let n : suc zero ≤ zero = rw e at m in absurd (omega arith))
    (λ e. rw e)
lines_uncut (b ∷ d ∷ l) h k =
    by_bool (eqb b 10)
    (λ e. let m : suc (length (d ∷ l)) ≤ cond (eqb b 10) zero (suc (line_len (d ∷ l))) = h in let n : suc (length (d ∷ l)) ≤ zero = rw e at m in absurd (omega arith))
    (λ e.
    let m : suc (length (d ∷ l)) ≤ cond (eqb b 10) zero (suc (line_len (d ∷ l))) = h in
    let n : suc (length (d ∷ l)) ≤ suc (line_len (d ∷ l)) = rw e at m in
    rw (e, lines_uncut (d ∷ l) (omega arith) (omega arith)))

-- ---- frames

pub frames_none : (l : List ℕ) (i : ℕ) → length l ≤ i → frames_of (drop i l) ≡ []
unfolding frames_of lines
frames_none l i h = rw (drop_of_length-le l h)

-- an ended line at `at`: its frame, and the frames after it
pub frames_cut : (l : List ℕ) (at e : ℕ) → e ≡ at + line_len (drop at l) → e < length l
    → frames_of (drop at l) ≡ frame_of (take (e - at) (drop at l)) ∷ frames_of (drop (e + 1) l)
unfolding frames_of line_frame
frames_cut l at e h k =
    let m : line_len (drop at l) < length (drop at l) = rw length-drop (omega arith) in
    let n : e - at ≡ line_len (drop at l) = omega arith in
    let o : e + 1 ≡ at + suc (line_len (drop at l)) = omega arith in
    rw (lines_cut (drop at l) m, drop-drop (suc (line_len (drop at l))) at l, n, o)

pub first-cut : (l : List ℕ) (at e : ℕ) → e ≡ at + line_len (drop at l) → e < length l
    → first_frame (drop at l) ≡ frame_of (take (e - at) (drop at l))
unfolding first_frame
first-cut l at e h k =
    let m : line_len (drop at l) < length (drop at l) = rw length-drop (omega arith) in
    let n : e - at ≡ line_len (drop at l) = omega arith in
    rw n (simp (lt-ltb _ _ m))

pub frames_uncut : (l : List ℕ) (at : ℕ) → length l ≤ at + line_len (drop at l) → at < length l
    → frames_of (drop at l) ≡ bad BrokenLine ∷ frames_of (drop (length l) l)
unfolding frames_of line_frame lines
frames_uncut l at h k =
    let m : length (drop at l) ≤ line_len (drop at l) = rw length-drop (omega arith) in
    let n : 0 < length (drop at l) = rw length-drop (omega arith) in
    rw (lines_uncut (drop at l) m n, drop-length l)

pub first_uncut : (l : List ℕ) (at : ℕ) → length l ≤ at + line_len (drop at l) → at < length l
    → first_frame (drop at l) ≡ bad BrokenLine
unfolding first_frame
first_uncut l at h k =
    let m : length (drop at l) ≤ line_len (drop at l) = rw length-drop (omega arith) in
    simp (le-ltb _ _ m)
