-- Lines put into the output: one at its front, one at a place, the values in a row; and how many values there are to put. Assumes nothing.
use Prim.Native.Nat.{ℕ, suc, ◌+◌, ◌-◌, ◌≤◌, ◌<◌}
use native.Mathlib.Omega.{arith}
use native.Mathlib.Nat.{zero-add}
use mathlib.Core.Path.{◌≡◌, sym, ap, ◌∙◌}
use mathlib.Core.List.{List, [], ◌++◌, append_assoc, append-nil}
use lib.ListN.{length, get_or, take, drop, length-drop, drop_of_length-le}
use lib.Seq.{sets-eq, take_all, drop-drop}
use borrow.Author.Tests.{eq-eqb, ne_eqb, le-leb}
use Rattle.writer.specs.Writing.{line_of, Lined}
use Rattle.writer.specs.Putting.{Room, Put}
use Rattle.writer.proofs.Puts.{Cut}
use Rattle.constant.specs.Values.{text_of}
use Rattle.cells.specs.Cells.{entry_in}
use Rattle.step.specs.declared.Outcome.{Outcome}
use Rattle.machine.specs.declared.Values.{Values}
use Rattle.deletion.specs.Lines.{value_bytes}
use Rattle.deletion.specs.Output.{value_line, value_lines, shown_of}

-- ---- one line

-- the same bytes
pub put_as : {l m out out' : List ℕ} {at r : ℕ} → l ≡ m → Put out at l r out' → Put out at m r out'
put_as e p = rw e at p

pub lined-put : {line out out' : List ℕ} {r : ℕ} → length line ≤ length out → Lined line r out out' → Put out 0 line r out'
lined-put {line} {out} {out'} {r} h p =
    let t = le-leb (length line) (length out) h in
    record {
      next = rw t at p.answer ∙ sym (zero-add (length line));
      left = rw t at p.left ∙ sym (sets-eq line out 0 (omega arith) ∙ rw (zero-add (length line)));
    }

-- at the front of the part from `at` on
pub part-put :
    (out : List ℕ) (at : ℕ) (line part : List ℕ) (n : ℕ) → Room out at line → Lined line n (take (length out - at) (drop at out)) part
    → Put out at line (at + n) (take at out ++ (part ++ drop (length out - at) (drop at out)))
part-put out at line part n room p =
    let size = length-drop at out in
    let all : take (length out - at) (drop at out) ≡ drop at out = take_all (length out - at) (drop at out) (omega arith) in
    let none : drop (length out - at) (drop at out) ≡ [] = drop_of_length-le (drop at out) {i = length out - at} (omega arith) in
    let q : Lined line n (drop at out) part = rw all at p in
    let t = le-leb (length line) (length (drop at out)) (omega arith) in
    let e : n ≡ length line = rw t at q.answer in
    let l : part ≡ line ++ drop (length line) (drop at out) = rw t at q.left in
    record {
      next = ap (λ (x : ℕ). at + x) e;
      left = rw (none, append-nil part, l, drop-drop (length line) at out)
          (sym (append_assoc (take at out) line (drop (at + length line) out)) ∙ sym (sets-eq line out at room));
    }

-- ---- values

module _ (C X F K W : List ℕ) where
  -- the line of a register's kind and word, and of the text or the prototype that the word names
  pub value-told :
      (r kind word : ℕ) (text : List ℕ) (q x : ℕ) → kind ≡ get_or K r 0 → word ≡ get_or W r 0 → text ≡ text_of C X word → x ≡ entry_in F word → q ≡ x - 1
      → line_of (value_bytes kind word text q) ≡ value_line C X F K W r
  unfolding value_line
  value-told r kind word text q x ek ew et ex eq = rw (et, eq, ex, ek, ew)

  -- what is left of n values from `first` on after i turns
  abbrev pub rest : ℕ → ℕ → ℕ → List ℕ
  rest n first i = value_lines C X F K W (n - i) (first + i)

  pub values-start : (n first : ℕ) → rest n first 0 ≡ value_lines C X F K W n first
  values-start n first =
      let a : n - 0 ≡ n = omega arith in
      let b : first + 0 ≡ first = omega arith in
      rw (a, b)

  pub values-turn : (n first i : ℕ) → i < n → Cut (rest n first i) (value_line C X F K W (first + i)) (rest n first (i + 1))
  unfolding value_lines
  values-turn n first i h =
      let a : n - i ≡ suc (n - (i + 1)) = omega arith in
      let b : first + (i + 1) ≡ first + i + 1 = omega arith in
      record { parts = rw (a, b) }

  pub values-done : (n first i : ℕ) → n ≤ i → rest n first i ≡ []
  unfolding value_lines
  values-done n first i h = let a : n - i ≡ 0 = omega arith in rw a

-- ---- how many of them are shown

module _ (o : Outcome) (v : Values) where
  pub shown-none : (o.number ≡ 0 → ⊥) → 0 ≡ shown_of o v
  unfolding shown_of
  shown-none h = rw (ne_eqb _ _ h)

  pub shown-all : o.number ≡ 0 → v.count ≡ shown_of o v
  unfolding shown_of
  shown-all h = rw (eq-eqb _ _ h)
