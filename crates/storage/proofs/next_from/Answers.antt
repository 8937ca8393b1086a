-- `storage::next_from` meets its contract: each return decides the tests of `next_frame` as the code did. Assumes nothing.
use mathlib.Core.Path.{◌≡◌, ap, ◌∙◌}
use mathlib.Core.Bool.{true, false, cond}
use Prim.Native.Nat.{ℕ, ◌≤◌, ◌<◌}
use native.Mathlib.Omega.{arith}
use lib.Dec.{leb, ltb}
use borrow.Author.Tests.{le-leb, lt-leb, leb-true, lt-ltb, le-ltb, eq-eqb, ne_eqb}
use Rattle.choices.proofs.Choices.{cond_cases}
use Rattle.storage.specs.Cursor.{next_desc, next_frame, current, descriptors_here}
use Rattle.storage.specs.Fields.{descriptors_of}
use Rattle.storage.proofs.next_from.Goals as goal
use Rattle.storage.proofs.next_from.Goals.{Else-d-descriptors_here, Then-d-descriptors_here}

-- ---- whether a descriptor is left

left : (c : Then-d-descriptors_here) → let a = c.args in ltb a.t.descs (descriptors_here a.t a.table.now) ≡ true
left c = lt-ltb _ _ (rw c.descriptors_here.ensures at c.if-d-descriptors_here.true)

passed : (c : Else-d-descriptors_here) → let a = c.args in ltb a.t.descs (descriptors_here a.t a.table.now) ≡ false
passed c = le-ltb _ _ (rw c.descriptors_here.ensures at c.if-d-descriptors_here.false)

-- then a prototype is open
opened : (at n d : ℕ) → d < cond (leb 5 at) n 0 → 5 ≤ at
opened at n d = cond_cases (λ (m : ℕ). d < m → 5 ≤ at) (leb 5 at) n 0 (λ t h. leb-true 5 at t) (λ t h. absurd (omega arith))

pub overflow_sub-at : goal.overflow_sub-at
overflow_sub-at c =
    let a = c.args in
    let o : 5 ≤ a.t.entries = opened a.t.entries (descriptors_of a.table.now (current a.t)) a.t.descs (rw c.descriptors_here.ensures at c.if-d-descriptors_here.true) in
    omega arith

pub returns-then-table-at : goal.returns-then-table-at
unfolding next_frame
returns-then-table-at c = simp (lt-leb _ _ c.if-table-at.true)

pub returns-then-d-descriptors_here : goal.returns-then-d-descriptors_here
unfolding next_frame
returns-then-d-descriptors_here c =
    let l = (goal.at.returns-then-d-descriptors_here c).Then-d-descriptors_here in
    simp (le-leb _ _ c.if-table-at.false, left l) (c.next_desc.ensures ∙ ap next_desc c.descriptor.ensures)

pub returns-then-c-cs : goal.returns-then-c-cs
unfolding next_frame
returns-then-c-cs c =
    let o = (goal.at.returns-then-c-cs c).Else-d-descriptors_here in
    simp (le-leb _ _ c.if-table-at.false, passed o, lt-ltb _ _ c.if-c-cs.true) c.next_const.ensures

pub returns-then-k-ks : goal.returns-then-k-ks
unfolding next_frame
returns-then-k-ks c =
    let o = (goal.at.returns-then-k-ks c).Else-d-descriptors_here in
    simp (
      le-leb _ _ c.if-table-at.false,
      passed o,
      le-ltb _ _ c.if-c-cs.false,
      eq-eqb _ _ c.if-c-cs-2.true,
      lt-ltb _ _ c.if-k-ks.true,
    ) c.next_code.ensures

pub returns-then-k-ks-2 : goal.returns-then-k-ks-2
unfolding next_frame
returns-then-k-ks-2 c =
    let o = (goal.at.returns-then-k-ks-2 c).Else-d-descriptors_here in
    simp (
      le-leb _ _ c.if-table-at.false,
      passed o,
      le-ltb _ _ c.if-c-cs.false,
      eq-eqb _ _ c.if-c-cs-2.true,
      le-ltb _ _ c.if-k-ks.false,
      eq-eqb _ _ c.if-k-ks-2.true,
    ) c.next_entry.ensures

pub returns-then-c-cs-2 : goal.returns-then-c-cs-2
unfolding next_frame
returns-then-c-cs-2 c =
    let o = (goal.at.returns-then-c-cs-2 c).Else-d-descriptors_here in
    simp (
      le-leb _ _ c.if-table-at.false,
      passed o,
      le-ltb _ _ c.if-c-cs.false,
      eq-eqb _ _ c.if-c-cs-2.true,
      le-ltb _ _ c.if-k-ks.false,
      ne_eqb _ _ c.if-k-ks-2.false,
    )

pub returns : goal.returns
unfolding next_frame
returns c =
    let o = (goal.at.returns c).Else-d-descriptors_here in
    simp (le-leb _ _ c.if-table-at.false, passed o, le-ltb _ _ c.if-c-cs.false, ne_eqb _ _ c.if-c-cs-2.false)
