-- `storage::valid` meets its contract. The loop's invariant: what is left of an image from the cursor on, and the whole of it, go
-- together. So where the loop ends at e0 there is an image of that many bytes, and where it ends otherwise there is none. The measure
-- is what is left of 65,536 bytes. Assumes nothing.
use native.Mathlib.Omega.{arith}
use mathlib.Core.Path.{◌≡◌, sym, ◌∙◌}
use Rattle.image.specs.Judge.{frame_step}
use Rattle.image.specs.declared.Step.TheVariants.{On, Done}
use Rattle.storage.specs.Layout.{Storage, storage}
use Rattle.storage.proofs.Sizes.{size-pos}
use Rattle.storage.proofs.Walk.{Turn, walk_start, walk-over, on_small, done_small, walk_on, walk_no, walk_end, walk_only}
use Rattle.storage.proofs.Answer.{bytes, none}
use Rattle.storage.proofs.valid.Goals as goal
use Rattle.storage.proofs.valid.Goals.{After-step_on-u, In-Done, In-On}

-- ---- what is known once the frame has been judged

abbrev stored : After-step_on-u → Storage
stored c =
    let a = c.args in
    storage a.table.now a.code.now a.const_kinds.now a.const_words.now a.texts.now

turn : (c : After-step_on-u)
    → Turn c.loop-b.t c.loop-b.st c.loop-b.b (stored c)
    c.next_from-f.result
turn c =
    record {
      walk = c.loop-b.invariant;
      bytes = λ i. omega (arith, c.shared_slice_known-5-1.given i);
      says = c.next_from-f.ensures;
    }

-- ---- the needs

pub loop-b-init : goal.loop-b-init
loop-b-init c = walk_start _

pub next_from-f-requires : goal.next_from-f-requires
next_from-f-requires c =
    let w = c.loop-b.invariant in
    (omega (arith, w.entries, w.few), omega (arith, w.texts, c.loop-b-test.true))

pub step_on-u-requires : goal.step_on-u-requires
step_on-u-requires c = tt

pub returns-in-No : goal.returns-in-No
returns-in-No c = let s = c in none _ (walk_no (turn (goal.at.returns-in-No c).After-step_on-u) _ (sym s.step_on-u.ensures ∙ c.in-No.is))

done : (c : In-Done)
    → frame_step c.loop-b.st c.next_from-f.result ≡ Done
done c = sym c.step_on-u.ensures ∙ c.in-Done.is

pub size_of-requires : goal.size_of-requires
size_of-requires c = done_small (turn (goal.at.size_of-requires c).After-step_on-u) (done (goal.at.size_of-requires c).In-Done)

pub overflow_add-n : goal.overflow_add-n
overflow_add-n c =
    let d = c in
    omega (arith, done_small (turn (goal.at.overflow_add-n c).After-step_on-u) (done (goal.at.overflow_add-n c).In-Done), c.size_of.ensures, d.loop-b-test.true)

pub returns-then-n-gt65536 : goal.returns-then-n-gt65536
returns-then-n-gt65536 c =
    let d = c in
    none _ (λ n w. omega (arith, (walk_only (turn (goal.at.returns-then-n-gt65536 c).After-step_on-u) (done (goal.at.returns-then-n-gt65536 c).In-Done) n w).0, c.size_of.ensures, c.if-n-gt65536.true))

pub returns-then-prototypes-st : goal.returns-then-prototypes-st
returns-then-prototypes-st c =
    let i = c in
    let d = i in
    rw i.size_of.ensures
    (bytes
    (walk_end (turn (goal.at.returns-then-prototypes-st c).After-step_on-u) (done (goal.at.returns-then-prototypes-st c).In-Done) (omega (arith, i.if-n-gt65536.false, i.size_of.ensures))
    (sym c.prototypes.ensures ∙ c.if-prototypes-st.true)))

pub returns-in-Done : goal.returns-in-Done
returns-in-Done c =
    let d = c in
    none _ (λ n w. c.if-prototypes-st.false (c.prototypes.ensures ∙ (walk_only (turn (goal.at.returns-in-Done c).After-step_on-u) (done (goal.at.returns-in-Done c).In-Done) n w).1))

on : (c : In-On)
    → frame_step c.loop-b.st c.next_from-f.result
    ≡ On c.in-On.v
on c = sym c.step_on-u.ensures ∙ c.in-On.is

pub past_of-t-requires : goal.past_of-t-requires
past_of-t-requires c =
    let s = c in
    let w = s.loop-b.invariant in
    let h = s.loop-b-test.true in (
      on_small (turn (goal.at.past_of-t-requires c).After-step_on-u) _ (on (goal.at.past_of-t-requires c).In-On),
      (omega (arith, w.entries, w.few), (omega (arith, w.codes), (omega (arith, w.consts), (omega (arith, w.texts), omega (arith, w.descs))))),
    )

pub size_of-b-requires : goal.size_of-b-requires
size_of-b-requires c = let d = c in on_small (turn (goal.at.size_of-b-requires c).After-step_on-u) _ (on (goal.at.size_of-b-requires c).In-On)

pub overflow_add-b : goal.overflow_add-b
overflow_add-b c =
    let d = c in
    let h = d.loop-b-test.true in
    omega (arith, on_small (turn (goal.at.overflow_add-b c).After-step_on-u) _ (on (goal.at.overflow_add-b c).In-On), c.size_of-b.ensures)

pub loop-b-smaller : goal.loop-b-smaller
loop-b-smaller c =
    let s = c in
    omega (arith, size-pos s.next_from-f.result, c.size_of-b.ensures, s.loop-b-test.true)

pub loop-b-preserved : goal.loop-b-preserved
loop-b-preserved c =
    let d = c in
    rw (c.size_of-b.ensures, c.past_of-t.ensures) (walk_on (turn (goal.at.loop-b-preserved c).After-step_on-u) _ (on (goal.at.loop-b-preserved c).In-On))

pub returns : goal.returns
returns c = none _ (walk-over c.loop-b.invariant c.loop-b-test.false)
