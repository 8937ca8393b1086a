-- `reader::line::kind_frame` meets its contract: each return rewrites with the kinds that were tested. Assumes nothing.
use Rattle.std.proofs.Common.{sym, ◌∙◌, eq-eqb, ne_eqb}
use Rattle.image.specs.Frames.{shape, kind_bytes}
use Rattle.reader.proofs.line.kind_frame.Goals as goal

pub returns-then-k : goal.returns-then-k
unfolding kind_bytes
returns-then-k c =
    let e = c.byte_at-k.ensures in
    simp (eq-eqb _ _ (sym e ∙ c.if-k.true)) c.open_frame.ensures

pub returns-then-k-2 : goal.returns-then-k-2
unfolding kind_bytes
returns-then-k-2 c =
    let e = c.byte_at-k.ensures in
    simp (ne_eqb _ _ (λ d. c.if-k.false (e ∙ d)), eq-eqb _ _ (sym e ∙ c.if-k-2.true)) c.const_frame.ensures

pub returns-then-k-3 : goal.returns-then-k-3
unfolding kind_bytes
returns-then-k-3 c =
    let e = c.byte_at-k.ensures in
    simp (ne_eqb _ _ (λ d. c.if-k.false (e ∙ d)), ne_eqb _ _ (λ d. c.if-k-2.false (e ∙ d)), eq-eqb _ _ (sym e ∙ c.if-k-3.true)) c.code_frame.ensures

pub returns-then-k-4 : goal.returns-then-k-4
unfolding kind_bytes
returns-then-k-4 c =
    let e = c.byte_at-k.ensures in
    simp
    (ne_eqb _ _ (λ d. c.if-k.false (e ∙ d)), ne_eqb _ _ (λ d. c.if-k-2.false (e ∙ d)), ne_eqb _ _ (λ d. c.if-k-3.false (e ∙ d)), eq-eqb _ _ (sym e ∙ c.if-k-4.true))
    c.end_frame.ensures

pub returns-then-k-5 : goal.returns-then-k-5
unfolding kind_bytes
returns-then-k-5 c =
    let e = c.byte_at-k.ensures in
    simp (
      ne_eqb _ _ (λ d. c.if-k.false (e ∙ d)),
      ne_eqb _ _ (λ d. c.if-k-2.false (e ∙ d)),
      ne_eqb _ _ (λ d. c.if-k-3.false (e ∙ d)),
      ne_eqb _ _ (λ d. c.if-k-4.false (e ∙ d)),
      eq-eqb _ _ (sym e ∙ c.if-k-5.true),
    )
    c.desc_frame.ensures

pub returns : goal.returns
unfolding kind_bytes shape
returns c =
    let e = c.byte_at-k.ensures in
    simp (
      ne_eqb _ _ (λ d. c.if-k.false (e ∙ d)),
      ne_eqb _ _ (λ d. c.if-k-2.false (e ∙ d)),
      ne_eqb _ _ (λ d. c.if-k-3.false (e ∙ d)),
      ne_eqb _ _ (λ d. c.if-k-4.false (e ∙ d)),
      ne_eqb _ _ (λ d. c.if-k-5.false (e ∙ d)),
    )
