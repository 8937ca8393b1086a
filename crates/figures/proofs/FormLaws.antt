-- The grammar's forms against the definitions of `figure_of`: a text of the form is read so (`read-text`), and a text that is read has the form
-- (`figure_shape`). Assumes nothing.
use Rattle.std.proofs.Common.{◌≡◌, ℕ, ◌<◌, ◌≤◌, Bool, true, false, cond, ◌&&◌, eqb, ◌⊎◌, List, [], ◌∷◌, ◌++◌, length, ℤ, pos, sym, refl, ap, ◌∙◌, subst, Option, Some, None, inl, inr, append_assoc, arith, eq-eqb, ne_eqb, eqb-true}
use mathlib.Core.Bool.{false≢true}
use lib.Ieee.{minus}
use Rattle.choices.proofs.Choices.{cond-split, and_left, and_right, and-fails}
use Rattle.integer.specs.Wrap.{wrap}
use Rattle.number.specs.Exact.{signed}
use Rattle.figures.specs.Texts.{first, rest, is_empty, drop_blanks, only_blanks, is_x, is_e, digit, digits, after_digits, value_from, significand, zeros}
use Rattle.figures.specs.Figures.{fraction, fits_integer, whole, raised, power, exponent, pointed, with_point, without_point, decimal_text, hex_text, unsigned, figure_of}
use Rattle.figures.specs.Grammar.{Blanks, SignBytes, no_sign, plus_sign, minus_sign, DigitRun, no_digit, next_digit, ExponentPart, exponent_part, OptionalExponent, no_exponent, an_exponent, Literal, decimal_integer, hex_integer, decimal_fraction, Body, decimal_digits, hex_digits, with-point, with_exponent, FigureText, figure_text}
use Rattle.figures.specs.declared.Figure.{Figure}
use Rattle.figures.specs.declared.Figure.TheVariants.{Integer}
use Rattle.figures.proofs.DigitLaws.{small-append}
use Rattle.figures.proofs.RunLaws.{no-blank-high, no-x, no-e, is-one_of, no-digit-low, decimal-range, not-empty, some-digit, begins, blanks-first, blanks-only, only-blanks, blanks-drop, blanks-off, run_small, run-first, run-digits, run-after, decimal-off, hex-off}
use Rattle.figures.proofs.ValueLaws.{net_power, raised_net, net_plain, net_whole, scaled, Yields}

-- ---- what is of the form is read so

-- what follows digits: it is no digit, and no x, behind which a 0 would begin a 0x integer
record Stops (u : List ℕ) : Type 0 where
  no_more : 10 ≤ digit (first u)
  no_zero : eqb (first u) 48 ≡ false
  no_letter : is_x (first u) ≡ false

stops_at : (u : List ℕ) → first u < 48 → Stops u
stops_at u h = record { no_more = rw (no-digit-low (first u) h) (omega arith); no_zero = ne_eqb (first u) 48 (λ e. omega arith); no_letter = no-x (first u) (omega arith) }

stops-blank : {u : List ℕ} → Blanks u → Stops u
stops-blank {u} B = stops_at u (let h : first u < 33 = blanks-first B in omega arith)

stops-e : (u : List ℕ) → is_e (first u) ≡ true → Stops u
stops-e u h = go (is-one_of (first u) 101 69 h)
  where
    at : (c : ℕ) → digit c ≡ 14 → eqb c 48 ≡ false → is_x c ≡ false → first u ≡ c → Stops u
    at c p q r e = record { no_more = rw (e, p) (omega arith); no_zero = rw e q; no_letter = rw e r }

    go : (first u ≡ 101) ⊎ (first u ≡ 69) → Stops u
    go (inl e) = at 101 (unfold digit in refl) refl refl e
    go (inr e) = at 69 (unfold digit in refl) refl refl e

not-hex : {t ds : List ℕ} → DigitRun 10 t ds → (u : List ℕ) → Stops u → eqb (first (t ++ u)) 48 && is_x (first (rest (t ++ u))) ≡ false
unfolding first rest
not-hex no_digit u S = rw S.no_zero
not-hex (next_digit {b = b} d k no_digit) u S = and-fails (eqb b 48) (is_x (first u)) S.no_letter
not-hex (next_digit {b = b} d k (next_digit {b = c} g m r)) u S = and-fails (eqb b 48) (is_x c) (no-x c (let h : c ≤ 57 = (decimal-range g m).1 in omega arith))

module _ (s : Bool) {t ds : List ℕ} (R : DigitRun 10 t ds) (u : List ℕ) (S : Stops u) where
  read-decimal : unsigned s (t ++ u) ≡ decimal_text s (t ++ u)
  unfolding unsigned
  read-decimal = rw (not-hex R u S)

  read_plain : eqb (first u) 46 ≡ false → unsigned s (t ++ u) ≡ without_point s ds u
  unfolding decimal_text
  read_plain h = read-decimal ∙ rw (run-after 10 R u S.no_more, run-digits 10 R u S.no_more, h)

  read_point : first u ≡ 46 → unsigned s (t ++ u) ≡ with_point s ds (digits 10 (rest u)) (after_digits 10 (rest u))
  unfolding decimal_text
  read_point h = read-decimal ∙ rw (run-after 10 R u S.no_more, run-digits 10 R u S.no_more, eq-eqb (first u) 46 h)

module _ (s : Bool) (d z p : ℕ) where
  read-power : {t ds u : List ℕ} (b : Bool) → DigitRun 10 t ds → 1 ≤ length ds → Blanks u → power s d z p b (t ++ u) ≡ fraction s d (net_power z p (signed b (value_from 10 0 ds)))
  unfolding power
  read-power {ds = ds} {u = u} b R n B =
      rw (run-digits 10 R u stop, run-after 10 R u stop, not-empty ds n, blanks-only B) (raised_net s d z p b (value_from 10 0 ds))
    where
      stop : 10 ≤ digit (first u)
      stop = (stops-blank B).no_more

  read-exponent : {mark t ds u : List ℕ} {b : Bool} → SignBytes mark b → DigitRun 10 t ds → 1 ≤ length ds → Blanks u
      → exponent s d z p ((mark ++ t) ++ u) ≡ fraction s d (net_power z p (signed b (value_from 10 0 ds)))
  unfolding exponent first rest
  read-exponent minus_sign R n B = read-power true R n B
  read-exponent plus_sign R n B = read-power false R n B
  read-exponent {t = t} {u = u} no_sign R n B =
      let h : (48 ≤ first (t ++ u)) × (first (t ++ u) ≤ 57) = run-first R n u in
      rw (ne_eqb (first (t ++ u)) 45 (λ e. omega arith), ne_eqb (first (t ++ u)) 43 (λ e. omega arith)) (read-power false R n B)

  read-pointed : {q u : List ℕ} {x : ℤ} → OptionalExponent q x → Blanks u → pointed s d z p (q ++ u) ≡ fraction s d (net_power z p x)
  unfolding pointed first rest
  read-pointed {u = u} no_exponent B = rw (no-e (first u) (let h : first u < 33 = blanks-first B in omega arith), blanks-only B) (ap (fraction s d) (net_plain z p))
  read-pointed (an_exponent (exponent_part h m R n)) B = rw h (read-exponent m R n B)

-- the four forms of a body

stops-exponent : {q : List ℕ} {x : ℤ} (u : List ℕ) → ExponentPart q x → Stops (q ++ u)
unfolding first
stops-exponent u (exponent_part {letter = c} {mark = m} {t = t} h M R n) = stops-e (c ∷ ((m ++ t) ++ u)) h

stops_optional : {q u : List ℕ} {x : ℤ} → OptionalExponent q x → Blanks u → Stops (q ++ u)
stops_optional no_exponent B = stops-blank B
stops_optional {u = u} (an_exponent e) B = stops-exponent u e

module _ (s : Bool) {u : List ℕ} (B : Blanks u) where
  read_whole : (ds : List ℕ) → 1 ≤ length ds
      → without_point s ds u ≡ cond (fits_integer s (value_from 10 0 ds)) (Some (Integer (signed s (value_from 10 0 ds)))) (fraction s (significand 0 0 ds) (net_power (zeros 0 ds) 0 (pos 0)))
  unfolding without_point whole
  read_whole ds n =
      rw (not-empty ds n, no-e (first u) (let h : first u < 33 = blanks-first B in omega arith), blanks-only B)
      (ap (λ (e : ℤ). cond (fits_integer s (value_from 10 0 ds)) (Some (Integer (signed s (value_from 10 0 ds)))) (fraction s (significand 0 0 ds) e)) (net_whole (zeros 0 ds)))

  read-hex : (x : ℕ) {t ds : List ℕ} → is_x x ≡ true → DigitRun 16 t ds → 1 ≤ length ds → unsigned s (48 ∷ x ∷ (t ++ u)) ≡ Some (Integer (wrap (signed s (value_from 16 0 ds))))
  unfolding unsigned hex_text first rest
  read-hex x {ds = ds} h R n = rw (h, run-digits 16 R u stop, run-after 16 R u stop, not-empty ds n, blanks-only B)
    where
      stop : 16 ≤ digit (first u)
      stop = rw (no-digit-low (first u) (let h : first u < 33 = blanks-first B in omega arith)) (omega arith)

  read-with_point : {t b q before behind : List ℕ} {x : ℤ} → DigitRun 10 t before → DigitRun 10 b behind → 1 ≤ length (before ++ behind) → OptionalExponent q x
      → unsigned s (t ++ (46 ∷ (b ++ (q ++ u)))) ≡ fraction s (significand 0 0 (before ++ behind)) (net_power (zeros 0 (before ++ behind)) (length behind) x)
  unfolding with_point first rest
  read-with_point {b = b} {q = q} {before = before} {behind = behind} R R' n E =
      read_point s R (46 ∷ (b ++ (q ++ u))) (stops_at (46 ∷ (b ++ (q ++ u))) (omega arith)) refl
      ∙ rw (run-digits 10 R' (q ++ u) (stops_optional E B).no_more, run-after 10 R' (q ++ u) (stops_optional E B).no_more, not-empty (before ++ behind) n)
      (read-pointed s (significand 0 0 (before ++ behind)) (zeros 0 (before ++ behind)) (length behind) E B)

  read-with-exponent : {t q ds : List ℕ} {x : ℤ} → DigitRun 10 t ds → 1 ≤ length ds → ExponentPart q x
      → unsigned s (t ++ (q ++ u)) ≡ fraction s (significand 0 0 ds) (net_power (zeros 0 ds) 0 x)
  unfolding without_point first rest
  read-with-exponent {ds = ds} R n (exponent_part {letter = c} {mark = m} {t = t} h M R' n') =
      read_plain s R (c ∷ ((m ++ t) ++ u)) (stops-e (c ∷ ((m ++ t) ++ u)) h) (no_point (is-one_of c 101 69 h))
      ∙ rw (not-empty ds n, h) (read-exponent s (significand 0 0 ds) (zeros 0 ds) 0 M R' n' B)
    where
      no_point : (c ≡ 101) ⊎ (c ≡ 69) → eqb c 46 ≡ false
      no_point (inl e) = ne_eqb c 46 (λ k. omega arith)
      no_point (inr e) = ne_eqb c 46 (λ k. omega arith)

regroup : (t b q u : List ℕ) → (t ++ (46 ∷ (b ++ q))) ++ u ≡ t ++ (46 ∷ (b ++ (q ++ u)))
regroup t b q u = append_assoc t (46 ∷ (b ++ q)) u ∙ ap (λ (l : List ℕ). t ++ (46 ∷ l)) (append_assoc b q u)

read-body : (s : Bool) {body u : List ℕ} {l : Literal} → Body body l → Blanks u → Yields s l (unsigned s (body ++ u))
read-body s {u = u} (decimal_digits {ds = ds} R n) B = (
  significand 0 0 ds,
  zeros 0 ds,
  scaled ds (run_small R),
  read_plain s R u (stops-blank B) (ne_eqb (first u) 46 (λ e. let h : first u < 33 = blanks-first B in omega arith)) ∙ read_whole s B ds n,
)
read-body s (hex_digits {x = x} h R n) B = read-hex s B x h R n
read-body s {u = u} (with-point {t = t} {u = b} {p = q} {before = before} {behind = behind} R R' n E) B = (
  significand 0 0 (before ++ behind),
  zeros 0 (before ++ behind),
  scaled (before ++ behind) (small-append before behind (run_small R) (run_small R')),
  ap (unsigned s) (regroup t b q u) ∙ read-with_point s B R R' n E,
)
read-body s {u = u} (with_exponent {t = t} {p = q} {ds = ds} R n E) B =
    (significand 0 0 ds, zeros 0 ds, scaled ds (run_small R), ap (unsigned s) (append_assoc t q u) ∙ read-with-exponent s B R n E)

-- blanks and sign before it

body-first : {body : List ℕ} {l : Literal} → Body body l → (u : List ℕ) → 46 ≤ first (body ++ u)
unfolding first
body-first (decimal_digits R n) u = omega (arith, run-first R n u)
body-first (hex_digits h R n) u = omega arith
body-first (with-point no_digit R' n E) u = omega arith
body-first (with-point (next_digit d k R) R' n E) u = omega (arith, decimal-range d k)
body-first (with_exponent no_digit n E) u = absurd (omega arith)
body-first (with_exponent (next_digit d k R) n E) u = omega (arith, decimal-range d k)

read-signed : {before mark : List ℕ} {s : Bool} → Blanks before → SignBytes mark s → (r : List ℕ) → 46 ≤ first r → figure_of (before ++ (mark ++ r)) ≡ unsigned s r
unfolding figure_of first rest
read-signed B minus_sign r h = rw (blanks-drop B (45 ∷ r) refl)
read-signed B plus_sign r h = rw (blanks-drop B (43 ∷ r) refl)
read-signed B no_sign r h =
    rw (blanks-drop B r (no-blank-high (first r) (omega arith)), ne_eqb (first r) 45 (λ e. omega arith), ne_eqb (first r) 43 (λ e. omega arith))

pub read-text : {t : List ℕ} {s : Bool} {l : Literal} → FigureText t s l → Yields s l (figure_of t)
read-text (figure_text {body = body} {after = after} {s = s} {l = l} B M Y A) =
    subst (λ (f : Option Figure). Yields s l f) (sym (read-signed B M (body ++ after) (body-first Y after))) (read-body s Y A)

-- ---- and what is read is of the form

abbrev pub Something : Option Figure → Type 0
Something f = f ≡ None → ⊥

record PowerShape (r : List ℕ) : Type 0 where
  text : List ℕ
  values : List ℕ
  after : List ℕ
  run : DigitRun 10 text values
  many : 1 ≤ length values
  blanks : Blanks after
  parts : r ≡ text ++ after

power-shape : (s : Bool) (d z p : ℕ) (b : Bool) (r : List ℕ) → Something (power s d z p b r) → PowerShape r
unfolding power
power-shape s d z p b r n =
    cond-split Something (is_empty (digits 10 r)) None (cond (only_blanks (after_digits 10 r)) (raised s d z p b (value_from 10 0 (digits 10 r))) None) n (λ _ k. absurd (k refl))
    (λ h k. cond-split Something (only_blanks (after_digits 10 r)) (raised s d z p b (value_from 10 0 (digits 10 r))) None k (λ i _. made h i) (λ _ m. absurd (m refl)))
  where
    made : is_empty (digits 10 r) ≡ false → only_blanks (after_digits 10 r) ≡ true → PowerShape r
    made h k = record {
      text = (decimal-off r).0;
      values = digits 10 r;
      after = after_digits 10 r;
      run = (decimal-off r).1;
      many = some-digit (digits 10 r) h;
      blanks = only-blanks (after_digits 10 r) k;
      parts = (decimal-off r).2;
    }

-- an exponent and what follows it
record TailShape (Part : List ℕ → ℤ → Type 0) (r : List ℕ) : Type 0 where
  part : List ℕ
  exponent : ℤ
  after : List ℕ
  form : Part part exponent
  blanks : Blanks after
  parts : r ≡ part ++ after

signed-shape : (c : ℕ) → is_e c ≡ true → {mark : List ℕ} {b : Bool} → SignBytes mark b → (r q : List ℕ) → r ≡ mark ++ q → PowerShape q → TailShape ExponentPart (c ∷ r)
signed-shape c h {mark} {b} M r q e P = record {
  part = c ∷ (mark ++ P.text);
  exponent = signed b (value_from 10 0 P.values);
  after = P.after;
  form = exponent_part h M P.run P.many;
  blanks = P.blanks;
  parts = ap (λ (l : List ℕ). c ∷ l) (e ∙ ap (λ (l : List ℕ). mark ++ l) P.parts ∙ sym (append_assoc mark P.text P.after));
}

exponent-shape : (s : Bool) (d z p c : ℕ) → is_e c ≡ true → (r : List ℕ) → Something (exponent s d z p r) → TailShape ExponentPart (c ∷ r)
unfolding exponent
exponent-shape s d z p c e r n =
    cond-split Something (eqb (first r) 45) (power s d z p true (rest r)) (cond (eqb (first r) 43) (power s d z p false (rest r)) (power s d z p false r)) n
    (λ h k. signed-shape c e minus_sign r (rest r) (begins r 45 (eqb-true (first r) 45 h) (λ y. omega arith)) (power-shape s d z p true (rest r) k))
    (λ _ k. cond-split Something (eqb (first r) 43) (power s d z p false (rest r)) (power s d z p false r) k
    (λ h m. signed-shape c e plus_sign r (rest r) (begins r 43 (eqb-true (first r) 43 h) (λ y. omega arith)) (power-shape s d z p false (rest r) m))
    (λ _ m. signed-shape c e no_sign r r refl (power-shape s d z p false r m)))

letter_first : (r : List ℕ) → is_e (first r) ≡ true → r ≡ first r ∷ rest r
letter_first r h = begins r (first r) refl (λ e. false≢true (ap is_e (sym e) ∙ h))

letter_shape : (s : Bool) (d z p : ℕ) (r : List ℕ) → is_e (first r) ≡ true → Something (exponent s d z p (rest r)) → TailShape ExponentPart r
letter_shape s d z p r h n = subst (TailShape ExponentPart) (sym (letter_first r h)) (exponent-shape s d z p (first r) h (rest r) n)

pointed-shape : (s : Bool) (d z p : ℕ) (r : List ℕ) → Something (pointed s d z p r) → TailShape OptionalExponent r
unfolding pointed
pointed-shape s d z p r n =
    cond-split Something (is_e (first r)) (exponent s d z p (rest r)) (cond (only_blanks r) (fraction s d (minus z p)) None) n (λ h k. allowed (letter_shape s d z p r h k))
    (λ _ k. cond-split Something (only_blanks r) (fraction s d (minus z p)) None k
    (λ h _. record { part = []; exponent = pos 0; after = r; form = no_exponent; blanks = only-blanks r h; parts = refl }) (λ _ m. absurd (m refl)))
  where
    allowed : TailShape ExponentPart r → TailShape OptionalExponent r
    allowed T = record { part = T.part; exponent = T.exponent; after = T.after; form = an_exponent T.form; blanks = T.blanks; parts = T.parts }

-- a body and what follows it
record Shape (r : List ℕ) : Type 0 where
  body : List ℕ
  literal : Literal
  after : List ℕ
  form : Body body literal
  blanks : Blanks after
  parts : r ≡ body ++ after

hex-shape : (s : Bool) (r : List ℕ) → first r ≡ 48 → is_x (first (rest r)) ≡ true → Something (hex_text s (rest (rest r))) → Shape r
unfolding hex_text
hex-shape s r e x n =
    cond-split Something (is_empty (digits 16 q)) None (cond (only_blanks (after_digits 16 q)) (Some (Integer (wrap (signed s (value_from 16 0 (digits 16 q)))))) None) n (λ _ k. absurd (k refl))
    (λ h k. cond-split Something (only_blanks (after_digits 16 q)) (Some (Integer (wrap (signed s (value_from 16 0 (digits 16 q)))))) None k (λ i _. made h i) (λ _ m. absurd (m refl)))
  where
    q : List ℕ
    q = rest (rest r)

    opens : r ≡ 48 ∷ first (rest r) ∷ q
    opens = begins r 48 e (λ y. omega arith) ∙ ap (λ (l : List ℕ). 48 ∷ l) (begins (rest r) (first (rest r)) refl (λ y. false≢true (ap is_x (sym y) ∙ x)))

    made : is_empty (digits 16 q) ≡ false → only_blanks (after_digits 16 q) ≡ true → Shape r
    made h k = record {
      body = 48 ∷ first (rest r) ∷ (hex-off q).0;
      literal = hex_integer (value_from 16 0 (digits 16 q));
      after = after_digits 16 q;
      form = hex_digits x (hex-off q).1 (some-digit (digits 16 q) h);
      blanks = only-blanks (after_digits 16 q) k;
      parts = opens ∙ ap (λ (l : List ℕ). 48 ∷ first (rest r) ∷ l) (hex-off q).2;
    }

point_shape : (s : Bool) (r q : List ℕ) → after_digits 10 r ≡ 46 ∷ q → Something (with_point s (digits 10 r) (digits 10 q) (after_digits 10 q)) → Shape r
unfolding with_point
point_shape s r q e n =
    cond-split Something (is_empty (digits 10 r ++ digits 10 q)) None
    (pointed s (significand 0 0 (digits 10 r ++ digits 10 q)) (zeros 0 (digits 10 r ++ digits 10 q)) (length (digits 10 q)) (after_digits 10 q)) n (λ _ k. absurd (k refl))
    (λ h k. made h (pointed-shape s (significand 0 0 (digits 10 r ++ digits 10 q)) (zeros 0 (digits 10 r ++ digits 10 q)) (length (digits 10 q)) (after_digits 10 q) k))
  where
    made : is_empty (digits 10 r ++ digits 10 q) ≡ false → TailShape OptionalExponent (after_digits 10 q) → Shape r
    made h T = record {
      body = (decimal-off r).0 ++ (46 ∷ ((decimal-off q).0 ++ T.part));
      literal = decimal_fraction (value_from 10 0 (digits 10 r ++ digits 10 q)) (length (digits 10 q)) T.exponent;
      after = T.after;
      form = with-point (decimal-off r).1 (decimal-off q).1 (some-digit (digits 10 r ++ digits 10 q) h) T.form;
      blanks = T.blanks;
      parts =
          (decimal-off r).2
          ∙ ap (λ (l : List ℕ). (decimal-off r).0 ++ l) (e ∙ ap (λ (l : List ℕ). 46 ∷ l) ((decimal-off q).2 ∙ ap (λ (l : List ℕ). (decimal-off q).0 ++ l) T.parts))
          ∙ sym (regroup (decimal-off r).0 (decimal-off q).0 T.part T.after);
    }

plain-shape : (s : Bool) (r : List ℕ) → Something (without_point s (digits 10 r) (after_digits 10 r)) → Shape r
unfolding without_point whole
plain-shape s r n =
    cond-split Something (is_empty ds) None (cond (is_e (first u)) (exponent s d z 0 (rest u)) (cond (only_blanks u) number None)) n (λ _ k. absurd (k refl))
    (λ h k. cond-split Something (is_e (first u)) (exponent s d z 0 (rest u)) (cond (only_blanks u) number None) k (λ i m. raised_by h (letter_shape s d z 0 u i m))
    (λ _ m. cond-split Something (only_blanks u) number None m (λ i _. plain h i) (λ _ o. absurd (o refl))))
  where
    ds : List ℕ
    ds = digits 10 r

    u : List ℕ
    u = after_digits 10 r

    d : ℕ
    d = significand 0 0 ds

    z : ℕ
    z = zeros 0 ds

    number : Option Figure
    number = cond (fits_integer s (value_from 10 0 ds)) (Some (Integer (signed s (value_from 10 0 ds)))) (fraction s d (pos z))

    raised_by : is_empty ds ≡ false → TailShape ExponentPart u → Shape r
    raised_by h T = record {
      body = (decimal-off r).0 ++ T.part;
      literal = decimal_fraction (value_from 10 0 ds) 0 T.exponent;
      after = T.after;
      form = with_exponent (decimal-off r).1 (some-digit ds h) T.form;
      blanks = T.blanks;
      parts = (decimal-off r).2 ∙ ap (λ (l : List ℕ). (decimal-off r).0 ++ l) T.parts ∙ sym (append_assoc (decimal-off r).0 T.part T.after);
    }

    plain : is_empty ds ≡ false → only_blanks u ≡ true → Shape r
    plain h k = record {
      body = (decimal-off r).0;
      literal = decimal_integer (value_from 10 0 ds);
      after = u;
      form = decimal_digits (decimal-off r).1 (some-digit ds h);
      blanks = only-blanks u k;
      parts = (decimal-off r).2;
    }

decimal-shape : (s : Bool) (r : List ℕ) → Something (decimal_text s r) → Shape r
unfolding decimal_text
decimal-shape s r n =
    cond-split Something (eqb (first (after_digits 10 r)) 46) (with_point s (digits 10 r) (digits 10 (rest (after_digits 10 r))) (after_digits 10 (rest (after_digits 10 r)))) (without_point s (digits 10 r) (after_digits 10 r)) n
    (λ h k. point_shape s r (rest (after_digits 10 r)) (begins (after_digits 10 r) 46 (eqb-true (first (after_digits 10 r)) 46 h) (λ y. omega arith)) k) (λ _ k. plain-shape s r k)

unsigned-shape : (s : Bool) (r : List ℕ) → Something (unsigned s r) → Shape r
unfolding unsigned
unsigned-shape s r n =
    cond-split Something (eqb (first r) 48 && is_x (first (rest r))) (hex_text s (rest (rest r))) (decimal_text s r) n
    (λ h k. hex-shape s r (eqb-true (first r) 48 (and_left (eqb (first r) 48) (is_x (first (rest r))) h)) (and_right (eqb (first r) 48) (is_x (first (rest r))) h) k) (λ _ k. decimal-shape s r k)

pub record TextShape (t : List ℕ) : Type 0 where
  pub sign : Bool
  pub literal : Literal
  pub form : FigureText t sign literal

pub figure_shape : (t : List ℕ) → Something (figure_of t) → TextShape t
unfolding figure_of
figure_shape t n =
    cond-split Something (eqb (first r) 45) (unsigned true (rest r)) (cond (eqb (first r) 43) (unsigned false (rest r)) (unsigned false r)) n
    (λ h k. made minus_sign (rest r) (begins r 45 (eqb-true (first r) 45 h) (λ y. omega arith)) (unsigned-shape true (rest r) k))
    (λ _ k. cond-split Something (eqb (first r) 43) (unsigned false (rest r)) (unsigned false r) k
    (λ h m. made plus_sign (rest r) (begins r 43 (eqb-true (first r) 43 h) (λ y. omega arith)) (unsigned-shape false (rest r) m))
    (λ _ m. made no_sign r refl (unsigned-shape false r m)))
  where
    r : List ℕ
    r = drop_blanks t

    made : {mark : List ℕ} {s : Bool} → SignBytes mark s → (q : List ℕ) → r ≡ mark ++ q → Shape q → TextShape t
    made {mark} {s} M q e Q = record {
      sign = s;
      literal = Q.literal;
      form =
          subst (λ (l : List ℕ). FigureText l s Q.literal) (sym ((blanks-off t).2 ∙ ap (λ (l : List ℕ). (blanks-off t).0 ++ l) (e ∙ ap (λ (l : List ℕ). mark ++ l) Q.parts)))
          (figure_text (blanks-off t).1 M Q.form Q.blanks);
    }
