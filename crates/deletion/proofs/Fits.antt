-- What the program writes for an image always fits in the output that it lends: a line says 66 bytes at most, since a string has at most 64, and a Return
-- names 255 registers at most. Assumes nothing.
use Prim.Native.Nat.{ℕ, zero, suc, ◌+◌, ◌*◌, ◌-◌, ◌/◌, ◌%◌, ◌≤◌, ◌<◌}
use native.Mathlib.Omega.{arith}
use native.Mathlib.Nat.{min-le_left}
use mathlib.Core.Path.{◌≡◌, refl}
use mathlib.Core.Bool.{true, false, cond, ◌&&◌}
use mathlib.Core.List.{List, [], ◌∷◌, ◌++◌}
use lib.ListN.{length, get_or, drop, length-append, length-take}
use lib.Dec.{eqb, ltb}
use borrow.Author.Tests.{eq-eqb, eqb-true, ltb-true}
use Rattle.choices.proofs.Choices.{by_bool, cond_cases, and_left, and_right}
use Rattle.slices.specs.Ranges.{text_at}
use Rattle.image.specs.Frames.{payload, frames_of}
use Rattle.std.specs.Prelude.{Ok, Err}
use Rattle.image.specs.Judge.{Judged}
use Rattle.image.specs.Write.{word_bytes, frame_bytes}
use Rattle.image.proofs.HexLaws.{hex-length}
use Rattle.storage.specs.Layout.{Storage, blank_storage}
use Rattle.storage.specs.Fields.{prototypes_of, registers_of, first_constant}
use Rattle.storage.specs.Stored.{reads_back}
use Rattle.storage.proofs.Six.{readable}
use Rattle.reader.specs.Reading.{read_of, left_of}
use Rattle.writer.specs.Writing.{line_of}
use Rattle.writer.proofs.Narrow.{narrow}
use Rattle.constant.specs.Values.{is_value}
use Rattle.state.specs.Frames.{depth_in, prototype_in, base_of}
use Rattle.state.specs.States.{State, blank_state}
use Rattle.state.proofs.Windows.{base-last}
use Rattle.cells.specs.Cells.{entry_in}
use Rattle.fitness.specs.Fit.{fit_of, there_in, value_fits, register_fits}
use Rattle.fitness.specs.Facts.{Valid}
use Rattle.fitness.proofs.Facts.{fit-facts}
use Rattle.checker.specs.Check.{Checked}
use Rattle.starter.specs.Start.{start_of}
use Rattle.step.specs.Run.{answer_of, standing_of, run_of}
use Rattle.step.specs.declared.Outcome.{Outcome}
use Rattle.machine.specs.Answers.{read_answer, check_answer}
use Rattle.machine.specs.Results.{returned_of, is_string}
use Rattle.machine.proofs.Inside.{string_short, values-window}
use Rattle.deletion.specs.Lines.{answer_bytes, value_bytes}
use Rattle.deletion.specs.Output.{Given, answer_line, value_line, value_lines, shown_of, returned_lines, ended_output, started_output, stored_output, read_output, output_of, output_size, AlwaysFits}

-- ---- a line has two digits for each byte, and LF

line-length : (l : List ℕ) → length (line_of l) ≡ 2 * length l + 1
line-length l = simp (length-append, hex-length)

word-length : (n w : ℕ) (l : List ℕ) → length (word_bytes n w l) ≡ n + length l
unfolding word_bytes
word-length zero w l = omega arith
word-length (suc n) w l = omega (arith, word-length n (w / 256) (w % 256 ∷ l))

ten : (o : Outcome) → length (answer_bytes o) ≡ 10
unfolding answer_bytes word_bytes
ten o = refl

pub answer-length : (o : Outcome) → length (answer_line o) ≡ 21
answer-length o = omega (arith, line-length (answer_bytes o), ten o)

-- ---- a value

payload-small : (k : ℕ) → payload k ≤ 8
unfolding payload
payload-small k =
    cond_cases (λ (n : ℕ). n ≤ 8) (eqb k 0) _ _ (λ _. omega arith)
    (λ _. cond_cases (λ (n : ℕ). n ≤ 8) (eqb k 1) _ _ (λ _. omega arith) (λ _. omega arith))

value-length : (k w : ℕ) (text : List ℕ) (q : ℕ) → (k ≡ 4 → length text ≤ 64) → length (value_bytes k w text q) ≤ 66
unfolding value_bytes frame_bytes
value-length k w text q h =
    cond_cases (λ (l : List ℕ). length l ≤ 66) (eqb k 4) _ _ (λ e. omega (arith, h (eqb-true k 4 e)))
    (λ _. cond_cases (λ (l : List ℕ). length l ≤ 66) (eqb k 5) _ _ (λ _. omega (arith, word-length 1 q []))
    (λ _. omega (arith, word-length (payload k) w [], payload-small k)))

text-length : (w : ℕ) (texts : List ℕ) → length (text_at w texts) ≤ w % 65536
text-length w texts = rw length-take (min-le_left (w % 65536) (length (drop (w / 65536) texts)))

module _ (S : Storage) where
  string_of : (f : List ℕ) (k w : ℕ) → value_fits S.table S.kinds f k w ≡ true → k ≡ 4 → is_string S w ≡ true
  unfolding value_fits is_string
  string_of f k w e four =
      let c = cond (eqb k 4) (ltb w (first_constant S.table (prototypes_of S.table)) && eqb (get_or S.kinds w 0) 4) true in
      let g : c ≡ true = and_right (is_value k w && cond (eqb k 5) (ltb 0 (entry_in f w)) true) c e in
      rw (eq-eqb k 4 four) at g

  module _ (s : State) (reads : reads_back S ≡ true) where
    register-length :
        (r : ℕ) → register_fits S.table S.kinds s.frames s.kinds s.words r ≡ true
        → length (value_line S.words S.texts s.frames s.kinds s.words r) ≤ 133
    unfolding register_fits value_line
    register-length r e =
        let k = get_or s.kinds r 0 in
        let w = get_or s.words r 0 in
        let x = get_or S.words w 0 in
        let q = entry_in s.frames w - 1 in
        let short : k ≡ 4 → length (text_at x S.texts) ≤ 64 = (λ f. let h = string_short S w reads (string_of s.frames k w e f) in
        omega (arith, text-length x S.texts)) in
        omega (arith, line-length (value_bytes k w (text_at x S.texts) q), value-length k w (text_at x S.texts) q short)

-- ---- values in a row

module _ (C X F K W : List ℕ) (m : ℕ) (short : (r : ℕ) → r < m → length (value_line C X F K W r) ≤ 133) where
  lines-length : (n r : ℕ) → r + n ≤ m → length (value_lines C X F K W n r) ≤ 133 * n
  unfolding value_lines
  lines-length zero r h = omega arith
  lines-length (suc n) r h =
      omega (
        arith,
        length-append (value_line C X F K W r) (value_lines C X F K W n (r + 1)),
        short r (omega arith),
        lines-length n (r + 1) (omega arith),
      )

-- ---- what was returned

module _ (S : Storage) (s : State) where
  abbrev F : List ℕ
  F = s.frames

  abbrev most : ℕ
  most = 133 * 255

  abbrev Short : ℕ → ℕ → Type 0
  Short n r = length (value_lines S.words S.texts F s.kinds s.words n r) ≤ most

  none-short : (r : ℕ) → Short 0 r
  unfolding value_lines
  none-short r = omega arith

  -- values in the innermost window of a fit machine, which has at most 255 registers
  window-short : fit_of S s ≡ true → (n r : ℕ) → r + n ≤ registers_of S.table (prototype_in F (depth_in F - 1)) → Short n r
  unfolding Valid there_in
  window-short f n r h =
      let fit = fit-facts S s f in
      let q = prototype_in F (depth_in F - 1) in
      let t = S.table in
      let here : ltb q (prototypes_of t) ≡ true = and_left _ _ (fit.stack.there (depth_in F - 1) (omega (arith, fit.stack.steady.some))) in
      let few = ((narrow (readable S fit.reads)).1 q (ltb-true _ _ here)).0 in
      let at : r + n ≤ base_of t F (depth_in F) = omega (arith, base-last t F (depth_in F) fit.stack.steady.some) in
      omega (
        arith,
        lines-length S.words S.texts F s.kinds s.words (base_of t F (depth_in F))
            (λ j l. register-length S s fit.reads j (fit.valid j l)) n r at,
      )

  standing-fit : (standing_of S s).number ≡ 0 → fit_of S s ≡ true
  unfolding standing_of
  standing-fit = by_bool (fit_of S s) (λ f n. f) (λ f. rw f (λ n. absurd (omega arith)))

  standing-at : fit_of S s ≡ true → (standing_of S s).prototype ≡ prototype_in F (depth_in F - 1)
  unfolding standing_of answer_of
  standing-at f = rw f

  none-returned : eqb (standing_of S s).number 0 ≡ false → (returned_of S s).count ≡ 0
  unfolding returned_of
  none-returned n = rw n

  returned-short : Short (returned_of S s).count (returned_of S s).first
  returned-short =
      by_bool (eqb (standing_of S s).number 0)
      (λ n. let f = standing-fit (eqb-true _ _ n) in
      window-short f _ _ (rw (standing-at f) at (values-window S s (eqb-true _ _ n))))
      (λ n. rw (none-returned n) (none-short _))

  pub run_fits : (o : Outcome) → length (answer_line o ++ returned_lines S s o (returned_of S s)) ≤ output_size
  unfolding returned_lines shown_of
  run_fits o =
      let v = returned_of S s in
      let short : Short (shown_of o v) v.first = cond_cases (λ (n : ℕ). Short n v.first) (eqb o.number 0) _ _ (λ _. returned-short) (λ _. none-short _) in
      omega (arith, length-append (answer_line o) (returned_lines S s o v), answer-length o)

-- ---- the whole, whatever was refused

started-fits : (allowed : ℕ) (S : Storage) (c : Checked) (s : State) → length (started_output allowed S c s) ≤ output_size
unfolding started_output ended_output
started-fits allowed S (Ok u) s = run_fits S (run_of S allowed s).state (run_of S allowed s).answer
started-fits allowed S (Err r) s = omega (arith, answer-length (check_answer (Err r)))

read_fits : (g : Given) (j : Judged) (S : Storage) → length (read_output g j S) ≤ output_size
unfolding read_output stored_output
read_fits g (Ok n) S =
    let start = start_of S g.arg_kinds g.arg_words blank_state in
    started-fits g.budget S start.answer start.state
read_fits g (Err r) S = omega (arith, answer-length (read_answer (Err r)))

pub output-fits : AlwaysFits
unfolding output_of
output-fits g image = read_fits g (read_of image blank_storage) (left_of (read_of image blank_storage) (frames_of image) blank_storage)
