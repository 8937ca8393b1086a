-- The bytes that the program's lines say: "`f0`, answer (1 byte), count (4), prototype (1), instruction (2; for reading, prototype 0 and the line), then each
-- returned value as a `b0` line, a function as tag 05 and its prototype." Document 02, 5/12: "The result line gains a last byte for" the operand that is named, "0
-- where nothing is named." 6/12: "A returned function prints its prototype as before." Assumes nothing.
use Rattle.std.specs.Prelude.{ℕ, List, [], ◌∷◌, eqb, cond}
use Rattle.image.specs.Frames.{const, str}
use Rattle.image.specs.Write.{word_bytes, frame_bytes}
use Rattle.step.specs.declared.Outcome.{Outcome}

unfoldable pub answer_bytes : Outcome → List ℕ
answer_bytes o =
    0xf0 ∷ o.number ∷ word_bytes 4 o.count (word_bytes 1 o.prototype (word_bytes 2 o.instruction (word_bytes 1 o.operand [])))

-- of a kind and a word, as a register holds them; `text` is what a string says, `prototype` what a function's entry does
unfoldable pub value_bytes : ℕ → ℕ → List ℕ → ℕ → List ℕ
value_bytes kind word text prototype =
    cond (eqb kind 4) (frame_bytes (str text)) (cond (eqb kind 5) (0xb0 ∷ 5 ∷ word_bytes 1 prototype []) (frame_bytes (const kind word)))
