-- `deletion::output::put_value` meets its contract: the line of the register's kind and word, at the front of the part from `at` on. Assumes nothing.
use Prim.Native.Nat.{ℕ, ◌+◌}
use mathlib.Core.Path.{◌≡◌}
use mathlib.Core.List.{List}
use Rattle.writer.specs.Writing.{line_of}
use Rattle.writer.specs.Putting.{Room}
use Rattle.deletion.specs.Lines.{value_bytes}
use Rattle.deletion.specs.Output.{value_line}
use Rattle.deletion.proofs.Puts.{part-put, value-told, put_as}
use Rattle.deletion.proofs.output.put_value.Goals as goal
use Rattle.deletion.proofs.output.put_value.Goals.{After-value_line-n}

-- what was put, from where the line was put
module _ (c : After-value_line-n) where
  abbrev bytes : List ℕ
  bytes = value_bytes c.get-kind.result c.get-word.result c.text_of-text.result.now c.previous-q.result

  told :
      line_of bytes
      ≡ value_line c.args.const_words.now c.args.texts.now c.args.frames.now c.args.kinds.now c.args.words.now (c.args.first + c.args.i)
  told =
      value-told _ _ _ _ _ _ _ _ _ _ _ c.get-kind.ensures c.get-word.ensures c.text_of-text.ensures c.entry.ensures
      c.previous-q.ensures

  room : Room c.args.out.now c.args.at (line_of bytes)
  room = rw told c.requires

pub returns : goal.returns
returns c =
    let put = (goal.at.returns c).After-value_line-n in
    put_as (told put) (part-put c.args.out.now c.args.at _ _ _ (room put) c.value_line-n.ensures)
