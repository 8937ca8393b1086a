-- `reader::fill::put_entry` meets its contract: four stores, one after the other. Assumes nothing.
use Rattle.reader.proofs.PutLaws.{sets-four}
use Rattle.reader.proofs.fill.put_entry.Goals as goal

pub returns : goal.returns
returns c =
    let a = c.args in
    sets-four a.table.now _ _ _ _ a.at a.r a.p a.c a.k c.put.ensures c.put-2.ensures c.put-3.ensures c.put-4.ensures
