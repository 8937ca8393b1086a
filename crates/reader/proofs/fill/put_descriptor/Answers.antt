-- `reader::fill::put_descriptor` meets its contract: two stores, one after the other. Assumes nothing.
use Rattle.reader.proofs.PutLaws.{sets-descriptor}
use Rattle.reader.proofs.fill.put_descriptor.Goals as goal

pub returns : goal.returns
returns c =
    let a = c.args in
    sets-descriptor a.table.now _ _ a.q a.d _ c.put.ensures c.put-2.ensures
