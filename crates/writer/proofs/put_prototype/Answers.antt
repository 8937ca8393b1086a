-- `writer::put_prototype` meets its contract: the entry is read, and its line, its descriptors, its constants and its instructions are put one after the other.
-- Assumes nothing.
use Rattle.storage.specs.Layout.{Storage, storage}
use Rattle.writer.proofs.FramePuts.{Entry, opens_room, descs_room, consts_room, codes_room, proto_put}
use Rattle.writer.proofs.put_prototype.Goals as goal
use Rattle.writer.proofs.put_prototype.Goals.{After-descriptors-descs_n, Start}

-- where the entry has been read
entry :
    (c : After-descriptors-descs_n)
    → Entry c.args.table.now c.args.q c.registers-registers.result
    c.parameters-parameters.result c.first_constant-consts.result
    c.constants-consts_n.result c.first_instruction-codes.result c.instructions-codes_n.result c.descriptors-descs_n.result
entry c =
    record {
      registers = c.registers-registers.ensures;
      parameters = c.parameters-parameters.ensures;
      first-constant = c.first_constant-consts.ensures;
      constants = c.constants-consts_n.ensures;
      first-instruction = c.first_instruction-codes.ensures;
      instructions = c.instructions-codes_n.ensures;
      descriptors = c.descriptors-descs_n.ensures;
    }

-- the lent storage
abbrev lent : Start → Storage
lent s =
    storage s.args.table.now s.args.code.now s.args.const_kinds.now s.args.const_words.now s.args.texts.now

pub put_open-t-requires : goal.put_open-t-requires
put_open-t-requires c =
    let d = (goal.at.put_open-t-requires c).After-descriptors-descs_n in
    let s = (goal.at.put_open-t-requires c).Start in
    opens_room (lent s) (entry d) s.args.out.now s.args.at s.requires.1

pub put_descriptors-u-requires : goal.put_descriptors-u-requires
put_descriptors-u-requires c =
    let d = (goal.at.put_descriptors-u-requires c).After-descriptors-descs_n in
    let s = (goal.at.put_descriptors-u-requires c).Start in
    (rw c.descriptors-descs_n.ensures s.requires.0.1.1, descs_room (lent s) (entry d) s.args.out.now s.args.at s.requires.1 c.put_open-t.ensures)

pub put_constants-v-requires : goal.put_constants-v-requires
put_constants-v-requires c =
    let d = (goal.at.put_constants-v-requires c).After-descriptors-descs_n in
    let s = (goal.at.put_constants-v-requires c).Start in
    consts_room (lent s) (entry d) s.args.out.now s.args.at s.requires.1 c.put_open-t.ensures c.put_descriptors-u.ensures

pub put_instructions-requires : goal.put_instructions-requires
put_instructions-requires c =
    let d = (goal.at.put_instructions-requires c).After-descriptors-descs_n in
    let s = (goal.at.put_instructions-requires c).Start in
    codes_room (lent s) (entry d) s.args.out.now s.args.at s.requires.1 c.put_open-t.ensures c.put_descriptors-u.ensures c.put_constants-v.ensures

pub returns : goal.returns
returns c =
    let d = (goal.at.returns c).After-descriptors-descs_n in
    let s = (goal.at.returns c).Start in
    proto_put (lent s) (entry d) s.args.out.now s.args.at c.put_open-t.ensures c.put_descriptors-u.ensures c.put_constants-v.ensures c.put_instructions.ensures
