-- Document 01's number, count and place for each case of an answer: "Outside runs the count is 0, and the place 0 unless a line or instruction is at fault."
-- "(.. for reading, prototype 0 and the line)". Assumes nothing.
use Rattle.std.specs.Prelude.{Ok, Err}
use Rattle.image.specs.Judge.{Judged, read_number}
use Rattle.writer.specs.Writing.{Wrote, write_number}
use Rattle.checker.specs.Check.{Checked}
use Rattle.step.specs.Run.{outcome}
use Rattle.step.specs.declared.Outcome.{Outcome}

abbrev pub read_answer : Judged → Outcome
read_answer (Ok n) = outcome 0 0 0 0
read_answer (Err refusal) = outcome (read_number refusal.error) 0 0 refusal.line

abbrev pub write_answer : Wrote → Outcome
write_answer (Ok n) = outcome 0 0 0 0
write_answer (Err refusal) = outcome (write_number refusal) 0 0 0

-- the checker's, and a start's
abbrev pub check_answer : Checked → Outcome
check_answer (Ok u) = outcome 0 0 0 0
check_answer (Err refusal) = outcome refusal.number 0 refusal.prototype refusal.instruction
