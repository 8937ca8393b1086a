-- `machine::face::dm_text` meets its contract: an `answer` that is too short, and where the string is. Assumes nothing.
use Rattle.machine.proofs.Faces.{text-short, text-told}
use Rattle.machine.proofs.face.dm_text.Goals as goal

pub returns-then-answer-lt-ANSWER : goal.returns-then-answer-lt-ANSWER
returns-then-answer-lt-ANSWER c = text-short _ _ _ c.if-answer-lt-ANSWER.true

pub returns : goal.returns
returns c =
    text-told _ _ _ c.if-answer-lt-ANSWER.false _ c.text_span-r.ensures _ _ c.tell_span.ensures
