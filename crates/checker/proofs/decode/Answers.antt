-- `checker::decode` meets its contract: each arm is the decoder of its operation's shape. Assumes nothing.
use Rattle.checker.proofs.Shapes.{no_arm}
use Rattle.checker.proofs.decode.Goals as goal

pub returns-in_default : goal.returns-in_default
returns-in_default c = no_arm _ c.operation_of.ensures c.in_default.in_default-own.rest
