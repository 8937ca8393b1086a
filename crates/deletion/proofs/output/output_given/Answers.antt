-- `deletion::output::output_given` meets its contract: a refused image's line, or what the image that was stored makes. Assumes nothing.
use Prim.Native.Nat.{◌≤◌}
use native.Mathlib.Omega.{arith}
use lib.ListN.{length}
use Rattle.deletion.specs.Output.{output_size}
use Rattle.deletion.proofs.Puts.{put_as}
use Rattle.deletion.proofs.Outputs.{answer-put, read-refused, read-stored, whole}
use Rattle.deletion.proofs.output.output_given.Goals as goal

pub returns-in-Err : goal.returns-in-Err
returns-in-Err c =
    let long : output_size ≤ length c.args.out.now = omega (arith, c.fits-out) in
    whole long
    (put_as (read-refused _ _ _ _ c.read-j.ensures _ c.in-Err.is _ c.read_answer.ensures)
    (answer-put _ long c.answer_line.ensures))

pub returns-in-Ok : goal.returns-in-Ok
returns-in-Ok c =
    let long : output_size ≤ length c.args.out.now = omega (arith, c.fits-out) in
    whole long (put_as (read-stored _ _ _ _ c.read-j.ensures _ c.in-Ok.is) c.put_stored.ensures)
