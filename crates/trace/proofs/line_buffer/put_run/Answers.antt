-- A block is put, of which the characters before its first space count.
use Rattle.std.proofs.Common.{arith}
use Rattle.trace.proofs.Blocks.{put_some, run_within}
use Rattle.trace.proofs.line_buffer.put_run.Goals as goal

pub returns-clause-put : goal.returns-clause-put
returns-clause-put c =
    put_some c.args.at _ c.args.memory.now c.args.text.now
    (omega (arith, c.before_space.ensures, run_within 16 c.args.text.now)) c.requires.text c.requires.room
