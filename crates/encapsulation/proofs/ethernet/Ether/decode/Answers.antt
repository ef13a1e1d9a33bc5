use Rattle.std.proofs.Common.{arith}
use Rattle.std.proofs.lemmas.Grind.{common_steps}
use Rattle.encapsulation.proofs.Frames.{is_a_frame, is_the_read}
use Rattle.encapsulation.proofs.ethernet.Ether.decode.Goals as goal

pub returns-clause-fault : goal.returns-clause-fault
returns-clause-fault c = grind (arith, common_steps) steps 40000000

pub returns-clause-frame : goal.returns-clause-frame
returns-clause-frame c = is_a_frame c.args.octets.now _ (returns-clause-fault c)

pub returns-clause-only : goal.returns-clause-only
returns-clause-only c w h = is_the_read c.args.octets.now _ w (returns-clause-fault c) h
