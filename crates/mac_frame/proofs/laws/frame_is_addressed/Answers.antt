use Rattle.mac_frame.proofs.Frames.{is_addressed}
use Rattle.mac_frame.proofs.laws.frame_is_addressed.Goals as goal

pub returns-clause-long : goal.returns-clause-long
returns-clause-long c bss x f w = (is_addressed bss x f w).0

pub returns-clause-receiver : goal.returns-clause-receiver
returns-clause-receiver c bss x f w = (is_addressed bss x f w).1
