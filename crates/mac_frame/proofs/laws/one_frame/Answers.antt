use Rattle.mac_frame.proofs.Frames.{is_a_frame, is_read, is_one}
use Rattle.mac_frame.proofs.laws.one_frame.Goals as goal

pub returns-clause-reading : goal.returns-clause-reading
returns-clause-reading c bss x f = (is_a_frame bss x f, is_read bss x f)

pub returns-clause-unique : goal.returns-clause-unique
returns-clause-unique c = is_one
