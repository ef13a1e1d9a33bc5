use Rattle.encapsulation.proofs.Frames.{is_a_frame, is_read, is_one}
use Rattle.encapsulation.proofs.ethernet.one_ethernet_frame.Goals as goal

pub returns-clause-reading : goal.returns-clause-reading
returns-clause-reading c y w = (is_a_frame y w, is_read y w)

pub returns-clause-unique : goal.returns-clause-unique
returns-clause-unique c = is_one
