use Rattle.std.proofs.Common.{rules}
use Rattle.mac_frame.proofs.management.management_of.Goals as goal

pub returns : goal.returns
returns c = search rules
