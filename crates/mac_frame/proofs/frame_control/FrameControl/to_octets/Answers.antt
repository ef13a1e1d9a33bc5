use Rattle.std.proofs.Common.{ap, ◌∙◌, rules}
use Rattle.mac_frame.specs.FrameControl.{control_of}
use Rattle.mac_frame.proofs.FrameControls.{control_of-octets_of}
use Rattle.mac_frame.proofs.frame_control.FrameControl.to_octets.Goals as goal

pub returns-clause-octets : goal.returns-clause-octets
returns-clause-octets c = search rules

pub returns-clause-read : goal.returns-clause-read
returns-clause-read c =
    ap control_of (returns-clause-octets c)
    ∙ control_of-octets_of c.args.self c.requires.version c.requires.subtype
