use Rattle.recorded_frames.proofs.HostapdRows.{of_hostapd_agree}
use Rattle.recorded_frames.proofs.hostapd_agrees.Goals as goal

pub returns : goal.returns
returns c = of_hostapd_agree
