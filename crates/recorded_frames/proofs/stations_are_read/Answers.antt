use Rattle.recorded_frames.proofs.Linux61Rows.{of_linux_6_1_are_read}
use Rattle.recorded_frames.proofs.Linux612Rows.{of_linux_6_12_are_read}
use Rattle.recorded_frames.proofs.stations_are_read.Goals as goal

pub returns-clause-older : goal.returns-clause-older
returns-clause-older c = of_linux_6_1_are_read

pub returns-clause-newer : goal.returns-clause-newer
returns-clause-newer c = of_linux_6_12_are_read
