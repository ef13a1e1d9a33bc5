use Rattle.ap_config.proofs.Checked.{networks_sound}
use Rattle.ap_config.proofs.laws.checked_networks.Goals as goal

pub returns-clause-networks : goal.returns-clause-networks
returns-clause-networks c = networks_sound
