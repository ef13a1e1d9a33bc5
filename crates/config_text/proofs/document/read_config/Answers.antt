use Rattle.config_text.proofs.ConfigurationSound.{sound_from_exact}
use Rattle.config_text.proofs.document.read_config.Goals as goal

pub returns-clause-sound : goal.returns-clause-sound
returns-clause-sound c = sound_from_exact _ c.read_radio.result c.read_radio.ensures
