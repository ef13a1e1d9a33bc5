-- What a network alone runs with.
use Rattle.std.specs.Prelude.{ℕ}
use Rattle.ap_config.specs.declared.setting.Setting.{Setting}
use Rattle.ap_config.specs.declared.config.NetConfig.{NetConfig}

-- a network's configuration with its radio's channel and interval
abbrev pub setting : ℕ → ℕ → NetConfig → Setting
setting channel interval network = record { channel = channel; interval = interval; network = network }
