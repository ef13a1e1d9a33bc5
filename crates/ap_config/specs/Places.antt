-- The networks of a configuration by their places (profile).
use Rattle.std.specs.Prelude.{false, ℕ, nat_lt, Bool, [], length}
use Rattle.std.specs.List.{slice_index_or}
use Rattle.ap_config.specs.declared.setting.Setting.{Setting}
use Rattle.ap_config.specs.declared.config.NetConfig.{NetConfig}
use Rattle.ap_config.specs.declared.config.RadioConfig.{RadioConfig}

-- ---- networks by their places in the configuration

abbrev pub names_network : RadioConfig → ℕ → Bool
names_network c place = nat_lt place (length c.networks)

-- what stands at a place that names no network; of it nothing is said
abbrev pub no_network : NetConfig
no_network = record {
  bssid = [];
  ssid = [];
  rates = [];
  dtim = 0;
  max_stations = 0;
  max_known = 0;
  quota = 0;
  max_events = 0;
  relay = false;
  aging = false;
}

abbrev pub network_at : RadioConfig → ℕ → NetConfig
network_at c place = slice_index_or c.networks place no_network

-- a network's configuration with the radio's settings that it uses
abbrev pub setting_in : RadioConfig → NetConfig → Setting
setting_in c n = record { channel = c.channel; interval = c.interval; network = n }

abbrev pub setting_at : RadioConfig → ℕ → Setting
setting_at c place = setting_in c (network_at c place)
