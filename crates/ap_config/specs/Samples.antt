-- A sample configuration.
use Rattle.std.specs.Prelude.{ℕ, true, false, List, [], ◌∷◌}
pub use Rattle.mac_frame.specs.Samples.{network as bssid, station}
use Rattle.ap_config.specs.declared.setting.Setting.{Setting}
use Rattle.ap_config.specs.declared.config.NetConfig.{NetConfig}
use Rattle.ap_config.specs.declared.config.RadioConfig.{RadioConfig}

-- `lab` in ASCII
abbrev pub lab : List ℕ
lab = 0x6c ∷ 0x61 ∷ 0x62 ∷ []

-- 1 and 2 Mb/s, both basic, 5.5 and 11 Mb/s
abbrev pub rates : List ℕ
rates = 0x82 ∷ 0x84 ∷ 0x0b ∷ 0x16 ∷ []

abbrev pub network : NetConfig
network = record {
  bssid = bssid;
  ssid = lab;
  rates = rates;
  dtim = 1;
  max_stations = 8;
  max_known = 16;
  quota = 8;
  max_events = 100;
  relay = true;
  aging = false;
}

abbrev pub radio : RadioConfig
radio = record { channel = 6; interval = 100; queue = 64; networks = network ∷ [] }

abbrev pub setting : Setting
setting = record { channel = 6; interval = 100; network = network }
