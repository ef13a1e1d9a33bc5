-- Today's settings beside those of the first version of the configuration (profile).
use Rattle.ap_config.specs.declared.setting.Setting.{Setting}
use Rattle.versions.specs.FirstVersion.{FirstSetting}

-- a setting without its options
abbrev pub first_setting : Setting → FirstSetting
first_setting s = record {
  channel = s.channel;
  interval = s.interval;
  bssid = s.network.bssid;
  ssid = s.network.ssid;
  rates = s.network.rates;
  dtim = s.network.dtim;
  max_stations = s.network.max_stations;
  max_known = s.network.max_known;
  quota = s.network.quota;
}
