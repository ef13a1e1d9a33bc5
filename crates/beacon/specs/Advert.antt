-- What a network announces of itself, and the fields that its beacons and probe responses share (IEEE Std 802.11-2016,
-- 9.3.3.3 and 9.3.3.11).
use Rattle.std.specs.Prelude.{ℕ, ◌*◌, List, [], ◌∷◌, ◌++◌}
use Rattle.std.specs.Int.{w16, w64, to_le_bytes}
use Rattle.mac_frame.specs.Management.{capability}
use Rattle.elements.specs.Elements.{element, ssid_id, dsss_parameter_set_id}
use Rattle.elements.specs.Rates.{supported_rates}
use Rattle.beacon.specs.declared.advert.Advert.{Advert}

-- a network as it announces itself, without where its octets lie in memory
pub record Announced : Type 0 where
  pub bss : List ℕ
  pub ssid : List ℕ
  pub rates : List ℕ
  pub channel : ℕ
  pub interval : ℕ
  pub clock : ℕ

abbrev pub announced : Advert → Announced
announced a = record {
  bss = a.bss;
  ssid = a.ssid.now;
  rates = a.rates.now;
  channel = a.channel;
  interval = a.interval;
  clock = a.clock;
}

-- Timestamp (9.4.1.10), in microseconds: a clock of beacon intervals, each of these time units of 1024 (profile)
unfoldable pub timestamp : ℕ → ℕ → List ℕ
timestamp clock interval = to_le_bytes w64 (clock * interval * 1024)

-- DSSS Parameter Set (9.4.2.4): the channel
abbrev pub channel_element : ℕ → List ℕ
channel_element channel = element dsss_parameter_set_id (channel ∷ [])

-- the fields before the elements
unfoldable pub fixed_fields : Announced → List ℕ
fixed_fields a = timestamp a.clock a.interval ++ to_le_bytes w16 a.interval ++ capability

-- SSID, Supported Rates and DSSS Parameter Set
unfoldable pub network_elements : Announced → List ℕ
network_elements a = element ssid_id a.ssid ++ supported_rates a.rates ++ channel_element a.channel
