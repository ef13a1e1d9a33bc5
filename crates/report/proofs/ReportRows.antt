-- The report of some sections, whole.
use Rattle.std.proofs.Common.{◌≡◌, ℕ, true, false, List, [], ◌∷◌, ◌++◌, refl}
use Rattle.std.specs.Prelude.{codes}
use Rattle.std.specs.Fmt.{digits}
use Rattle.hex.specs.Hex.{encode_with}
use Rattle.station_state.specs.declared.Standing.{Standing}
use Rattle.station_state.specs.declared.Standing.TheVariants.{Unknown, Authenticated, Associated}
use Rattle.ap_config.specs.declared.config.NetConfig.{NetConfig}
use Rattle.events.specs.declared.event.Event.TheVariants.{Air}
use Rattle.events.specs.declared.section.Counts.{Counts}
use Rattle.events.specs.declared.section.Section.{Section}
use Rattle.events.specs.declared.section.StationRow.{StationRow}
use Rattle.report.specs.Report.{report_text, section_text, network_line, counts_line, station_line, frame_line, authenticated_line, associated_line}

-- the network 02:00:00:00:00:01 with the name lab
abbrev lab : NetConfig
lab = record {
  bssid = 2 ∷ 0 ∷ 0 ∷ 0 ∷ 0 ∷ 1 ∷ [];
  ssid = codes "lab";
  rates = 0x82 ∷ 0x84 ∷ 0x0b ∷ 0x16 ∷ [];
  dtim = 1;
  max_stations = 8;
  max_known = 16;
  quota = 8;
  max_events = 100;
  relay = true;
  aging = false;
}

abbrev no_counts : Counts
no_counts = record { events = 0; clock = 0; unread = 0; lost = 0; kept = 0 }

-- a network that did nothing
abbrev idle : Section
idle = record { config = lab; events = []; table = []; counts = no_counts; air = []; wire = [] }

pub report_of_no_section : report_text [] ≡ []
report_of_no_section = refl

pub idle_network_has_two_lines_and_end : report_text (idle ∷ [])
    ≡ codes "network 02:00:00:00:00:01 ssid 6c6162" ++ 10 ∷ []
    ++ codes "events 0 clock 0 unread 0 lost 0 kept 0" ++ 10 ∷ []
    ++ codes "end" ++ 10 ∷ []
unfolding section_text network_line counts_line digits encode_with
idle_network_has_two_lines_and_end = refl

-- the answer to a probe of 02:aa:00:00:00:01
abbrev probe_response : List ℕ
probe_response =
    0x50 ∷ 0x00 ∷ 0x00 ∷ 0x00 ∷ 0x02 ∷ 0xaa ∷ 0x00 ∷ 0x00 ∷ 0x00 ∷ 0x01 ∷ 0x02 ∷ 0x00 ∷ 0x00 ∷ 0x00 ∷ 0x00 ∷ 0x01
    ∷ 0x02 ∷ 0x00 ∷ 0x00 ∷ 0x00 ∷ 0x00 ∷ 0x01 ∷ 0x00 ∷ 0x00 ∷ 0x00 ∷ 0x00 ∷ 0x00 ∷ 0x00 ∷ 0x00 ∷ 0x00 ∷ 0x00 ∷ 0x00
    ∷ 0x64 ∷ 0x00 ∷ 0x01 ∷ 0x00 ∷ 0x00 ∷ 0x03 ∷ 0x6c ∷ 0x61 ∷ 0x62 ∷ 0x01 ∷ 0x04 ∷ 0x82 ∷ 0x84 ∷ 0x0b ∷ 0x16 ∷ 0x03
    ∷ 0x01 ∷ 0x06 ∷ []

pub probe_and_its_response : report_text (record idle { events = Air [] ∷ []; air = probe_response ∷ [] } ∷ [])
    ≡ codes "network 02:00:00:00:00:01 ssid 6c6162" ++ 10 ∷ []
    ++ codes "events 1 clock 0 unread 0 lost 0 kept 0" ++ 10 ∷ []
    ++ codes "air 5000000002aa00000001020000000001020000000001000000000000000000006400010000036c6162010482840b16030106"
    ++ 10 ∷ []
    ++ codes "end" ++ 10 ∷ []
unfolding section_text network_line counts_line frame_line digits encode_with
probe_and_its_response = refl

-- ---- stations

abbrev station : Standing → StationRow
station standing =
    record
    { addr = 0x02 ∷ 0xaa ∷ 0 ∷ 0 ∷ 0 ∷ 1 ∷ []; standing = standing; aid = 1; listen = 10; doze = false; kept = 0 }

pub unknown_station_has_no_line : station_line (station Unknown) ≡ []
unfolding station_line
unknown_station_has_no_line = refl

pub authenticated_station : station_line (station Authenticated) ≡ codes "station 02:aa:00:00:00:01 authenticated" ++ 10
    ∷ []
unfolding station_line authenticated_line
authenticated_station = refl

pub active_station : station_line (station Associated)
    ≡ codes "station 02:aa:00:00:00:01 associated aid 1 listen 10 active kept 0" ++ 10 ∷ []
unfolding station_line associated_line digits
active_station = refl

pub dozing_station : station_line (record (station Associated) { aid = 2007; doze = true; kept = 12 })
    ≡ codes "station 02:aa:00:00:00:01 associated aid 2007 listen 10 doze kept 12" ++ 10 ∷ []
unfolding station_line associated_line digits
dozing_station = refl

-- a frame of no octets
pub empty_frame_has_the_word_and_a_space : frame_line (codes "air ") [] ≡ codes "air " ++ 10 ∷ []
unfolding frame_line encode_with
empty_frame_has_the_word_and_a_space = refl

-- frames on the air come before frames on the wire, each in their order
pub air_before_wire : report_text (record idle { air = (1 ∷ []) ∷ (2 ∷ []) ∷ []; wire = (3 ∷ []) ∷ (4 ∷ []) ∷ [] } ∷ [])
    ≡ codes "network 02:00:00:00:00:01 ssid 6c6162" ++ 10 ∷ []
    ++ codes "events 0 clock 0 unread 0 lost 0 kept 0" ++ 10 ∷ []
    ++ codes "air 01" ++ 10 ∷ []
    ++ codes "air 02" ++ 10 ∷ []
    ++ codes "wire 03" ++ 10 ∷ []
    ++ codes "wire 04" ++ 10 ∷ []
    ++ codes "end" ++ 10 ∷ []
unfolding section_text network_line counts_line frame_line digits encode_with
air_before_wire = refl

-- each count after its word; how many events is the length of the history, whatever the counts say
pub each_count_has_its_word : report_text
    (record idle { events = Air [] ∷ Air [] ∷ []; counts = record { events = 9; clock = 10; unread = 200; lost = 3; kept = 4294967295 } } ∷ [])
    ≡ codes "network 02:00:00:00:00:01 ssid 6c6162" ++ 10 ∷ []
    ++ codes "events 2 clock 10 unread 200 lost 3 kept 4294967295" ++ 10 ∷ []
    ++ codes "end" ++ 10 ∷ []
unfolding section_text network_line counts_line digits encode_with
each_count_has_its_word = refl

pub stations_stand_in_the_order_of_the_table :
    report_text
    (record idle { table = station Authenticated ∷ station Unknown ∷ record (station Associated) { addr = 0x02 ∷ 0xaa ∷ 0 ∷ 0 ∷ 0 ∷ 2 ∷ [] } ∷ []; air = (1 ∷ []) ∷ [] } ∷ [])
    ≡ codes "network 02:00:00:00:00:01 ssid 6c6162" ++ 10 ∷ []
    ++ codes "events 0 clock 0 unread 0 lost 0 kept 0" ++ 10 ∷ []
    ++ codes "station 02:aa:00:00:00:01 authenticated" ++ 10 ∷ []
    ++ codes "station 02:aa:00:00:00:02 associated aid 1 listen 10 active kept 0" ++ 10 ∷ []
    ++ codes "air 01" ++ 10 ∷ []
    ++ codes "end" ++ 10 ∷ []
unfolding section_text network_line counts_line station_line authenticated_line associated_line frame_line digits encode_with
stations_stand_in_the_order_of_the_table = refl

pub sections_stand_in_order : report_text (idle ∷ record idle { config = record lab { ssid = codes "guest" } } ∷ [])
    ≡ codes "network 02:00:00:00:00:01 ssid 6c6162" ++ 10 ∷ []
    ++ codes "events 0 clock 0 unread 0 lost 0 kept 0" ++ 10 ∷ []
    ++ codes "end" ++ 10 ∷ []
    ++ codes "network 02:00:00:00:00:01 ssid 6775657374" ++ 10 ∷ []
    ++ codes "events 0 clock 0 unread 0 lost 0 kept 0" ++ 10 ∷ []
    ++ codes "end" ++ 10 ∷ []
unfolding section_text network_line counts_line digits encode_with
sections_stand_in_order = refl
