-- The text of a report, and the line of a configuration alone.
use Rattle.std.specs.Prelude.{ℕ, Bool, if◌then◌else◌, List, [], ◌++◌, length, codes, decimal, flat_map}
use Rattle.hex.specs.Hex.{encode_lower}
use Rattle.mac_frame.specs.Address.{address_text}
use Rattle.station_state.specs.declared.Standing.{Standing}
use Rattle.station_state.specs.declared.Standing.TheVariants.{Unknown, Authenticated, Associated}
use Rattle.ap_config.specs.declared.config.NetConfig.{NetConfig}
use Rattle.events.specs.declared.section.Counts.{Counts}
use Rattle.events.specs.declared.section.Section.{Section}
use Rattle.events.specs.declared.section.StationRow.{StationRow}
use Rattle.text_io.specs.Texts.{ended}

-- how many networks a configuration has
unfoldable pub count_line : ℕ → List ℕ
count_line count = ended (codes "ok " ++ decimal count)

-- which network it is: its address, and its name as octets
unfoldable pub network_line : NetConfig → List ℕ
network_line config =
    ended (codes "network " ++ address_text config.bssid ++ codes " ssid " ++ encode_lower config.ssid)

-- how many events its history has, and what it counted
unfoldable pub counts_line : ℕ → Counts → List ℕ
counts_line events counts =
    ended
    (codes "events " ++ decimal events
    ++ codes " clock "
    ++ decimal counts.clock
    ++ codes " unread "
    ++ decimal counts.unread
    ++ codes " lost "
    ++ decimal counts.lost
    ++ codes " kept "
    ++ decimal counts.kept)

-- whether a station dozes
abbrev pub mode_text : Bool → List ℕ
mode_text doze = if doze then codes "doze" else codes "active"

-- the line of a station that is authenticated and not associated
unfoldable pub authenticated_line : List ℕ → List ℕ
authenticated_line addr = ended (codes "station " ++ address_text addr ++ codes " authenticated")

-- the line of one that is associated
unfoldable pub associated_line : StationRow → List ℕ
associated_line row =
    ended
    (codes "station " ++ address_text row.addr
    ++ codes " associated aid "
    ++ decimal row.aid
    ++ codes " listen "
    ++ decimal row.listen
    ++ codes " "
    ++ mode_text row.doze
    ++ codes " kept "
    ++ decimal row.kept)

-- how far a station has come; one that is not known has no line
abbrev pub standing_line : Standing → StationRow → List ℕ
standing_line Unknown row = []
standing_line Authenticated row = authenticated_line row.addr
standing_line Associated row = associated_line row

unfoldable pub station_line : StationRow → List ℕ
station_line row = standing_line row.standing row

-- a frame after a word that says where it was sent
unfoldable pub frame_line : List ℕ → List ℕ → List ℕ
frame_line word frame = ended (word ++ encode_lower frame)

-- ---- sections

-- before its frames: a network's name, how many events its history has and what it counted, and its stations
abbrev pub heading_of : Section → List ℕ
heading_of section =
    network_line section.config ++ counts_line (length section.events) section.counts
    ++ flat_map station_line section.table

-- then the frames that it sent on the air, those on the wire, and the line that ends it
unfoldable pub section_text : Section → List ℕ
section_text section =
    heading_of section ++ flat_map (frame_line (codes "air ")) section.air
    ++ flat_map (frame_line (codes "wire ")) section.wire
    ++ ended (codes "end")

-- the sections, one after the other
abbrev pub report_text : List Section → List ℕ
report_text sections = flat_map section_text sections
