-- What is answered, as text: lines, each ended by LF (profile).
use Rattle.std.specs.Prelude.{ℕ, List, ◌++◌, codes, decimal, flat_map}
use Rattle.mac_frame.specs.Address.{address_text}
use Rattle.network.specs.Network.{table_of, counts_of}
use Rattle.network.specs.NetworkView.{NetworkState}
use Rattle.network.specs.declared.network.NetworkRefusal.{NetworkRefusal}
use Rattle.network.specs.declared.network.NetworkRefusal.TheVariants.{NoMemory, Clock}
use Rattle.report.specs.Report.{network_line, counts_line, station_line, frame_line}
use Rattle.text_io.specs.Texts.{ended}
use Rattle.live_rules.specs.Moments.{Reply, Sends, Refuses}

-- ---- faults

-- a fault of the line of this number
abbrev pub fault_words : List ℕ → ℕ → List ℕ
fault_words fault number = codes "fault " ++ fault ++ codes " line " ++ decimal number

-- why a network refuses an event, in one word
abbrev pub refusal_word : NetworkRefusal → List ℕ
refusal_word NoMemory = codes "memory"
refusal_word Clock = codes "clock"

-- ---- what one network replies

-- a word that says where a frame went, and the address of its network
abbrev pub frame_words : List ℕ → List ℕ → List ℕ
frame_words word bssid = word ++ codes " " ++ address_text bssid ++ codes " "

-- its frames on the air, and then those on the wire; or that it refuses the line of this number
abbrev pub reply_text : ℕ → List ℕ → Reply → List ℕ
reply_text number bssid (Sends air wire) =
    flat_map (frame_line (frame_words (codes "air") bssid)) air
    ++ flat_map (frame_line (frame_words (codes "wire") bssid)) wire
reply_text number bssid (Refuses why) =
    ended (fault_words (refusal_word why) number ++ codes " network " ++ address_text bssid)

-- ---- tables

-- what the report says of a network, but for its frames
unfoldable pub table_text : NetworkState → List ℕ
table_text n =
    network_line n.setting.network ++ counts_line n.events (counts_of n.events n.network)
    ++ flat_map station_line (table_of n.network)
    ++ ended (codes "end")

-- what it says of each network, in order of place
abbrev pub tables_text : List NetworkState → List ℕ
tables_text networks = flat_map table_text networks
