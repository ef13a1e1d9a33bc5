-- Units, and the frames and beacons that tell of them, octet by octet.
use Rattle.std.proofs.Common.{ℕ, List, [], ◌∷◌, ◌++◌}
use Rattle.mac_frame.specs.Address.{broadcast}
use Rattle.ap_config.specs.Samples.{bssid}

-- a host on the wire
abbrev pub host : List ℕ
host = 0x02 ∷ 0xbb ∷ 0x00 ∷ 0x00 ∷ 0x00 ∷ 0x01 ∷ []

-- what carries one octet of IPv4
abbrev pub ipv4 : ℕ → List ℕ
ipv4 octet = 0xaa ∷ 0xaa ∷ 0x03 ∷ 0x00 ∷ 0x00 ∷ 0x00 ∷ 0x08 ∷ 0x00 ∷ octet ∷ []

-- the same in an Ethernet frame
abbrev pub wired : List ℕ → List ℕ → ℕ → List ℕ
wired to source octet = to ++ source ++ 0x08 ∷ 0x00 ∷ octet ∷ []

-- and in a frame on the air, by its flags and sequence number below 16
abbrev pub sent : (flags : ℕ) (to source : List ℕ) (sequence_control octet : ℕ) → List ℕ
sent flags to source sequence_control octet =
    (0x08 ∷ flags ∷ 0x00 ∷ 0x00 ∷ []) ++ to ++ bssid ++ source ++ (sequence_control ∷ 0x00 ∷ []) ++ ipv4 octet

-- From DS, without More Data and with it
abbrev pub last : ℕ
last = 0x02

abbrev pub more : ℕ
more = 0x22

-- ---- beacons

-- by the first octet of Sequence Control, the three low octets of the Timestamp, and the TIM
abbrev pub numbered_beacon : ℕ → List ℕ → List ℕ → List ℕ
numbered_beacon sequence_control time tim =
    (0x80 ∷ 0x00 ∷ 0x00 ∷ 0x00 ∷ []) ++ broadcast ++ bssid ++ bssid ++ (sequence_control ∷ 0x00 ∷ [])
    ++ time ++ (0x00 ∷ 0x00 ∷ 0x00 ∷ 0x00 ∷ 0x00 ∷ 0x64 ∷ 0x00 ∷ 0x01 ∷ 0x00 ∷ [])
    ++ (0x00 ∷ 0x03 ∷ 0x6c ∷ 0x61 ∷ 0x62 ∷ 0x01 ∷ 0x04 ∷ 0x82 ∷ 0x84 ∷ 0x0b ∷ 0x16 ∷ 0x03 ∷ 0x01 ∷ 0x06 ∷ []) ++ tim

-- with sequence number 0
abbrev pub beacon_with : List ℕ → List ℕ → List ℕ
beacon_with time tim = numbered_beacon 0x00 time tim

-- one, two and three intervals of 100 time units of 1024 microseconds, low octet first
abbrev pub at_1 : List ℕ
at_1 = 0x00 ∷ 0x90 ∷ 0x01 ∷ []

abbrev pub at_2 : List ℕ
at_2 = 0x00 ∷ 0x20 ∷ 0x03 ∷ []

abbrev pub at_3 : List ℕ
at_3 = 0x00 ∷ 0xb0 ∷ 0x04 ∷ []
