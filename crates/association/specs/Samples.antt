-- What the sample frames share.
use Rattle.std.specs.Prelude.{ℕ, List, [], ◌∷◌, ◌++◌}
use Rattle.mac_frame.specs.Samples.{network}

-- 02:aa:00:00:00:02
abbrev pub other_station : List ℕ
other_station = 0x02 ∷ 0xaa ∷ 0 ∷ 0 ∷ 0 ∷ 0x02 ∷ []

-- a frame from the network, by its first octet and those of Sequence Control
abbrev pub frame : (control : ℕ) (to : List ℕ) (low high : ℕ) (body : List ℕ) → List ℕ
frame control to low high body =
    (control ∷ 0x00 ∷ 0x00 ∷ 0x00 ∷ []) ++ to ++ network ++ network ++ (low ∷ high ∷ []) ++ body

-- 1 and 2 Mb/s as basic rates, 5.5 and 11 Mb/s
abbrev pub four_rates : List ℕ
four_rates = 0x82 ∷ 0x84 ∷ 0x0b ∷ 0x16 ∷ []

-- lab
abbrev pub ssid : List ℕ
ssid = 108 ∷ 97 ∷ 98 ∷ []
