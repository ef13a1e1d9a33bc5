-- The network of which the rows speak.
use Rattle.std.proofs.Common.{ℕ, List, [], ◌∷◌}
use Rattle.mac_frame.specs.Samples.{network}
use Rattle.beacon.specs.Advert.{Announced}

-- a network 02:00:00:00:00:01 named lab on channel 6, with a beacon interval of 100 time units
abbrev pub lab : List ℕ → Announced
lab rates = record { bss = network; ssid = 108 ∷ 97 ∷ 98 ∷ []; rates = rates; channel = 6; interval = 100; clock = 0 }

-- 1 and 2 Mb/s as basic rates, 5.5 and 11 Mb/s
abbrev pub four_rates : List ℕ
four_rates = 0x82 ∷ 0x84 ∷ 0x0b ∷ 0x16 ∷ []

abbrev pub nine_rates : List ℕ
nine_rates = 0x82 ∷ 0x84 ∷ 0x8b ∷ 0x96 ∷ 0x0c ∷ 0x12 ∷ 0x18 ∷ 0x24 ∷ 0x30 ∷ []
