-- What the sample frames are made of.
use Rattle.std.specs.Prelude.{ℕ, List, [], ◌∷◌, ◌++◌}

-- 02:00:00:00:00:01
abbrev pub network : List ℕ
network = 0x02 ∷ 0 ∷ 0 ∷ 0 ∷ 0 ∷ 0x01 ∷ []

-- 02:00:00:00:00:02
abbrev pub other_network : List ℕ
other_network = 0x02 ∷ 0 ∷ 0 ∷ 0 ∷ 0 ∷ 0x02 ∷ []

-- 02:aa:00:00:00:01
abbrev pub station : List ℕ
station = 0x02 ∷ 0xaa ∷ 0 ∷ 0 ∷ 0 ∷ 0x01 ∷ []

-- 01:00:5e:00:00:01
abbrev pub group : List ℕ
group = 0x01 ∷ 0 ∷ 0x5e ∷ 0 ∷ 0 ∷ 0x01 ∷ []

-- 02:bb:00:00:00:01, which is no station of the network
abbrev pub host : List ℕ
host = 0x02 ∷ 0xbb ∷ 0 ∷ 0 ∷ 0 ∷ 0x01 ∷ []

-- an empty SSID and four rates
abbrev pub elements : List ℕ
elements = 0 ∷ 0 ∷ 0x01 ∷ 0x04 ∷ 0x02 ∷ 0x04 ∷ 0x0b ∷ 0x16 ∷ []

-- a frame of these parts, with Duration 0 and sequence number 0
abbrev pub frame : (control flags : ℕ) (to from third : List ℕ) (fragment : ℕ) (body : List ℕ) → List ℕ
frame control flags to from third fragment body =
    (control ∷ flags ∷ 0 ∷ 0 ∷ []) ++ to ++ from ++ third ++ (fragment ∷ 0 ∷ []) ++ body
