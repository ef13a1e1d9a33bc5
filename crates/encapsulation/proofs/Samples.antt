-- What the sample frames are made of.
use Rattle.std.proofs.Common.{ℕ, List, [], ◌∷◌, ◌++◌}
pub use Rattle.mac_frame.specs.Samples.{station, host}

-- an Ethernet frame from the host to the station, by the two octets of its Length/Type field and what follows them
abbrev pub to_station : ℕ → ℕ → List ℕ → List ℕ
to_station high low rest = station ++ host ++ (high ∷ low ∷ []) ++ rest
