-- How long the frames of a network are.
use Rattle.std.specs.Prelude.{ℕ, ◌≤◌, List, length}
use Rattle.std.specs.List.{AllByRecursion}
use Rattle.powersave.specs.Keep.{Entry}
use Rattle.powersave.specs.declared.unit.Unit.{Unit as DataUnit}
use Rattle.network.specs.Network.{Network}

-- on the air: a header of 24 octets and a body of 2304 (IEEE Std 802.11-2016, 9.2.3, 9.2.4.7.1)
abbrev pub most_on_air : ℕ
most_on_air = 2328

-- on the wire: two addresses, a type and a payload of 2296 octets (IEEE Std 802.3, 3.1.1; profile)
abbrev pub most_on_wire : ℕ
most_on_wire = 2310

abbrev pub AreAtMost : ℕ → List (List ℕ) → Type 0
AreAtMost most frames = AllByRecursion (λ frame. length frame ≤ most) frames

-- a unit that a frame can carry
pub record FitsFrame (u : DataUnit) : Type 0 where
  pub to : length u.to ≤ 6
  pub source : length u.source ≤ 6
  pub body : length u.body ≤ 2304

abbrev pub AreFitting : List Entry → Type 0
AreFitting kept = AllByRecursion (λ entry. FitsFrame entry.1) kept

-- a network that sent no longer frame, and keeps such units alone
pub record IsWithinSizes (n : Network) : Type 0 where
  pub kept : AreFitting n.kept
  pub air : AreAtMost most_on_air n.air
  pub wire : AreAtMost most_on_wire n.wire
