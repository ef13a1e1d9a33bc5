-- What a network hears (IEEE Std 802.11-2016, 9.2.4.3): a string of octets that is sent to it or to all.
use Rattle.std.specs.Prelude.{ℕ, nat_le, Bool, ◌&&◌, ◌⊎◌, ◌≡◌, ◌≤◌, List, length}
use Rattle.mac_frame.specs.Address.{broadcast, is_bss_or_broadcast}
use Rattle.mac_frame.specs.Header.{addressed_to}

-- at least ten octets, and Address 1 is the network's or the broadcast address
pub record Hears (bss x : List ℕ) : Type 0 where
  pub long : 10 ≤ length x
  pub address : (addressed_to x ≡ bss) ⊎ (addressed_to x ≡ broadcast)

-- the same as a test
abbrev pub is_heard : List ℕ → List ℕ → Bool
is_heard bss x = nat_le 10 (length x) && is_bss_or_broadcast bss (addressed_to x)
