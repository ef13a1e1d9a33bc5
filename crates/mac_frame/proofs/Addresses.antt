-- An address is one of these exactly where the test says so.
use Rattle.std.proofs.Common.{◌≡◌, ◌⊎◌, ℕ, true, List, inl, inr, ⊎_elim}
use Rattle.std.specs.Cmp.Lexicographic.{bytes_decides}
use Rattle.std.specs.Str.{bytes_eq}
use Rattle.std.proofs.lemmas.Bool.{or_cases, or_left, or_right}
use Rattle.mac_frame.specs.Address.{broadcast, is_bss_or_broadcast}

-- the network's or the broadcast address
pub tested_where_one : (bss address : List ℕ) → (address ≡ bss) ⊎ (address ≡ broadcast)
    → is_bss_or_broadcast bss address ≡ true
tested_where_one bss address h = ⊎_elim
    (λ e. or_left (bytes_eq address bss) (bytes_eq address broadcast) ((bytes_decides address bss).1 e))
    (λ e. or_right (bytes_eq address bss) (bytes_eq address broadcast) ((bytes_decides address broadcast).1 e))
    h

pub is_one_where_tested : (bss address : List ℕ) → is_bss_or_broadcast bss address ≡ true
    → (address ≡ bss) ⊎ (address ≡ broadcast)
is_one_where_tested bss address h = ⊎_elim
    (λ e. inl ((bytes_decides address bss).0 e))
    (λ e. inr ((bytes_decides address broadcast).0 e))
    (or_cases (bytes_eq address bss) (bytes_eq address broadcast) h)
