-- Sets of association identifiers (IEEE Std 802.11-2016, 9.4.1.8), and the octets that have them.
use Rattle.std.specs.Prelude.{ℕ, ◌-◌, ◌/◌, ◌%◌, Bool, ◌==◌, nat_le, if◌then◌else◌, List, slice_index, filter}
use Rattle.std.specs.Int.{bit_at}
use Rattle.std.specs.List.{range_with_len}
use Rattle.std.specs.Ordering.{nat_cmp}
use Rattle.std.specs.FinSet as set
use Rattle.tim.specs.Tim.{max_aid}

-- the association identifiers at which a test answers true
unfoldable pub aids_where : (ℕ → Bool) → set.FinSet nat_cmp
aids_where members = set.from_list (filter members (range_with_len 1 max_aid))

-- the octets of a virtual bitmap have a number: bit n mod 8 of octet n / 8 is 1
abbrev pub has_bit : List ℕ → ℕ → Bool
has_bit octets n = bit_at (slice_index octets (n / 8)) (n % 8) == 1

-- the octet at a place of the virtual bitmap, of octets that stand at the places from the first on; 0 where none stands
abbrev pub sent_at : ℕ → List ℕ → ℕ → ℕ
sent_at first octets place = if nat_le first place then slice_index octets (place - first) else 0
