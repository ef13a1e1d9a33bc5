-- The tests by which a TIM is read (IEEE Std 802.11-2016, 9.4.2.6): that it is the one spelling of a set is profile.
use Rattle.std.specs.Prelude.{ℕ, ◌+◌, ◌-◌, ◌%◌, Bool, not, nat_lt, nat_le, ◌==◌, ◌&&◌, ◌||◌, List, length, slice_index}
use Rattle.tim.specs.Tim.{first_place}

-- some octets, of which none stands past place 250 or has number 0
abbrev pub is_placed : ℕ → List ℕ → Bool
is_placed first octets =
    nat_lt 0 (length octets) && nat_le (first + length octets) 251 && (nat_lt 0 first || slice_index octets 0 % 2 == 0)

-- the last of them isn't 0, nor are the first two both; or there is one, which is 0 and stands at place 0
abbrev pub is_trimmed : ℕ → List ℕ → Bool
is_trimmed first octets =
    (not (slice_index octets (length octets - 1) == 0) || (first == 0 && length octets == 1))
    && not (nat_lt 1 (length octets) && slice_index octets 0 == 0 && slice_index octets 1 == 0)

-- the fields of a TIM go together, and its octets are the one spelling of a set
abbrev pub is_spelled : ℕ → ℕ → ℕ → List ℕ → Bool
is_spelled count period control octets =
    nat_lt count period && (control % 2 == 0 || count == 0) && is_placed (first_place control) octets
    && is_trimmed (first_place control) octets
