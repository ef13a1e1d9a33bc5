-- What an `AddressHasher` computes.
use Rattle.std.specs.Prelude.{ℕ, List, [], ◌∷◌, bit_xor}
use Rattle.std.specs.Int.{w64, rotate_left}
use Rattle.std.specs.Hash.FoldHasher.{folded_multiply}
use Rattle.address_hash.specs.declared.AddressHasher.{AddressHasher}

-- before the first write
abbrev pub initial : AddressHasher
initial = record { gathered = 0x243f_6a88_85a3_08d3 }

-- one number more, for which what there was moves up by an octet
abbrev pub gathered : ℕ → ℕ → ℕ
gathered before number = bit_xor (rotate_left w64 before 8) number

-- octets as one number: up to eight of them as `u64::from_le_bytes` reads them, and from the ninth on they come round
unfoldable pub number_of : List ℕ → ℕ
number_of [] = 0
number_of (b ∷ bs) = gathered (number_of bs) b

-- after one call of `write`
abbrev pub write : AddressHasher → List ℕ → AddressHasher
write hasher bytes = record { gathered = gathered hasher.gathered (number_of bytes) }

-- what `finish` answers
abbrev pub finish : AddressHasher → ℕ
finish hasher = folded_multiply hasher.gathered 0x9e37_79b9_7f4a_7c15
