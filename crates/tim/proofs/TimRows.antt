-- TIMs on which the definitions are computed.
use Rattle.std.proofs.Common.{◌≡◌, ◌==◌, ◌&&◌, ◌||◌, nat_le, true, false, [], ◌∷◌, ◌++◌, refl, ℕ, Bool, List}
use Rattle.std.specs.Prelude.{replicate}
use Rattle.tim.specs.Tim.{tim_octets, partial_of, from_first_pair, up_to_last, virtual_bitmap, octet_at, bits_from}
use Rattle.tim.specs.Bitmap.{has_bit}
use Rattle.tim.specs.Spelling.{is_spelled}
use Rattle.mac_frame.proofs.Rows.{Computes}

the_first_and_the_last_number_take_every_octet :
    tim_octets 0 1 false (λ n. n == 1 || n == 2007)
    ≡ (5 ∷ 0xfe ∷ 0 ∷ 1 ∷ 0 ∷ 0x02 ∷ []) ++ replicate 249 0 ++ (0x80 ∷ [])
unfolding tim_octets partial_of from_first_pair up_to_last virtual_bitmap octet_at bits_from
the_first_and_the_last_number_take_every_octet = refl

every_number_is_250_octets_of_ones :
    tim_octets 0 1 false (λ n. true) ≡ (5 ∷ 0xfe ∷ 0 ∷ 1 ∷ 0 ∷ 0xfe ∷ []) ++ replicate 250 0xff
unfolding tim_octets partial_of from_first_pair up_to_last virtual_bitmap octet_at bits_from
every_number_is_250_octets_of_ones = refl

three_numbers_stand_in_one_octet :
    tim_octets 0 1 false (λ n. n == 2000 || n == 2001 || n == 2006) ≡ 5 ∷ 4 ∷ 0 ∷ 1 ∷ 0xfa ∷ 0x43 ∷ []
unfolding tim_octets partial_of from_first_pair up_to_last virtual_bitmap octet_at bits_from
three_numbers_stand_in_one_octet = refl

eight_numbers_fill_the_last_octet :
    tim_octets 0 1 false (λ n. nat_le 2000 n && nat_le n 2007) ≡ 5 ∷ 4 ∷ 0 ∷ 1 ∷ 0xfa ∷ 0xff ∷ []
unfolding tim_octets partial_of from_first_pair up_to_last virtual_bitmap octet_at bits_from
eight_numbers_fill_the_last_octet = refl

tims : Computes (λ (of : ℕ × ℕ × Bool × (ℕ → Bool)). tim_octets of.0 of.1 of.2 of.3) (
    ("the last number stands at place 250", (0, 1, false, λ n. n == 2007), 5 ∷ 4 ∷ 0 ∷ 1 ∷ 0xfa ∷ 0x80 ∷ [])
    ∷ ("an even place comes first", (0, 1, false, λ n. n == 16), 5 ∷ 4 ∷ 0 ∷ 1 ∷ 0x02 ∷ 0x01 ∷ [])
    ∷ ("the octet before an odd place is sent", (0, 1, false, λ n. n == 8), 5 ∷ 5 ∷ 0 ∷ 1 ∷ 0 ∷ 0 ∷ 0x01 ∷ [])
    ∷ ("no number is one octet", (0, 1, false, λ n. false), 5 ∷ 4 ∷ 0 ∷ 1 ∷ 0 ∷ 0 ∷ [])
    ∷ ("the group stands in bit 0 of control", (0, 3, true, λ n. n == 16), 5 ∷ 4 ∷ 0 ∷ 3 ∷ 0x03 ∷ 0x01 ∷ [])
    ∷ ("the count stands before the period", (2, 3, false, λ n. n == 1), 5 ∷ 4 ∷ 2 ∷ 3 ∷ 0 ∷ 0x02 ∷ [])
    ∷ ("number 0 and numbers from 2008 on are not shown", (0, 1, false, λ n. n == 0 || n == 2008), 5 ∷ 4 ∷ 0 ∷ 1 ∷ 0 ∷ 0 ∷ [])
    ∷ ("zero octets between are sent", (0, 1, false, λ n. n == 17 || n == 47), 5 ∷ 7 ∷ 0 ∷ 1 ∷ 0x02 ∷ 0x02 ∷ 0 ∷ 0 ∷ 0x80 ∷ [])
    ∷ [])
unfolding tim_octets partial_of from_first_pair up_to_last virtual_bitmap octet_at bits_from
tims = refl

numbers_beside_the_edge_of_an_octet_stand_in_two :
    tim_octets 0 1 false (λ n. n == 63 || n == 64 || n == 65) ≡ 5 ∷ 6 ∷ 0 ∷ 1 ∷ 0x06 ∷ 0 ∷ 0x80 ∷ 0x03 ∷ []
unfolding tim_octets partial_of from_first_pair up_to_last virtual_bitmap octet_at bits_from
numbers_beside_the_edge_of_an_octet_stand_in_two = refl

the_number_before_the_last_octet_stands_at_place_249 :
    tim_octets 0 1 false (λ n. n == 1999) ≡ 5 ∷ 5 ∷ 0 ∷ 1 ∷ 0xf8 ∷ 0 ∷ 0x80 ∷ []
unfolding tim_octets partial_of from_first_pair up_to_last virtual_bitmap octet_at bits_from
the_number_before_the_last_octet_stands_at_place_249 = refl

-- ---- which numbers a virtual bitmap has

numbers_of_bitmaps : Computes (λ (of : List ℕ × ℕ). has_bit of.0 of.1) (
    ("number 7 is the last bit of place 0", (0x80 ∷ 0 ∷ [], 7), true)
    ∷ ("number 8 is the first bit of place 1", (0 ∷ 1 ∷ [], 8), true)
    ∷ ("number 2000 is the first bit of place 250", (replicate 250 0 ++ 1 ∷ [], 2000), true)
    ∷ ("number 2007 is the last bit of place 250", (replicate 250 0 ++ 0x80 ∷ [], 2007), true)
    ∷ ("number 1999 has no bit at place 250", (replicate 250 0 ++ 0xff ∷ [], 1999), false)
    ∷ [])
numbers_of_bitmaps = refl

-- ---- which spellings are read

spellings : Computes (λ (of : ℕ × ℕ × ℕ × List ℕ). is_spelled of.0 of.1 of.2 of.3) (
    ("the spelling of number 8 is read", (0, 1, 0x00, 0x00 ∷ 0x01 ∷ []), true)
    ∷ ("a last octet of 0 is refused", (0, 1, 0x00, 0x00 ∷ 0x00 ∷ []), false)
    ∷ ("an octet past number 2007 is refused", (0, 1, 0xfa, 0x80 ∷ 0x01 ∷ []), false)
    ∷ ("a first pair of 0 is refused", (0, 1, 0x00, 0x00 ∷ 0x00 ∷ 0x01 ∷ []), false)
    ∷ ("number 0 is refused", (0, 1, 0x00, 0x01 ∷ []), false)
    ∷ ("no number at another offset is refused", (0, 1, 0x02, 0x00 ∷ []), false)
    ∷ ("the group at another count is refused", (1, 2, 0x01, 0x00 ∷ []), false)
    ∷ [])
spellings = refl
