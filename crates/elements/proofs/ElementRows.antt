-- What the definitions say of some bodies.
use Prim.Native.String.{String}
use Rattle.std.proofs.Common.{◌≡◌, ℕ, List, [], ◌∷◌, ◌++◌, map, Option, Some, None, refl, arith}
use Rattle.std.specs.Prelude.{replicate}
use Rattle.elements.specs.Elements.{Pair, IsElements, elements_within, elements_of, first_of, element}
use Rattle.elements.specs.Rates.{supported_rates, extended_rates, rates_of}

-- each row tells what it shows; this body has these elements, or is none
abbrev AreRead : List (String × List ℕ × Option (List Pair)) → Type 0
AreRead rows = map (λ (row : String × List ℕ × Option (List Pair)). elements_of row.1) rows
    ≡ map (λ (row : String × List ℕ × Option (List Pair)). row.2) rows

elements_of_bodies : AreRead (
    ("four rates", 1 ∷ 4 ∷ 2 ∷ 4 ∷ 11 ∷ 22 ∷ [], Some ((1, 2 ∷ 4 ∷ 11 ∷ 22 ∷ []) ∷ []))
    ∷ ("an empty body", [], Some [])
    ∷ ("an empty element", 0 ∷ 0 ∷ [], Some ((0, []) ∷ []))
    ∷ ("one after another", 0 ∷ 0 ∷ 3 ∷ 1 ∷ 6 ∷ [], Some ((0, []) ∷ (3, 6 ∷ []) ∷ []))
    ∷ ("an element id twice", 0 ∷ 1 ∷ 97 ∷ 0 ∷ 1 ∷ 98 ∷ [], Some ((0, 97 ∷ []) ∷ (0, 98 ∷ []) ∷ []))
    ∷ ("one octet past the end", 1 ∷ 4 ∷ 2 ∷ 4 ∷ 11 ∷ [], None)
    ∷ ("a last octet alone", 3 ∷ 1 ∷ 6 ∷ 0 ∷ [], None)
    ∷ ("an element id alone", 0 ∷ [], None)
    ∷ ("255 octets", 0xdd ∷ 0xff ∷ replicate 255 7, Some ((0xdd, replicate 255 7) ∷ []))
    -- its Length says one octet more than follow
    ∷ ("254 octets", 0xdd ∷ 0xff ∷ replicate 254 7, None)
    ∷ [])
unfolding elements_of elements_within
elements_of_bodies = refl

the_first_of_two_counts : first_of 0 ((3, 6 ∷ []) ∷ (0, 97 ∷ []) ∷ (0, 98 ∷ []) ∷ []) ≡ Some (97 ∷ [])
the_first_of_two_counts = refl

another_element_id_is_not_found : first_of 50 ((0, 97 ∷ []) ∷ (3, 6 ∷ []) ∷ []) ≡ None
another_element_id_is_not_found = refl

-- 1, 2, 5.5 and 11 Mb/s as basic rates, and 6, 9, 12 and 18 Mb/s
abbrev eight_rates : List ℕ
eight_rates = 0x82 ∷ 0x84 ∷ 0x8b ∷ 0x96 ∷ 0x0c ∷ 0x12 ∷ 0x18 ∷ 0x24 ∷ []

-- and 24 Mb/s as a ninth
abbrev nine_rates : List ℕ
nine_rates = eight_rates ++ 0x30 ∷ []

eight_rates_fill_one_element : rates_of eight_rates ≡ 0x01 ∷ 0x08 ∷ eight_rates
eight_rates_fill_one_element = refl

a_ninth_rate_stands_in_element_50 : rates_of nine_rates ≡ 0x01 ∷ 0x08 ∷ eight_rates ++ 0x32 ∷ 0x01 ∷ 0x30 ∷ []
a_ninth_rate_stands_in_element_50 = refl

eight_rates_have_no_element_50 : extended_rates eight_rates ≡ []
eight_rates_have_no_element_50 = refl

the_first_eight_rates_stand_in_element_1 : supported_rates nine_rates ≡ element 1 eight_rates
the_first_eight_rates_stand_in_element_1 = refl

one_rate_is_one_element : rates_of (0x82 ∷ []) ≡ 0x01 ∷ 0x01 ∷ 0x82 ∷ []
one_rate_is_one_element = refl

sixteen_rates_are_eight_and_eight :
    rates_of (1 ∷ 2 ∷ 3 ∷ 4 ∷ 5 ∷ 6 ∷ 7 ∷ 8 ∷ 9 ∷ 10 ∷ 11 ∷ 12 ∷ 13 ∷ 14 ∷ 15 ∷ 16 ∷ [])
    ≡ (0x01 ∷ 0x08 ∷ 1 ∷ 2 ∷ 3 ∷ 4 ∷ 5 ∷ 6 ∷ 7 ∷ 8 ∷ []) ++ (0x32 ∷ 0x08 ∷ 9 ∷ 10 ∷ 11 ∷ 12 ∷ 13 ∷ 14 ∷ 15 ∷ 16 ∷ [])
sixteen_rates_are_eight_and_eight = refl

-- ---- the relation

an_ssid_and_a_channel_are_a_body : IsElements (0 ∷ 0 ∷ 3 ∷ 1 ∷ 6 ∷ []) ((0, []) ∷ (3, 6 ∷ []) ∷ [])
an_ssid_and_a_channel_are_a_body = record { whole = refl; short = (omega arith, (omega arith, tt)) }
