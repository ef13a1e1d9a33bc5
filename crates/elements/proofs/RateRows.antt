-- Which rates some elements have.
use Rattle.std.proofs.Common.{true, false, [], ◌∷◌, refl, Bool}
use Rattle.elements.specs.Rates.{is_basic, has_rate}
use Rattle.mac_frame.proofs.Rows.{Computes}

rates : Computes (λ (is : Bool). is) (
    -- 1, 2, 5.5 and 11 Mb/s, none of them basic
    ("a rate of element 1 is there", has_rate 0x0b ((0, 97 ∷ []) ∷ (1, 0x02 ∷ 0x04 ∷ 0x0b ∷ 0x16 ∷ []) ∷ []), true)
    ∷ ("a basic rate is found among others", has_rate 0x84 ((1, 0x02 ∷ 0x04 ∷ 0x0b ∷ 0x16 ∷ []) ∷ []), true)
    ∷ ("a rate is found among basic ones", has_rate 0x04 ((1, 0x82 ∷ 0x84 ∷ []) ∷ []), true)
    ∷ ("a missing rate is not there", has_rate 0x84 ((1, 0x02 ∷ 0x0b ∷ 0x16 ∷ []) ∷ []), false)
    ∷ ("element 50 counts too", has_rate 0x84 ((1, 0x02 ∷ 0x0b ∷ 0x16 ∷ []) ∷ (50, 0x04 ∷ []) ∷ []), true)
    ∷ ("element 50 counts alone", has_rate 0x84 ((50, 0x04 ∷ []) ∷ []), true)
    ∷ ("a second element 1 does not count", has_rate 0x84 ((1, 0x02 ∷ []) ∷ (1, 0x04 ∷ []) ∷ []), false)
    ∷ ("a second element 50 does not count", has_rate 0x84 ((50, []) ∷ (50, 0x04 ∷ []) ∷ []), false)
    ∷ ("another element does not count", has_rate 0x84 ((0, 0x04 ∷ []) ∷ (3, 0x04 ∷ []) ∷ []), false)
    ∷ ("no elements have no rate", has_rate 0x02 [], false)
    ∷ ("bit 7 marks a basic rate", is_basic 0x82, true)
    ∷ ("without it a rate is not basic", is_basic 0x7f, false)
    ∷ [])
rates = refl
