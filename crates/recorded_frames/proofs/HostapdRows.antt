-- What the definitions say of the frames of specs/Hostapd.antt, in the order of the list.
use Rattle.std.proofs.Common.{◌≡◌, false, [], ◌∷◌, take, drop, refl}
use Rattle.std.specs.List.{AllByRecursion}
use Rattle.tim.specs.Tim.{tim_octets}
use Rattle.recorded_frames.specs.Sent.{AgreesBut, these}
use Rattle.recorded_frames.proofs.Rows.{sent_on_literals, ◌also◌}
use Rattle.recorded_frames.specs.Hostapd.{beacon_that_tells_of_more, of_hostapd}

pub tim_of_more : tim_octets 0 2 false (these (16 ∷ 17 ∷ [])) ≡ take 6 (drop 56 beacon_that_tells_of_more.octets)
unfolding sent_on_literals
tim_of_more = refl

pub of_hostapd_agree : AllByRecursion AgreesBut of_hostapd
unfolding sent_on_literals
of_hostapd_agree =
    (refl, refl) also (refl, refl) also (refl, refl) also (refl, refl) also (refl, refl) also (refl, refl)
    also (refl, refl) also (refl, refl) also (refl, refl) also (refl, refl) also (refl, refl) also (refl, refl)
    also (refl, refl) also (refl, refl) also (refl, refl) also (refl, refl) also (refl, refl) also (refl, refl)
    also (refl, refl) also (refl, refl) also (refl, refl) also (refl, refl) also (refl, refl) also tt
