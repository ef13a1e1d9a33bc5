-- What the definitions say of some beacons.
use Rattle.std.proofs.Common.{◌≡◌, ℕ, Bool, true, false, List, [], ◌∷◌, ◌++◌, map, refl}
use Rattle.tim.specs.Tim.{tim_octets, partial_of, from_first_pair, up_to_last, virtual_bitmap, octet_at, bits_from}
use Rattle.beacon.specs.Advert.{Announced, timestamp, fixed_fields, network_elements}
use Rattle.beacon.specs.Beacon.{dtim_count, beacon_tim, beacon_body, beacon}
use Rattle.beacon.proofs.Samples.{lab, four_rates, nine_rates}

-- the network at a clock, which counts the beacon intervals
at_clock : ℕ → List ℕ → Announced
at_clock clock rates = record (lab rates) { clock = clock }

first_beacon :
    beacon (at_clock 1 four_rates) 0 1 false (λ n. false)
    ≡ 0x80 ∷ 0x00 ∷ 0x00 ∷ 0x00
    ∷ 0xff ∷ 0xff ∷ 0xff ∷ 0xff ∷ 0xff ∷ 0xff
    ∷ 0x02 ∷ 0x00 ∷ 0x00 ∷ 0x00 ∷ 0x00 ∷ 0x01
    ∷ 0x02 ∷ 0x00 ∷ 0x00 ∷ 0x00 ∷ 0x00 ∷ 0x01
    ∷ 0x00 ∷ 0x00
    ∷ 0x00 ∷ 0x90 ∷ 0x01 ∷ 0 ∷ 0 ∷ 0 ∷ 0 ∷ 0 ∷ 0x64 ∷ 0x00 ∷ 0x01 ∷ 0x00
    ∷ 0x00 ∷ 0x03 ∷ 0x6c ∷ 0x61 ∷ 0x62
    ∷ 0x01 ∷ 0x04 ∷ 0x82 ∷ 0x84 ∷ 0x0b ∷ 0x16
    ∷ 0x03 ∷ 0x01 ∷ 0x06
    ∷ 0x05 ∷ 0x04 ∷ 0x00 ∷ 0x01 ∷ 0x00 ∷ 0x00 ∷ []
unfolding at_clock timestamp fixed_fields network_elements dtim_count tim_octets partial_of from_first_pair up_to_last virtual_bitmap octet_at bits_from
first_beacon = refl

tim_stands_between_channel_and_extended_rates :
    (members : ℕ → Bool) →
    beacon_body (at_clock 1 nine_rates) 1 false members
    ≡ (0x00 ∷ 0x90 ∷ 0x01 ∷ 0 ∷ 0 ∷ 0 ∷ 0 ∷ 0 ∷ 0x64 ∷ 0x00 ∷ 0x01 ∷ 0x00
    ∷ 0x00 ∷ 0x03 ∷ 0x6c ∷ 0x61 ∷ 0x62
    ∷ 0x01 ∷ 0x08 ∷ 0x82 ∷ 0x84 ∷ 0x8b ∷ 0x96 ∷ 0x0c ∷ 0x12 ∷ 0x18 ∷ 0x24
    ∷ 0x03 ∷ 0x01 ∷ 0x06 ∷ [])
    ++ tim_octets 0 1 false members
    ++ (0x32 ∷ 0x01 ∷ 0x30 ∷ [])
unfolding at_clock timestamp fixed_fields network_elements dtim_count
tim_stands_between_channel_and_extended_rates members = refl

-- ---- DTIM Count

-- the first beacon is a DTIM, and so is each third after it
counts_of_period_3 : map (λ (clock : ℕ). dtim_count clock 3) (1 ∷ 2 ∷ 3 ∷ 4 ∷ []) ≡ 0 ∷ 2 ∷ 1 ∷ 0 ∷ []
unfolding dtim_count
counts_of_period_3 = refl

each_beacon_of_period_1_is_a_dtim : dtim_count 7 1 ≡ 0
unfolding dtim_count
each_beacon_of_period_1_is_a_dtim = refl

-- ---- the group

group_units_follow_a_dtim : (members : ℕ → Bool) → beacon_tim 4 3 true members ≡ tim_octets 0 3 true members
unfolding dtim_count
group_units_follow_a_dtim members = refl

no_group_unit_follows_another_beacon : (members : ℕ → Bool) → beacon_tim 2 3 true members ≡ tim_octets 2 3 false members
unfolding dtim_count
no_group_unit_follows_another_beacon members = refl

a_dtim_without_group_units : (members : ℕ → Bool) → beacon_tim 4 3 false members ≡ tim_octets 0 3 false members
unfolding dtim_count
a_dtim_without_group_units members = refl
