-- What the definitions say of some probe responses.
use Rattle.std.proofs.Common.{◌≡◌, [], ◌∷◌, ◌++◌, refl}
use Rattle.std.specs.Int.{w64, to_le_bytes}
use Rattle.mac_frame.specs.Samples.{station}
use Rattle.beacon.specs.Advert.{timestamp, fixed_fields, network_elements}
use Rattle.beacon.specs.ProbeResponse.{probe_response_body, probe_response}
use Rattle.beacon.proofs.Samples.{lab, four_rates, nine_rates}

frame_with_four_rates :
    probe_response (lab four_rates) station 0
    ≡ 0x50 ∷ 0x00 ∷ 0x00 ∷ 0x00
    ∷ 0x02 ∷ 0xaa ∷ 0x00 ∷ 0x00 ∷ 0x00 ∷ 0x01
    ∷ 0x02 ∷ 0x00 ∷ 0x00 ∷ 0x00 ∷ 0x00 ∷ 0x01
    ∷ 0x02 ∷ 0x00 ∷ 0x00 ∷ 0x00 ∷ 0x00 ∷ 0x01
    ∷ 0x00 ∷ 0x00
    ∷ 0 ∷ 0 ∷ 0 ∷ 0 ∷ 0 ∷ 0 ∷ 0 ∷ 0 ∷ 0x64 ∷ 0x00 ∷ 0x01 ∷ 0x00
    ∷ 0x00 ∷ 0x03 ∷ 0x6c ∷ 0x61 ∷ 0x62
    ∷ 0x01 ∷ 0x04 ∷ 0x82 ∷ 0x84 ∷ 0x0b ∷ 0x16
    ∷ 0x03 ∷ 0x01 ∷ 0x06 ∷ []
unfolding timestamp fixed_fields network_elements
frame_with_four_rates = refl

channel_stands_between_the_rates :
    probe_response_body (lab nine_rates)
    ≡ 0 ∷ 0 ∷ 0 ∷ 0 ∷ 0 ∷ 0 ∷ 0 ∷ 0 ∷ 0x64 ∷ 0x00 ∷ 0x01 ∷ 0x00
    ∷ 0x00 ∷ 0x03 ∷ 0x6c ∷ 0x61 ∷ 0x62
    ∷ 0x01 ∷ 0x08 ∷ 0x82 ∷ 0x84 ∷ 0x8b ∷ 0x96 ∷ 0x0c ∷ 0x12 ∷ 0x18 ∷ 0x24
    ∷ 0x03 ∷ 0x01 ∷ 0x06
    ∷ 0x32 ∷ 0x01 ∷ 0x30 ∷ []
unfolding timestamp fixed_fields network_elements
channel_stands_between_the_rates = refl

-- after three intervals of 258 time units: 792,576 microseconds
interval_and_timestamp_go_low_octet_first :
    fixed_fields (record (lab four_rates) { interval = 258; clock = 3 })
    ≡ 0x00 ∷ 0x18 ∷ 0x0c ∷ 0 ∷ 0 ∷ 0 ∷ 0 ∷ 0 ∷ 0x02 ∷ 0x01 ∷ 0x01 ∷ 0x00 ∷ []
unfolding timestamp fixed_fields
interval_and_timestamp_go_low_octet_first = refl

timestamp_counts_microseconds : timestamp 3 258 ≡ to_le_bytes w64 792576
unfolding timestamp
timestamp_counts_microseconds = refl

sequence_number_stands_above_the_fragment_number :
    probe_response (lab four_rates) station 4095
    ≡ 0x50 ∷ 0x00 ∷ 0x00 ∷ 0x00 ∷ station ++ (lab four_rates).bss ++ (lab four_rates).bss ++ 0xf0 ∷ 0xff ∷ probe_response_body (lab four_rates)
unfolding timestamp fixed_fields network_elements
sequence_number_stands_above_the_fragment_number = refl
