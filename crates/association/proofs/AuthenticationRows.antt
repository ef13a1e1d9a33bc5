-- What the definitions say of some requests to authenticate, and of their answers.
use Rattle.std.proofs.Common.{◌≡◌, ℕ, Bool, true, false, [], ◌∷◌, refl}
use Rattle.mac_frame.specs.Samples.{network, station}
use Rattle.association.specs.Samples.{other_station, frame}
use Rattle.association.specs.Authentication.{auth_status, authentication}
use Rattle.mac_frame.proofs.Rows.{Computes}

-- ---- statuses

-- of an algorithm and a step, and of whether there is room
pub statuses : Computes (λ (asked : ℕ × ℕ × Bool). auth_status asked.0 asked.1 asked.2) (
    ("open system", (0, 1, true), 0)
    ∷ ("shared key", (1, 1, true), 13)
    ∷ ("a third step", (0, 3, true), 14)
    ∷ ("a second step", (0, 2, true), 14)
    ∷ ("a full network", (0, 1, false), 1)
    ∷ ("the algorithm before the step", (1, 3, true), 13)
    ∷ ("the algorithm before the room", (3, 1, false), 13)
    ∷ ("the step before the room", (0, 0, false), 14)
    ∷ [])
statuses = refl

-- ---- answers

a_station_is_authenticated :
    authentication station network 0 0 0
    ≡ 0xb0 ∷ 0x00 ∷ 0x00 ∷ 0x00
    ∷ 0x02 ∷ 0xaa ∷ 0x00 ∷ 0x00 ∷ 0x00 ∷ 0x01
    ∷ 0x02 ∷ 0x00 ∷ 0x00 ∷ 0x00 ∷ 0x00 ∷ 0x01
    ∷ 0x02 ∷ 0x00 ∷ 0x00 ∷ 0x00 ∷ 0x00 ∷ 0x01
    ∷ 0x00 ∷ 0x00
    ∷ 0x00 ∷ 0x00 ∷ 0x02 ∷ 0x00 ∷ 0x00 ∷ 0x00 ∷ []
a_station_is_authenticated = refl

the_algorithm_is_repeated : authentication station network 1 1 13
    ≡ frame 0xb0 station 0x10 0x00 (0x01 ∷ 0x00 ∷ 0x02 ∷ 0x00 ∷ 0x0d ∷ 0x00 ∷ [])
the_algorithm_is_repeated = refl

the_step_is_always_2 : authentication station network 0 0 14
    ≡ frame 0xb0 station 0x00 0x00 (0x00 ∷ 0x00 ∷ 0x02 ∷ 0x00 ∷ 0x0e ∷ 0x00 ∷ [])
the_step_is_always_2 = refl

a_station_is_refused : authentication other_station network 1 0 1
    ≡ frame 0xb0 other_station 0x10 0x00 (0x00 ∷ 0x00 ∷ 0x02 ∷ 0x00 ∷ 0x01 ∷ 0x00 ∷ [])
a_station_is_refused = refl

the_third_frame_has_sequence_number_2 : authentication other_station network 2 0 0
    ≡ frame 0xb0 other_station 0x20 0x00 (0x00 ∷ 0x00 ∷ 0x02 ∷ 0x00 ∷ 0x00 ∷ 0x00 ∷ [])
the_third_frame_has_sequence_number_2 = refl

each_number_goes_low_octet_first : authentication station network 4095 0x0201 0x0403
    ≡ frame 0xb0 station 0xf0 0xff (0x01 ∷ 0x02 ∷ 0x02 ∷ 0x00 ∷ 0x03 ∷ 0x04 ∷ [])
each_number_goes_low_octet_first = refl
