-- What the definitions say of the frames of specs/Wires.antt, in the order of each list.
use Rattle.std.proofs.Common.{refl}
use Rattle.std.specs.List.{AllByRecursion}
use Rattle.hex.proofs.OnLiterals.{hex_on_literals}
use Rattle.recorded_frames.specs.Crossed.{IsEthernetSo, CrossesToWire, StaysWhole, CrossesToAir}
use Rattle.recorded_frames.proofs.Rows.{◌also◌}
use Rattle.recorded_frames.specs.Wires.{wired, to_wire, to_air, appletalk_to_wire}

pub appletalk_to_wire_stays_whole : StaysWhole appletalk_to_wire
unfolding hex_on_literals
appletalk_to_wire_stays_whole = (refl, refl, refl, refl, refl)

pub wired_are_read : AllByRecursion IsEthernetSo wired
unfolding hex_on_literals
wired_are_read =
    (refl, refl) also (refl, refl) also (refl, refl) also (refl, refl) also (refl, refl) also (refl, refl) also tt

pub to_wire_cross : AllByRecursion CrossesToWire to_wire
unfolding hex_on_literals
to_wire_cross =
    (refl, refl, refl, refl) also (refl, refl, refl, refl) also (refl, refl, refl, refl) also tt

pub to_air_cross : AllByRecursion CrossesToAir to_air
unfolding hex_on_literals
to_air_cross =
    (refl, refl, refl, refl) also (refl, refl, refl, refl) also (refl, refl, refl, refl) also (refl, refl, refl, refl)
    also tt
