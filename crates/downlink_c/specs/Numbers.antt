-- Calls and answers of a radio as numbers.
use Rattle.std.specs.Prelude.{ℕ, nat_eq, if◌then◌else◌, true, false, Option, Some, None}
use Rattle.downlink.specs.declared.answer.Fate.{Fate}
use Rattle.downlink.specs.declared.answer.Fate.TheVariants.{Goes, GoesAgain, Acknowledged, WaitsAgain, Lost}
use Rattle.downlink.specs.declared.answer.Fate.TheVariants.{HandedBack, Late, Crowded, Left, GivenUp}
use Rattle.downlink.specs.declared.radio_queue.NetworkAnswer.{NetworkAnswer}
use Rattle.downlink.specs.declared.station_change.StationChange.{StationChange}
use Rattle.downlink.specs.declared.station_change.StationChange.TheVariants.{Joins, Leaves, Dozes, Settles}
use Rattle.downlink.specs.declared.station_change.StationChange.TheVariants.{Wakes, Polls}
use Rattle.downlink.specs.Calls.{call_of}
use Rattle.downlink.specs.Radios.{Radio, Of, radio_step}
use Rattle.downlink_c.specs.declared.numbers.Chosen.{Chosen}
use Rattle.downlink_c.specs.declared.numbers.FrameTold.{FrameTold}

abbrev pub fate_number : Fate → ℕ
fate_number Goes = 0
fate_number GoesAgain = 1
fate_number Acknowledged = 2
fate_number WaitsAgain = 3
fate_number Lost = 4
fate_number HandedBack = 5
fate_number Late = 6
fate_number Crowded = 7
fate_number Left = 8
fate_number GivenUp = 9

-- what became of a frame, if something became of one
abbrev pub frame_told : Option NetworkAnswer → FrameTold
frame_told None = record { is_told = false; fate = 0; network = 0; receiver = 0; ticket = 0 }
frame_told (Some told) = record {
  is_told = true;
  fate = fate_number told.answer.answer.fate;
  network = told.network;
  receiver = told.answer.receiver;
  ticket = told.answer.answer.frame.ticket;
}

-- the place of a network, if there is one
abbrev pub chosen_told : Option ℕ → Chosen
chosen_told None = record { is_there = false; network = 0 }
chosen_told (Some network) = record { is_there = true; network = network }

-- the change of a number, if it is that of one
abbrev pub change_of : (number until : ℕ) → Option StationChange
change_of number until =
    if nat_eq number 0 then Some Joins
    else if nat_eq number 1 then Some Leaves
    else if nat_eq number 2 then Some Dozes
    else if nat_eq number 3 then Some Settles
    else if nat_eq number 4 then Some Wakes
    else if nat_eq number 5 then Some (Polls until)
    else None

abbrev pub after_change : Radio → (network receiver : ℕ) → Option StationChange → Radio
after_change radio network receiver None = radio
after_change radio network receiver (Some change) = radio_step radio (Of network receiver (call_of change))
