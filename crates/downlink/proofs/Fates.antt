-- What one call tells of frames, by their fates.
use Rattle.std.proofs.Common.{◌≡◌, ◌≤◌, ℕ, Bool, true, false, ◌&&◌, List, [], ◌∷◌, length, Option, Some, None, refl}
use Rattle.std.proofs.Common.{arith}
use Rattle.std.specs.Prelude.{nat_lt, if◌then◌else◌}
use Rattle.std.specs.Option.{option_map, option_to_list}
use Rattle.downlink.specs.declared.frame.Frame.{Frame}
use Rattle.downlink.specs.declared.frame.Sent.{Sent}
use Rattle.downlink.specs.declared.frame.Way.{Way}
use Rattle.downlink.specs.declared.frame.Way.TheVariants.{InTurn, AnswersPoll, GoesBack, IsDropped}
use Rattle.downlink.specs.declared.answer.Answer.{Answer}
use Rattle.downlink.specs.declared.answer.Fate.{Fate}
use Rattle.downlink.specs.declared.answer.Fate.TheVariants.{WaitsAgain, Lost, HandedBack, Late, Crowded, Left}
use Rattle.downlink.specs.declared.answer.Fate.TheVariants.{GivenUp}
use Rattle.downlink.specs.declared.station_mode.StationMode.{StationMode}
use Rattle.downlink.specs.Receiver.{unsent_fate, sending_fate, fate_answer, turn_answer, crowded_out, is_asleep}
use Rattle.downlink.specs.Receiver.{leaving_answer, leaving_fate, giving_up_answer}
use Rattle.downlink.specs.Laws.{one_if, count}

-- how many of its answers pass a test
abbrev pub told_by : (Answer → Bool) → Option Answer → ℕ
told_by test answered = count test (option_to_list answered)

-- a test that passes no such what
abbrev pub IsDeafTo : (Answer → Bool) → Fate → Type 0
IsDeafTo test what = (f : Frame) → test (fate_answer what f) ≡ false

pub deaf : (test : Answer → Bool) (what : Fate) (f : Frame) → IsDeafTo test what → told_by test (Some (fate_answer what f)) ≡ 0
deaf test what f h = let no : test (fate_answer what f) ≡ false = h f in rw no refl

pub deaf_to_unsent : (test : Answer → Bool) (what : Fate) (mode : StationMode) (f : Frame) → IsDeafTo test what
    → IsDeafTo test HandedBack → told_by test (Some (fate_answer (unsent_fate what mode f) f)) ≡ 0
deaf_to_unsent test what mode f h b =
    elim (f.is_unit && is_asleep mode) as (λ v. told_by test (Some (fate_answer (if v then HandedBack else what) f)) ≡ 0)
    [ true ↦ deaf test HandedBack f b | false ↦ deaf test what f h ]

pub deaf_to_crowding : (test : Answer → Bool) (most : ℕ) (fs : List Frame) → IsDeafTo test Crowded
    → told_by test (crowded_out most fs) ≡ 0
deaf_to_crowding test most [] h = refl
deaf_to_crowding test most (f ∷ fs) h =
    elim (nat_lt most (length (f ∷ fs))) as (λ b. told_by test (if b then Some (fate_answer Crowded f) else None) ≡ 0)
    [ true ↦ deaf test Crowded f h | false ↦ refl ]

leaving_by : (test : Answer → Bool) (way : Way) (f : Frame) → IsDeafTo test HandedBack → IsDeafTo test Left
    → told_by test (Some (fate_answer (leaving_fate way) f)) ≡ 0
leaving_by test InTurn f b l = deaf test Left f l
leaving_by test AnswersPoll f b l = deaf test Left f l
leaving_by test GoesBack f b l = deaf test HandedBack f b
leaving_by test IsDropped f b l = deaf test Left f l

pub deaf_to_leaving : (test : Answer → Bool) (s : Option Sent) → IsDeafTo test HandedBack → IsDeafTo test Left
    → told_by test (option_map leaving_answer s) ≡ 0
deaf_to_leaving test None b l = refl
deaf_to_leaving test (Some s) b l = leaving_by test s.frame.way s.frame b l

pub deaf_to_giving_up : (test : Answer → Bool) (mode : StationMode) (s : Option Sent) → IsDeafTo test GivenUp → IsDeafTo test HandedBack
    → told_by test (option_map (giving_up_answer mode) s) ≡ 0
deaf_to_giving_up test mode None g b = refl
deaf_to_giving_up test mode (Some s) g b = deaf_to_unsent test GivenUp mode s.frame g b

pub deaf_to_loss : (test : Answer → Bool) (again : Bool) (mode : StationMode) (f : Frame) → IsDeafTo test WaitsAgain
    → IsDeafTo test Lost → IsDeafTo test HandedBack
    → told_by test (Some (if again then fate_answer WaitsAgain f else fate_answer (unsent_fate Lost mode f) f)) ≡ 0
deaf_to_loss test true mode f w l b = deaf test WaitsAgain f w
deaf_to_loss test false mode f w l b = deaf_to_unsent test Lost mode f l b

-- one whose turn it is goes or is late
pub turn_told : (test : Answer → Bool) (now : ℕ) (mode : StationMode) (s : Sent) → IsDeafTo test Late → IsDeafTo test HandedBack
    → told_by test (turn_answer now mode (Some s)) ≤ one_if (test (fate_answer (sending_fate s) s.frame))
turn_told test now mode s l b =
    elim (nat_lt s.frame.until now) as (λ v. told_by test
    (if v then Some (fate_answer (unsent_fate Late mode s.frame) s.frame) else Some (fate_answer (sending_fate s) s.frame))
    ≤ one_if (test (fate_answer (sending_fate s) s.frame)))
    [ true ↦ omega (arith, deaf_to_unsent test Late mode s.frame l b) | false ↦ omega arith ]
