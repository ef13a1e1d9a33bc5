-- What the status of a request and its class say of the stations.
use Rattle.std.proofs.Common.{◌≡◌, ℕ, ◌<◌, Bool, true, false, not, List, Option, Some, None, is_some, refl, arith}
use Rattle.std.specs.Prelude.{◌==◌, if◌then◌else◌}
use Rattle.elements.specs.Elements.{Pair}
use Rattle.association.specs.Status.{success, refused, unsupported_auth_algorithm, transaction_sequence_error, denied_no_more_stas, refused_basic_rates_mismatch}
use Rattle.association.specs.Authentication.{auth_status, open_system, request_step}
use Rattle.association.specs.Joining.{assoc_status, names_network, has_basic_rates}
use Rattle.station_state.specs.ClassFault.{class_fault}
use Rattle.station_state.specs.declared.class.Class.TheVariants.{Two}
use Rattle.stations.specs.Stations.{aid_with, standing_with}
use Rattle.station_state.specs.declared.state.StationState.{StationState}
use Rattle.station_state.specs.declared.state.StationState.TheVariants.{Authenticated, Associated}

room-after : (x y z : ℕ) (a b room : Bool) → 0 < x → 0 < y → 0 < z → (if a then x else (if b then y else (if not room then z else success))) ≡ success → room ≡ true
room-after x y z true b room first second third h = absurd (omega (arith, h))
room-after x y z false true room first second third h = absurd (omega (arith, h))
room-after x y z false false true first second third h = refl
room-after x y z false false false first second third h = absurd (omega (arith, h))

-- a request to authenticate is served only where there is room
pub room-authenticated : (algorithm step : ℕ) (room : Bool) → auth_status algorithm step room ≡ success → room ≡ true
room-authenticated algorithm step room h =
    room-after unsupported_auth_algorithm transaction_sequence_error refused (not (algorithm == open_system)) (not (step == request_step)) room (omega arith) (omega arith) (omega arith) h

-- and so one to associate
pub room-associated : (ssid rates : List ℕ) (room : Bool) (es : List Pair) → assoc_status ssid rates room es ≡ success → room ≡ true
room-associated ssid rates room es h =
    room-after refused refused_basic_rates_mismatch denied_no_more_stas (not (names_network ssid es)) (not (has_basic_rates rates es)) room (omega arith) (omega arith) (omega arith) h

-- a frame of Class 2 is taken from a known station alone
pub known-where_taken : (state : Option StationState) → class_fault (standing_with state) Two ≡ None → is_some state ≡ true
known-where_taken None h = absurd (cc)
known-where_taken (Some Authenticated) h = refl
known-where_taken (Some (Associated aid listen doze)) h = refl

pub known-where_associated : (state : Option StationState) → is_some (aid_with state) ≡ true → is_some state ≡ true
known-where_associated None h = h
known-where_associated (Some state) h = refl
