-- The events of a network, line by line.
use Rattle.std.proofs.Common.{◌≡◌, ℕ, ◌≤◌, cond, ltb, List, [], ◌∷◌, ◌++◌, Option, Some, None, length, take, refl, sym, ap, ◌∙◌, append-nil, arith, inl, inr}
use Rattle.std.specs.Prelude.{option_to_list}
use Rattle.std.proofs.lemmas.Bool.{cases_lt, lt-ltb, le-ltb}
use Rattle.std.proofs.lemmas.List.{length-append, length-take-le, take_all, take-append-le, flat_map_more}
use Rattle.ap_config.specs.declared.config.NetConfig.{NetConfig}
use Rattle.events.specs.declared.event.Event.{Event}
use Rattle.events.specs.Lines.{event_for, heard_of, heard, own_events, taken_of}
use Rattle.events.specs.declared.line.Line.{Line}

-- a line has one event at most
one_at_most : (event : Option Event) → length (option_to_list event) ≤ 1
one_at_most None = omega arith
one_at_most (Some e) = omega arith

-- the prefix of a list with at most one item more
take-push : (m : ℕ) (xs ys : List Event) → length ys ≤ 1
    → take m (xs ++ ys) ≡ take m xs ++ cond (ltb (length (take m xs)) m) ys []
take-push m xs ys one =
    elim (cases_lt (length xs) m) [
      | inl lt ↦
          let whole : take m xs ≡ xs = take_all m xs (omega arith) in
          let more : take m (xs ++ ys) ≡ xs ++ ys = take_all m (xs ++ ys) (omega (arith, length-append xs ys)) in
          rw (whole, lt-ltb (length xs) m lt, more) refl
      | inr ge ↦
          let same : take m (xs ++ ys) ≡ take m xs = take-append-le m xs ys ge in
          let full : length (take m xs) ≡ m = length-take-le m xs ge in
          rw (same, full, le-ltb m m (omega arith)) (sym (append-nil (take m xs)))
    ]

pub own_events-none : (place : ℕ) (n : NetConfig) → own_events place n [] ≡ []
own_events-none place n = take_all n.max_events [] (omega arith)

-- the events of one more line
pub own_events-push : (place : ℕ) (n : NetConfig) (ls : List Line) (l : Line)
    → own_events place n (ls ++ l ∷ []) ≡ own_events place n ls ++ taken_of place n (own_events place n ls) l
own_events-push place n ls l =
    ap (take n.max_events) (sym (flat_map_more (heard_of place n.bssid) [] ls l))
    ∙ take-push n.max_events (heard place n.bssid ls) (heard_of place n.bssid l) (one_at_most (event_for place n.bssid l))
