-- A line is taken at one place after another.
use Rattle.std.proofs.Common.{◌≡◌, ℕ, ◌+◌, ◌<◌, ◌≤◌, Bool, true, false, cond, ltb, List, [], ◌∷◌, ◌++◌, Some, None, length, refl, sym, ◌∙◌, arith, append-nil, inl, inr}
use Rattle.std.specs.Prelude.{option_to_list}
use Rattle.std.proofs.lemmas.Bool.{cases_lt}
use Rattle.ap_config.specs.Places.{network_at}
use Rattle.ap_config.specs.declared.config.NetConfig.{NetConfig}
use Rattle.bss_core.specs.RadioView.{RadioView, view_at}
use Rattle.events.specs.Lines.{event_for, taken_of}
use Rattle.events.specs.declared.event.Event.{Event}
use Rattle.events.specs.declared.line.Line.{Line}
use Rattle.replay.specs.Replay.{TakesLine, TakesOf}

-- ---- what a network takes of a line

-- the event that it is to the network
pub taken-some : (place : ℕ) (n : NetConfig) (history : List Event) (line : Line) (e : Event)
    → event_for place n.bssid line ≡ Some e
    → cond (ltb (length history) n.max_events) (e ∷ []) [] ≡ taken_of place n history line
taken-some place n history line e some = rw some refl

none-either : (b : Bool) → cond b (option_to_list {X = Event} None) [] ≡ []
none-either true = refl
none-either false = refl

-- or none
pub taken-none : (place : ℕ) (n : NetConfig) (history : List Event) (line : Line) → event_for place n.bssid line ≡ None
    → history ≡ history ++ taken_of place n history line
taken-none place n history line none =
    rw (none, none-either (ltb (length history) n.max_events)) (sym (append-nil history))

-- ---- one place

pub takes-none : (place : ℕ) (line : Line) (r : RadioView)
    → event_for place (network_at r.config place).bssid line ≡ None → TakesOf place line r r
takes-none place line r none = record {
  config = refl;
  there = taken-none place (network_at r.config place) (view_at r place).history line none;
  others = λ other ne. refl;
}

-- ---- one place after another

-- the networks before a place took what they hear of a line, and the others nothing
pub record TakesBelow (count : ℕ) (line : Line) (old new : RadioView) : Type 0 where
  pub config : new.config ≡ old.config
  pub below :
      (place : ℕ)
      → place < count
      → (view_at new place).history
      ≡ (view_at old place).history ++ taken_of place (network_at old.config place) (view_at old place).history line
  pub rest : (place : ℕ) → count ≤ place → (view_at new place).history ≡ (view_at old place).history

pub takes-next : (place : ℕ) (line : Line) (r0 r1 r2 : RadioView) → TakesBelow place line r0 r1
    → TakesOf place line r1 r2 → TakesBelow (place + 1) line r0 r2
takes-next place line r0 r1 r2 b t = record {
  config = t.config ∙ b.config;
  below = λ k low. elim (cases_lt k place) [
    | inl less ↦ t.others k (omega (arith, less)) ∙ b.below k less
    | inr high ↦
        let same : place ≡ k = omega (arith, low, high) in rw same at here
  ];
  rest = λ k high. t.others k (omega (arith, high)) ∙ b.rest k (omega (arith, high));
}
  where
    was : (view_at r1 place).history ≡ (view_at r0 place).history
    was = b.rest place (omega arith)

    here : (view_at r2 place).history
        ≡ (view_at r0 place).history ++ taken_of place (network_at r0.config place) (view_at r0 place).history line
    here = t.there ∙ (λ i. was i ++ taken_of place (network_at (b.config i) place) (was i) line)

-- all of them did
pub takes-all : (count : ℕ) (line : Line) (old new : RadioView) → TakesBelow count line old new
    → length old.config.networks ≤ count → TakesLine line old new
takes-all count line old new b all = record {
  config = b.config;
  each = λ k there. b.below k (omega (arith, there, all));
}
