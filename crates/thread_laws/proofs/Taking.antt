-- Each network takes the events of its section.
use Rattle.std.proofs.Common.{◌≡◌, ◌≢◌, ℕ, zero, suc, ◌+◌, ◌≤◌, ◌<◌, List, [], ◌∷◌, ◌++◌, length, map, get_or, Some, inl, inr, refl, sym, ap, ◌∙◌, subst, arith}
use Rattle.std.specs.Prelude.{slice_get}
use Rattle.std.proofs.Math.ListN.{length-set}
use Rattle.std.proofs.lemmas.Bool.{lt-ltb, cases_eq}
use Rattle.std.proofs.lemmas.List.{append-nil, append_assoc, length_push, length-map, get_or-set_same, get_or-set_other}
use Rattle.ap_config.specs.Places.{network_at}
use Rattle.ap_config.specs.declared.config.NetConfig.{NetConfig}
use Rattle.ap_config.specs.declared.config.RadioConfig.{RadioConfig}
use Rattle.bss_core.specs.Radio.{Place, untouched, RadioState, first_state, place_at, with_place, radio_step, steps_from}
use Rattle.bss_core.specs.declared.radio.step.Step.TheVariants.{Take}
use Rattle.events.specs.declared.event.Event.{Event}
use Rattle.events.specs.declared.section.Section.{Section}
use Rattle.thread_laws.specs.Steps.{takes_from}
use Rattle.thread_laws.proofs.Lists.{steps-append}

-- ---- one place changed

pub at-same : (s : RadioState) (place : ℕ) (p : Place) → place < length s.places → place_at (with_place s place p) place ≡ p
at-same s place p within = get_or-set_same s.places place p untouched within

pub at-other : (s : RadioState) (place other : ℕ) (p : Place) → other ≢ place
    → place_at (with_place s place p) other ≡ place_at s other
at-other s place other p ne = get_or-set_other s.places place other p untouched ne

-- ---- nothing is handed yet

pub record IsUnsent (c : RadioConfig) (s : RadioState) : Type 0 where
  pub size : length s.places ≡ length c.networks
  pub queue : s.queue ≡ []
  pub left : s.left ≡ []
  pub handed : (place : ℕ) → (place_at s place).handed ≡ 0

none-yet : (ns : List NetConfig) (place : ℕ) → get_or (map (λ _. untouched) ns) place untouched ≡ untouched
none-yet [] place = refl
none-yet (n ∷ ns) zero = refl
none-yet (n ∷ ns) (suc place) = none-yet ns place

pub no-events : (c : RadioConfig) (place : ℕ) → (place_at (first_state c) place).events ≡ []
no-events c place = ap (λ (p : Place). p.events) (none-yet c.networks place)

pub first-unsent : (c : RadioConfig) → IsUnsent c (first_state c)
first-unsent c = record {
  size = length-map c.networks (λ (_ : NetConfig). untouched);
  queue = refl;
  left = refl;
  handed = λ place. ap (λ (p : Place). p.handed) (none-yet c.networks place);
}

-- ---- one event

abbrev with_event : RadioState → ℕ → Event → RadioState
with_event s place e =
    with_place s place (record (place_at s place) { events = (place_at s place).events ++ e ∷ [] })

take-one : (c : RadioConfig) (s : RadioState) (place : ℕ) (e : Event) → place < length c.networks
    → length (place_at s place).events < (network_at c place).max_events
    → radio_step c s (Take place e) ≡ with_event s place e
unfolding radio_step
take-one c s place e within room = rw (lt-ltb _ _ within, lt-ltb _ _ room) refl

unsent-one : (c : RadioConfig) (s : RadioState) (place : ℕ) (e : Event) → place < length c.networks
    → IsUnsent c s → IsUnsent c (with_event s place e)
unsent-one c s place e within h =
    let p : Place = record (place_at s place) { events = (place_at s place).events ++ e ∷ [] } in
    let inside : place < length s.places = omega (arith, within, h.size) in
    record {
      size = length-set s.places place p ∙ h.size;
      queue = h.queue;
      left = h.left;
      handed = λ other.
          elim (cases_eq other place) [
            | inl same ↦
                ap (λ (k : ℕ). (place_at (with_place s place p) k).handed) same
                ∙ ap (λ (q : Place). q.handed) (at-same s place p inside)
                ∙ h.handed place
            | inr ne ↦ ap (λ (q : Place). q.handed) (at-other s place other p ne) ∙ h.handed other
          ];
    }

-- ---- the events of one network

record AreTaken (c : RadioConfig) (place : ℕ) (events : List Event) (s t : RadioState) : Type 0 where
  unsent : IsUnsent c t
  here : (place_at t place).events ≡ (place_at s place).events ++ events
  others : (other : ℕ) → other ≢ place → place_at t other ≡ place_at s other

takes : (c : RadioConfig) (place : ℕ) (events : List Event) (s : RadioState) → place < length c.networks
    → length (place_at s place).events + length events ≤ (network_at c place).max_events → IsUnsent c s
    → AreTaken c place events s (steps_from c s (map (Take place) events))
takes c place [] s within room h = record {
  unsent = h;
  here = sym (append-nil (place_at s place).events);
  others = λ other ne. refl;
}
takes c place (e ∷ es) s within room h =
    let p : Place = record (place_at s place) { events = (place_at s place).events ++ e ∷ [] } in
    let inside : place < length s.places = omega (arith, within, h.size) in
    let one : radio_step c s (Take place e) ≡ with_place s place p = take-one c s place e within (omega (arith, room)) in
    let at : place_at (with_place s place p) place ≡ p = at-same s place p inside in
    let long : length p.events ≡ length (place_at s place).events + 1 = length_push (place_at s place).events e in
    let count = ap (λ (q : Place). length q.events) at in
    let rest : AreTaken c place es (with_place s place p) (steps_from c (with_place s place p) (map (Take place) es)) =
    takes c place es (with_place s place p) within (omega (arith, room, long, count)) (unsent-one c s place e within h) in
    subst (λ (t : RadioState). AreTaken c place (e ∷ es) s (steps_from c t (map (Take place) es))) (sym one)
    (record {
      unsent = rest.unsent;
      here = rest.here ∙ ap (λ (q : Place). q.events ++ es) at
          ∙ append_assoc (place_at s place).events (e ∷ []) es;
      others = λ other ne. rest.others other ne ∙ at-other s place other p ne;
    })

-- ---- those of all networks from a place on

pub record AreAllTaken (c : RadioConfig) (from : ℕ) (sections : List Section) (s t : RadioState) : Type 0 where
  pub unsent : IsUnsent c t
  pub here : (k : ℕ) (section : Section) → slice_get sections k ≡ Some section
      → (place_at t (from + k)).events ≡ section.events
  pub before : (place : ℕ) → place < from → place_at t place ≡ place_at s place

pub takes-all : (c : RadioConfig) (from : ℕ) (sections : List Section) (s : RadioState)
    → from + length sections ≤ length c.networks
    → ((k : ℕ) (section : Section) → slice_get sections k ≡ Some section
    → length section.events ≤ (network_at c (from + k)).max_events)
    → ((place : ℕ) → from ≤ place → (place_at s place).events ≡ []) → IsUnsent c s
    → AreAllTaken c from sections s (steps_from c s (takes_from from sections))
takes-all c from [] s few bounded empty h = record {
  unsent = h;
  here = λ k section there. absurd (cc);
  before = λ place lt. refl;
}
takes-all c from (x ∷ xs) s few bounded empty h =
    let at : from + 0 ≡ from = omega arith in
    let within : from < length c.networks = omega (arith, few) in
    let less : from + 1 + length xs ≤ length c.networks = omega (arith, few) in
    let none : (place_at s from).events ≡ [] = empty from (omega arith) in
    let most : length x.events ≤ (network_at c from).max_events =
    subst (λ (p : ℕ). length x.events ≤ (network_at c p).max_events) at (bounded 0 x refl) in
    let room : length (place_at s from).events + length x.events ≤ (network_at c from).max_events =
    omega (arith, most, ap length none) in
    let mid : RadioState = steps_from c s (map (Take from) x.events) in
    let first : AreTaken c from x.events s mid = takes c from x.events s within room h in
    let rest : AreAllTaken c (from + 1) xs mid (steps_from c mid (takes_from (from + 1) xs)) =
    takes-all c (from + 1) xs mid less
    (λ k section there.
    let next : from + suc k ≡ from + 1 + k = omega arith in
    subst (λ (p : ℕ). length section.events ≤ (network_at c p).max_events) next (bounded (suc k) section there))
    (λ place past.
    let ne : place ≢ from = omega (arith, past) in
    ap (λ (p : Place). p.events) (first.others place ne) ∙ empty place (omega (arith, past)))
    first.unsent in
    let t : RadioState = steps_from c mid (takes_from (from + 1) xs) in
    let own : (place_at t from).events ≡ x.events =
    ap (λ (p : Place). p.events) (rest.before from (omega arith)) ∙ first.here
    ∙ ap (λ (es : List Event). es ++ x.events) none in
    subst (AreAllTaken c from (x ∷ xs) s) (sym (steps-append c s (map (Take from) x.events) (takes_from (from + 1) xs)))
    (record {
      unsent = rest.unsent;
      here = λ k section there. at-each c from x xs t own rest.here k section there;
      before = λ place lt.
          let ne : place ≢ from = omega (arith, lt) in
          rest.before place (omega (arith, lt)) ∙ first.others place ne;
    })
  where
    at-each : (c : RadioConfig) (from : ℕ) (x : Section) (xs : List Section) (t : RadioState)
        → (place_at t from).events ≡ x.events
        → ((k : ℕ) (section : Section) → slice_get xs k ≡ Some section
        → (place_at t (from + 1 + k)).events ≡ section.events)
        → (k : ℕ) (section : Section) → slice_get (x ∷ xs) k ≡ Some section
        → (place_at t (from + k)).events ≡ section.events
    at-each c from x xs t own rest zero section there =
        let same : x ≡ section = cc in
        let at : from + 0 ≡ from = omega arith in
        ap (λ (p : ℕ). (place_at t p).events) at ∙ own ∙ ap (λ (s : Section). s.events) same
    at-each c from x xs t own rest (suc k) section there =
        let next : from + suc k ≡ from + 1 + k = omega arith in
        ap (λ (p : ℕ). (place_at t p).events) next ∙ rest k section there
