-- Each frame that left is handed to the queue, and leaves.
use Rattle.std.proofs.Common.{◌≡◌, ◌≢◌, ℕ, ◌+◌, ◌≤◌, ◌<◌, All, List, [], ◌∷◌, ◌++◌, length, drop, Some, inl, inr, refl, sym, ap, ◌∙◌, subst, arith}
use Rattle.std.specs.Prelude.{slice_get}
use Rattle.std.proofs.Math.ListN.{length-set}
use Rattle.std.proofs.lemmas.Bool.{lt-ltb, eq-eqb, ne_eqb, cases_eq}
use Rattle.std.proofs.lemmas.List.{append-nil, append_assoc, length-drop, drop_more}
use Rattle.std.proofs.lemmas.List.Elements.{All-head, All-tail}
use Rattle.std.proofs.lemmas.Option.{slice_get-get_or}
use Rattle.ap_config.specs.Places.{setting_at}
use Rattle.ap_config.specs.declared.config.RadioConfig.{RadioConfig}
use Rattle.bss_core.specs.Radio.{Place, RadioState, air_at, place_at, waiting_at, with_place, radio_step, steps_from}
use Rattle.bss_core.specs.declared.radio.step.Step.TheVariants.{Hand, Leave}
use Rattle.events.specs.Items.{items_of}
use Rattle.events.specs.declared.air_item.AirItem.{AirItem}
use Rattle.network.specs.Network.{alone}
use Rattle.thread_laws.specs.Steps.{leaves_of}
use Rattle.thread_laws.proofs.Taking.{at-same, at-other}

-- what waits of the network at a place that stands so
abbrev waits_of : RadioConfig → ℕ → Place → List (List ℕ)
waits_of c place p = drop p.handed (alone (setting_at c place) p.events).air

-- nothing is queued, these frames left, and of each network those wait that are still to leave
pub record IsLeaving (c : RadioConfig) (gone rest : List AirItem) (s : RadioState) : Type 0 where
  pub size : length s.places ≡ length c.networks
  pub queue : s.queue ≡ []
  pub left : s.left ≡ gone
  pub waits : (place : ℕ) → place < length c.networks → waiting_at c s place ≡ items_of place rest

next-frame : (frames : List (List ℕ)) (number : ℕ) (octets : List ℕ) (rest : List (List ℕ))
    → drop number frames ≡ octets ∷ rest
    → (slice_get frames number ≡ Some octets) × (drop (number + 1) frames ≡ rest)
next-frame frames number octets rest is =
    let within : number < length frames = omega (arith, length-drop number frames, ap length is) in
    let more = drop_more frames number octets within in
    let got = slice_get-get_or frames number octets within in
    (cc, cc)

item-own : (item : AirItem) (items : List AirItem)
    → items_of item.place (item ∷ items) ≡ item.octets ∷ items_of item.place items
item-own item items = rw (eq-eqb item.place item.place refl) refl

item-other : (place : ℕ) (item : AirItem) (items : List AirItem) → item.place ≢ place
    → items_of place (item ∷ items) ≡ items_of place items
item-other place item items ne = rw (ne_eqb item.place place ne) refl

-- ---- one frame

abbrev handed_one : RadioState → ℕ → Place
handed_one s place = record (place_at s place) { handed = (place_at s place).handed + 1 }

abbrev with_left : RadioState → AirItem → RadioState
with_left s item =
    record (with_place s item.place (handed_one s item.place)) { queue = []; left = s.left ++ item ∷ [] }

hand-one : (c : RadioConfig) (s : RadioState) (item : AirItem) → item.place < length c.networks
    → slice_get (air_at c s item.place) (place_at s item.place).handed ≡ Some item.octets
    → length s.queue < c.queue
    → radio_step c s (Hand item.place)
    ≡ record (with_place s item.place (handed_one s item.place)) { queue = s.queue ++ item ∷ [] }
unfolding radio_step
hand-one c s item within is room = rw (lt-ltb _ _ within, is, lt-ltb _ _ room) refl

leave-one : (c : RadioConfig) (s : RadioState) (item : AirItem) (items : List AirItem) → s.queue ≡ item ∷ items
    → radio_step c s Leave ≡ record s { queue = items; left = s.left ++ item ∷ [] }
unfolding radio_step
leave-one c s item items is = rw is refl

both-steps : (c : RadioConfig) (s : RadioState) (item : AirItem) → item.place < length c.networks
    → slice_get (air_at c s item.place) (place_at s item.place).handed ≡ Some item.octets
    → s.queue ≡ [] → 1 ≤ c.queue
    → radio_step c (radio_step c s (Hand item.place)) Leave ≡ with_left s item
both-steps c s item within is none room =
    let short : length s.queue < c.queue = omega (arith, room, ap length none) in
    let mid : RadioState = record (with_place s item.place (handed_one s item.place)) { queue = s.queue ++ item ∷ [] } in
    ap (λ (t : RadioState). radio_step c t Leave) (hand-one c s item within is short)
    ∙ leave-one c mid item [] (ap (λ (q : List AirItem). q ++ item ∷ []) none)

leaving-one : (c : RadioConfig) (gone rest : List AirItem) (s : RadioState) (item : AirItem)
    → item.place < length c.networks → IsLeaving c gone (item ∷ rest) s
    → drop ((place_at s item.place).handed + 1) (air_at c s item.place) ≡ items_of item.place rest
    → IsLeaving c (gone ++ item ∷ []) rest (with_left s item)
leaving-one c gone rest s item within h fewer =
    let p : Place = handed_one s item.place in
    let inside : item.place < length s.places = omega (arith, within, h.size) in
    record {
      size = length-set s.places item.place p ∙ h.size;
      queue = refl;
      left = ap (λ (xs : List AirItem). xs ++ item ∷ []) h.left;
      waits = λ place there.
          elim (cases_eq place item.place) [
            | inl same ↦
                ap (λ (k : ℕ). waiting_at c (with_place s item.place p) k) same
                ∙ waiting-by c s item.place p item.place p (at-same s item.place p inside)
                ∙ fewer
                ∙ ap (λ (k : ℕ). items_of k rest) (sym same)
            | inr ne ↦
                waiting-by c s item.place p place (place_at s place) (at-other s item.place place p ne)
                ∙ h.waits place there
                ∙ item-other place item rest (λ same. ne (sym same))
          ];
    }
  where
    waiting-by : (c : RadioConfig) (s : RadioState) (changed : ℕ) (p : Place) (place : ℕ) (q : Place)
        → place_at (with_place s changed p) place ≡ q
        → waiting_at c (with_place s changed p) place ≡ waits_of c place q
    waiting-by c s changed p place q is = ap (waits_of c place) is

-- ---- all frames

pub leaves : (c : RadioConfig) (gone rest : List AirItem) (s : RadioState) → 1 ≤ c.queue
    → All (λ item. item.place < length c.networks) rest → IsLeaving c gone rest s
    → IsLeaving c (gone ++ rest) [] (steps_from c s (leaves_of rest))
leaves c gone [] s room placed h = subst (λ (xs : List AirItem). IsLeaving c xs [] s) (sym (append-nil gone)) h
leaves c gone (item ∷ rest) s room placed h =
    let within : item.place < length c.networks =
    All-head (λ (i : AirItem). i.place < length c.networks) item rest placed in
    let next =
    next-frame (air_at c s item.place) (place_at s item.place).handed item.octets (items_of item.place rest)
    (h.waits item.place within ∙ item-own item rest) in
    let one : IsLeaving c (gone ++ item ∷ []) rest (with_left s item) =
    leaving-one c gone rest s item within h next.1 in
    let all =
    leaves c (gone ++ item ∷ []) rest (with_left s item) room
    (All-tail (λ (i : AirItem). i.place < length c.networks) item rest placed) one in
    subst (λ (x : List AirItem × RadioState). IsLeaving c x.0 [] (steps_from c x.1 (leaves_of rest)))
    (λ i. (append_assoc gone (item ∷ []) rest i, sym (both-steps c s item within next.0 h.queue room) i)) all
