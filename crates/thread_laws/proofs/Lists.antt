-- Steps of several kinds in one list.
use Rattle.std.proofs.Common.{◌≡◌, ◌≢◌, ℕ, zero, suc, ◌+◌, ◌<◌, List, [], ◌∷◌, ◌++◌, length, map, Some, refl, ap, ◌∙◌, arith}
use Rattle.std.specs.Prelude.{slice_get}
use Rattle.std.specs.List.{filter_map, range_with_len}
use Rattle.std.proofs.lemmas.Bool.{eq-eqb, ne_eqb}
use Rattle.std.proofs.lemmas.List.{append-nil}
use Rattle.std.proofs.lemmas.List.Elements.{filter_map-append}
use Rattle.ap_config.specs.Places.{setting_at}
use Rattle.ap_config.specs.declared.config.RadioConfig.{RadioConfig}
use Rattle.bss_core.specs.Radio.{RadioState, event_for, radio_step, steps_from}
use Rattle.bss_core.specs.declared.radio.step.Step.{Step}
use Rattle.bss_core.specs.declared.radio.step.Step.TheVariants.{Take}
use Rattle.events.specs.declared.air_item.AirItem.{AirItem}
use Rattle.events.specs.declared.event.Event.{Event}
use Rattle.events.specs.declared.section.Section.{Section}
use Rattle.network.specs.Section.{section_of}
use Rattle.thread_laws.specs.Steps.{takes_from, leaves_of}

-- ---- steps after others

pub steps-append : (c : RadioConfig) (s : RadioState) (xs ys : List Step)
    → steps_from c s (xs ++ ys) ≡ steps_from c (steps_from c s xs) ys
steps-append c s [] ys = refl
steps-append c s (x ∷ xs) ys = steps-append c (radio_step c s x) xs ys

-- ---- which events of them belong to a network

-- what it takes itself
for-own : (place : ℕ) (events : List Event) → filter_map (event_for place) (map (Take place) events) ≡ events
for-own place [] = refl
for-own place (e ∷ es) = rw (eq-eqb place place refl) (ap (λ (xs : List Event). e ∷ xs) (for-own place es))

-- nothing of what another takes
for-other : (place other : ℕ) (events : List Event) → other ≢ place
    → filter_map (event_for place) (map (Take other) events) ≡ []
for-other place other [] ne = refl
for-other place other (e ∷ es) ne = rw (ne_eqb other place ne) (for-other place other es ne)

for-leaves : (place : ℕ) (items : List AirItem) → filter_map (event_for place) (leaves_of items) ≡ []
for-leaves place [] = refl
for-leaves place (item ∷ items) = for-leaves place items

for-before : (place from : ℕ) (sections : List Section) → place < from
    → filter_map (event_for place) (takes_from from sections) ≡ []
for-before place from [] before = refl
for-before place from (s ∷ ss) before =
    let ne : from ≢ place = omega (arith, before) in
    let later : place < from + 1 = omega (arith, before) in
    filter_map-append (event_for place) (map (Take from) s.events) (takes_from (from + 1) ss)
    ∙ (λ i. for-other place from s.events ne i ++ for-before place (from + 1) ss later i)

for-takes : (place from k : ℕ) (sections : List Section) (section : Section) → from + k ≡ place
    → slice_get sections k ≡ Some section → filter_map (event_for place) (takes_from from sections) ≡ section.events
for-takes place from k [] section at there = absurd (cc)
for-takes place from zero (s ∷ ss) section at there =
    let same : s ≡ section = cc in
    let here : from ≡ place = omega (arith, at) in
    let later : place < from + 1 = omega (arith, at) in
    filter_map-append (event_for place) (map (Take from) s.events) (takes_from (from + 1) ss)
    ∙ (λ i. filter_map (event_for place) (map (Take (here i)) s.events) ++ for-before place (from + 1) ss later i)
    ∙ append-nil (filter_map (event_for place) (map (Take place) s.events))
    ∙ for-own place s.events
    ∙ ap (λ (x : Section). x.events) same
for-takes place from (suc k) (s ∷ ss) section at there =
    let ne : from ≢ place = omega (arith, at) in
    let next : from + 1 + k ≡ place = omega (arith, at) in
    filter_map-append (event_for place) (map (Take from) s.events) (takes_from (from + 1) ss)
    ∙ (λ i. for-other place from s.events ne i ++ for-takes place (from + 1) k ss section next there i)

-- of all steps those that its section has
pub for-all : (place : ℕ) (sections : List Section) (left : List AirItem) (section : Section)
    → slice_get sections place ≡ Some section
    → filter_map (event_for place) (takes_from 0 sections ++ leaves_of left) ≡ section.events
for-all place sections left section there =
    let at : 0 + place ≡ place = omega arith in
    filter_map-append (event_for place) (takes_from 0 sections) (leaves_of left)
    ∙ (λ i. for-takes place 0 place sections section at there i ++ for-leaves place left i)
    ∙ append-nil section.events

-- ---- a list by its elements

pub sections-by : (c : RadioConfig) (events : ℕ → List Event) (from : ℕ) (sections : List Section)
    → ((k : ℕ) (section : Section) → slice_get sections k ≡ Some section
    → section ≡ section_of (setting_at c (from + k)) (events (from + k)))
    → sections ≡ map (λ place. section_of (setting_at c place) (events place)) (range_with_len from (length sections))
sections-by c events from [] each = refl
sections-by c events from (s ∷ ss) each =
    let at : from + 0 ≡ from = omega arith in
    let here : s ≡ section_of (setting_at c from) (events from) =
    each 0 s refl ∙ ap (λ (p : ℕ). section_of (setting_at c p) (events p)) at in
    let rest = sections-by c events (from + 1) ss
    (λ k section there.
    let next : from + suc k ≡ from + 1 + k = omega arith in
    each (suc k) section there ∙ ap (λ (p : ℕ). section_of (setting_at c p) (events p)) next) in
    λ i. here i ∷ rest i
