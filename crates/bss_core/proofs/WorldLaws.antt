-- Two radios that have a network in common.
use Rattle.std.proofs.Common.{◌≡◌, ℕ, ◌<◌, ◌≤◌, List, ◌++◌, length, take, drop, slice_get, Some, refl, sym, ap, ◌∙◌, arith, inl, inr}
use Rattle.std.proofs.lemmas.Bool.{cases_lt}
use Rattle.std.proofs.lemmas.List.{append_assoc, take-append-drop, take-append-le, take_at}
use Rattle.std.proofs.lemmas.List.FromFn.{get_or-map-range_with_len, length-map-range_with_len}
use Rattle.std.proofs.lemmas.Option.{slice_get-get_or}
use Rattle.events.specs.Lists.{IsPrefix}
use Rattle.ap_config.specs.declared.setting.Setting.{Setting}
use Rattle.network.specs.Network.{alone}
use Rattle.ap_config.specs.Places.{setting_at}
use Rattle.bss_core.specs.Radio.{after_steps, waiting_at, part_of, sections_after}
use Rattle.events.specs.Items.{items_of}
use Rattle.network.specs.Section.{section_of}
use Rattle.bss_core.specs.Worlds.{AreAlike, AreCutFromOne}
use Rattle.ap_config.specs.declared.config.NetConfig.{NetConfig}
use Rattle.ap_config.specs.declared.config.RadioConfig.{RadioConfig}
use Rattle.events.specs.declared.event.Event.{Event}
use Rattle.events.specs.declared.section.Section.{Section}
use Rattle.bss_core.specs.declared.radio.step.Step.{Step}
use Rattle.bss_core.proofs.FrameLaws.{FrameLaws}
use Rattle.bss_core.proofs.RadioFrames.{frames-alone}

-- ---- beginnings of one list

prefix-by : (xs ys us vs : List (List ℕ)) → xs ++ us ≡ ys ++ vs → length xs ≤ length ys → IsPrefix xs ys
prefix-by xs ys us vs same le =
    let front : take (length xs) ys ≡ xs = sym (take-append-le (length xs) ys vs le) ∙ ap (take (length xs)) (sym same) ∙ take_at xs us (length xs) refl in
    (drop (length xs) ys, ap (λ (fs : List (List ℕ)). fs ++ drop (length xs) ys) (sym front) ∙ take-append-drop (length xs) ys)

cut-by : (xs ys us vs : List (List ℕ)) → xs ++ us ≡ ys ++ vs → AreCutFromOne xs ys
cut-by xs ys us vs same =
    elim (cases_lt (length xs) (length ys)) [
      | inl lt ↦ inl (prefix-by xs ys us vs same (omega arith))
      | inr ge ↦ inr (prefix-by ys xs vs us (sym same) ge)
    ]

-- ---- the network in common

setting-alike : (c d : RadioConfig) (steps others : List Step) (p q : ℕ) → AreAlike c d steps others p q → setting_at c p ≡ setting_at d q
setting-alike c d steps others p q h =
    ap (λ n. record (setting_at c p) { channel = n }) h.channel
    ∙ ap (λ n. record (setting_at c p) { channel = d.channel; interval = n }) h.interval
    ∙ ap (λ (n : NetConfig). record (setting_at d q) { network = n }) h.network

section-at : (c : RadioConfig) (steps : List Step) (place : ℕ) → place < length c.networks → slice_get (sections_after c steps) place ≡ Some (section_of (setting_at c place) (part_of c place steps))
section-at c steps place within =
    let f : ℕ → Section = λ n. section_of (setting_at c n) (part_of c n steps) in
    let count : ℕ = length c.networks in
    slice_get-get_or (sections_after c steps) place (f place) (omega (arith, length-map-range_with_len f 0 count))
    ∙ ap Some (get_or-map-range_with_len f 0 count place place (f place) within (omega arith))

pub sections-alike : (c d : RadioConfig) (steps others : List Step) (p q : ℕ) → AreAlike c d steps others p q → slice_get (sections_after c steps) p ≡ slice_get (sections_after d others) q
sections-alike c d steps others p q h =
    section-at c steps p h.here
    ∙ ap (λ (s : Setting). Some (section_of s (part_of c p steps))) (setting-alike c d steps others p q h)
    ∙ ap (λ (es : List Event). Some (section_of (setting_at d q) es)) h.events
    ∙ sym (section-at d others q h.there)

pub left-alike : FrameLaws → (c d : RadioConfig) (steps others : List Step) (p q : ℕ) → AreAlike c d steps others p q → AreCutFromOne (items_of p (after_steps c steps).left) (items_of q (after_steps d others).left)
left-alike laws c d steps others p q h =
    let s = after_steps c steps in
    let t = after_steps d others in
    let left : List (List ℕ) = items_of p s.left in
    let queued : List (List ℕ) = items_of p s.queue in
    let other_left : List (List ℕ) = items_of q t.left in
    let other_queued : List (List ℕ) = items_of q t.queue in
    let same : left ++ (queued ++ waiting_at c s p) ≡ other_left ++ (other_queued ++ waiting_at d t q) = sym (append_assoc left queued (waiting_at c s p)) ∙ frames-alone laws c steps p h.here ∙ ap (λ (u : Setting). (alone u (part_of c p steps)).air) (setting-alike c d steps others p q h) ∙ ap (λ (es : List Event). (alone (setting_at d q) es).air) h.events ∙ sym (frames-alone laws d others q h.there) ∙ append_assoc other_left other_queued (waiting_at d t q) in
    cut-by left other_left _ _ same
