-- What a radio keeps, where one network or the queue changes.
use Rattle.std.proofs.Common.{◌≡◌, ℕ, ◌≤◌, ◌<◌, List, [], ◌∷◌, ◌++◌, length, map, get_or, set, Option, Some, None, Result, Ok, Err, OnOk, OnErr, sym, ap, subst, ◌∙◌, arith, inl, inr}
use Rattle.std.specs.Prelude.{All, option_to_list}
use Rattle.std.proofs.lemmas.Bool.{cases_eq}
use Rattle.std.proofs.lemmas.List.{length-map, length-set, map-set, get_or-map, get_or-set_same, get_or-set_other, append_assoc}
use Rattle.std.proofs.lemmas.List.Elements.{All-rest}
use Rattle.std.proofs.Math.Seq.{map-set_same}
use Rattle.events.specs.Lists.{IsSuffix}
use Rattle.ap_config.specs.declared.setting.Setting.{Setting}
use Rattle.network.specs.Network.{alone}
use Rattle.ap_config.specs.Places.{no_network, setting_at, setting_in}
use Rattle.events.specs.Items.{items_of}
use Rattle.bss_core.specs.RadioView.{RadioView, NetworkView, unused, view_at, settings_of, shown, config_of, radio_of, IsSoundRadio}
use Rattle.network.specs.BssView.{BssView, network_of, sent_by}
use Rattle.network.specs.declared.bss.Refusal.{Refusal}
use Rattle.ap_config.specs.declared.config.NetConfig.{NetConfig}
use Rattle.ap_config.specs.declared.config.RadioConfig.{RadioConfig}
use Rattle.events.specs.declared.event.Event.{Event}
use Rattle.events.specs.declared.air_item.AirItem.{AirItem}
use Rattle.bss_core.proofs.FrameLaws.{FrameLaws}

-- ---- suffixes

pub suffix_more : (xs ys zs : List (List ℕ)) → IsSuffix xs ys → IsSuffix (xs ++ zs) (ys ++ zs)
suffix_more xs ys zs h =
    (h.0, sym (append_assoc h.0 xs zs) ∙ ap (λ (fs : List (List ℕ)). fs ++ zs) h.1)

suffix_rest : (first xs ys : List (List ℕ)) → IsSuffix (first ++ xs) ys → IsSuffix xs ys
suffix_rest first xs ys h = (h.0 ++ first, append_assoc h.0 first xs ∙ h.1)

-- ---- one network and the queue change

abbrev changed : RadioView → ℕ → NetworkView → List AirItem → RadioView
changed r place v items = record r { networks = set r.networks place v; queue = items }

-- what holds of the changed view, and of each other, holds of each
pub at_each_view : (r : RadioView) (place : ℕ) (v : NetworkView) (items : List AirItem) (Q : ℕ → NetworkView → Type 0) → place < length r.networks → Q place v → ((other : ℕ) → (other ≡ place → ⊥) → Q other (view_at r other)) → (other : ℕ) → Q other (view_at (changed r place v items) other)
at_each_view r place v items Q within here others other =
    elim (cases_eq other place) [
      | inl e ↦
          subst (λ n. Q n (view_at (changed r place v items) n)) (sym e)
          (subst (Q place) (sym (get_or-set_same r.networks place v unused within)) here)
      | inr ne ↦ subst (Q other) (sym (get_or-set_other r.networks place other v unused ne)) (others other ne)
    ]

-- what the queue has of a network, and what waits of it, is the end of what it sent
abbrev EndsFrames : RadioConfig → List AirItem → ℕ → NetworkView → Type 0
EndsFrames c items place v =
    IsSuffix (items_of place items ++ v.waiting) (alone (setting_at c place) v.history).air

sound-changed : (r : RadioView) (place : ℕ) (v : NetworkView) (items : List AirItem) → IsSoundRadio r → place < length r.config.networks → length items ≤ r.config.queue → All (λ item. item.place < length r.config.networks) items → ((other : ℕ) → (other ≡ place → ⊥) → items_of other items ≡ items_of other r.queue) → EndsFrames r.config items place v → IsSoundRadio (changed r place v items)
sound-changed r place v items h within bounded placed others last = record {
  accepted = h.accepted;
  whole = length-set r.networks place v ∙ h.whole;
  bounded = bounded;
  placed = placed;
  last =
      at_each_view r place v items (λ q w. q < length r.config.networks → EndsFrames r.config items q w) (omega (arith, h.whole)) (λ _. last) (λ q ne l. subst (λ fs. IsSuffix (fs ++ (view_at r q).waiting) (alone (setting_at r.config q) (view_at r q).history).air) (sym (others q ne)) (h.last q l));
}

-- ---- the networks that it runs

-- each has the setting of its place
pub setting-at : (channel interval capacity : ℕ) (states : List BssView) (place : ℕ) (d : BssView) → map (λ (s : BssView). s.setting) states ≡ settings_of (config_of channel interval capacity states) → place < length states → (get_or states place d).setting ≡ setting_at (config_of channel interval capacity states) place
setting-at channel interval capacity states place d same within =
    let c : RadioConfig = config_of channel interval capacity states in
    sym (get_or-map (λ (s : BssView). s.setting) states place d d.setting within)
    ∙ ap (λ (ss : List Setting). get_or ss place d.setting) same
    ∙ get_or-map (setting_in c) c.networks place no_network d.setting (omega (arith, length-map states (λ (s : BssView). s.setting.network)))

-- a network that changes, and the queue
pub radio-changed : (channel interval capacity : ℕ) (states : List BssView) (items more : List AirItem) (place : ℕ) (d new : BssView) → place < length states → new.setting ≡ (get_or states place d).setting → radio_of channel interval capacity (set states place new) more ≡ changed (radio_of channel interval capacity states items) place (shown new) more
radio-changed channel interval capacity states items more place d new within same =
    ap (λ (ns : List NetConfig). record (radio_of channel interval capacity (set states place new) more) { config = record (config_of channel interval capacity states) { networks = ns } }) (map-set_same (λ (s : BssView). s.setting.network) states place new d (ap (λ (s : Setting). s.network) same))
    ∙ ap (λ (vs : List NetworkView). record (radio_of channel interval capacity states more) { networks = vs }) (map-set shown states place new)

pub settings-changed : (channel interval capacity : ℕ) (states : List BssView) (place : ℕ) (d new : BssView) → new.setting ≡ (get_or states place d).setting → map (λ (s : BssView). s.setting) states ≡ settings_of (config_of channel interval capacity states) → map (λ (s : BssView). s.setting) (set states place new) ≡ settings_of (config_of channel interval capacity (set states place new))
settings-changed channel interval capacity states place d new same all =
    map-set_same (λ (s : BssView). s.setting) states place new d same ∙ all
    ∙ ap (λ (ns : List NetConfig). settings_of (record (config_of channel interval capacity states) { networks = ns })) (sym (map-set_same (λ (s : BssView). s.setting.network) states place new d (ap (λ (s : Setting). s.network) same)))

-- what is queued and then waits of a network, by the network itself
pub last-at : (channel interval capacity : ℕ) (states : List BssView) (items : List AirItem) (place : ℕ) (d : BssView) → IsSoundRadio (radio_of channel interval capacity states items) → map (λ (s : BssView). s.setting) states ≡ settings_of (config_of channel interval capacity states) → place < length states → IsSuffix (items_of place items ++ (get_or states place d).waiting) (network_of (get_or states place d)).air
last-at channel interval capacity states items place d h same within =
    let c : RadioConfig = config_of channel interval capacity states in
    let view : view_at (radio_of channel interval capacity states items) place ≡ shown (get_or states place d) = get_or-map shown states place d unused within in
    let setting = setting-at channel interval capacity states place d same within in
    let given = h.last place (omega (arith, length-map states (λ (s : BssView). s.setting.network))) in
    subst (λ (t : Setting). IsSuffix (items_of place items ++ (get_or states place d).waiting) (alone t (get_or states place d).history).air) (sym setting)
    (subst (λ (v : NetworkView). IsSuffix (items_of place items ++ v.waiting) (alone (setting_at c place) v.history).air) view given)

pub sound-network : (channel interval capacity : ℕ) (states : List BssView) (items more : List AirItem) (place : ℕ) (d new : BssView) → IsSoundRadio (radio_of channel interval capacity states items) → map (λ (s : BssView). s.setting) states ≡ settings_of (config_of channel interval capacity states) → place < length states → new.setting ≡ (get_or states place d).setting → length more ≤ capacity → All (λ item. item.place < length states) more → ((other : ℕ) → (other ≡ place → ⊥) → items_of other more ≡ items_of other items) → IsSuffix (items_of place more ++ new.waiting) (network_of new).air → IsSoundRadio (radio_of channel interval capacity (set states place new) more)
sound-network channel interval capacity states items more place d new h same within setting bounded placed others last =
    let r : RadioView = radio_of channel interval capacity states items in
    let count = length-map states (λ (s : BssView). s.setting.network) in
    let at = setting ∙ setting-at channel interval capacity states place d same within in
    let ends = subst (λ (t : Setting). IsSuffix (items_of place more ++ new.waiting) (alone t new.history).air) at last in
    subst IsSoundRadio (sym (radio-changed channel interval capacity states items more place d new within setting))
    (sound-changed r place (shown new) more h (omega (arith, count)) bounded (subst (λ n. All (λ (item : AirItem). item.place < n) more) (sym count) placed) others ends)

-- ---- a network takes an event

-- what waits after the call, whether or not it took the event, is the end of what was sent
pub took-last : (r : Result ℕ Refusal) (old new : BssView) (event : Event) (queued : List (List ℕ)) → OnOk r (new.waiting ≡ old.waiting ++ sent_by old.setting old.history event) → OnOk r ((network_of new).air ≡ (network_of old).air ++ sent_by old.setting old.history event) → OnErr r (new ≡ old) → IsSuffix (queued ++ old.waiting) (network_of old).air → IsSuffix (queued ++ new.waiting) (network_of new).air
took-last (Ok number) old new event queued waiting air same h =
    let sent : List (List ℕ) = sent_by old.setting old.history event in
    let more = suffix_more (queued ++ old.waiting) (network_of old).air sent h in
    let waits : (queued ++ old.waiting) ++ sent ≡ queued ++ new.waiting = append_assoc queued old.waiting sent ∙ ap (λ (fs : List (List ℕ)). queued ++ fs) (sym waiting) in
    subst (λ fs. IsSuffix (queued ++ new.waiting) fs) (sym air)
    (subst (λ fs. IsSuffix fs ((network_of old).air ++ sent)) waits more)
took-last (Err refusal) old new event queued waiting air same h =
    subst (λ (s : BssView). IsSuffix (queued ++ s.waiting) (network_of s).air) (sym same) h

-- ---- a frame is handed

pub handed-last : FrameLaws → (old new : BssView) (place : ℕ) (items : List AirItem) (octets : List ℕ) → old.waiting ≡ octets ∷ new.waiting → new.setting ≡ old.setting → new.history ≡ old.history → IsSuffix (items_of place items ++ old.waiting) (network_of old).air → IsSuffix (items_of place (items ++ (record { place = place; octets = octets }) ∷ []) ++ new.waiting) (network_of new).air
handed-last laws old new place items octets front setting history h =
    let queued : List (List ℕ) = items_of place items in
    let frames : queued ++ old.waiting ≡ items_of place (items ++ (record { place = place; octets = octets }) ∷ []) ++ new.waiting = ap (λ (fs : List (List ℕ)). queued ++ fs) front ∙ sym (append_assoc queued (octets ∷ []) new.waiting) ∙ ap (λ (fs : List (List ℕ)). fs ++ new.waiting) (sym (laws.same place items octets)) in
    let air : (network_of old).air ≡ (network_of new).air = ap (λ (s : Setting). (alone s old.history).air) (sym setting) ∙ ap (λ (es : List Event). (alone new.setting es).air) (sym history) in
    subst (λ fs. IsSuffix (items_of place (items ++ (record { place = place; octets = octets }) ∷ []) ++ new.waiting) fs) air
    (subst (λ fs. IsSuffix fs (network_of old).air) frames h)

-- ---- a frame leaves

pub sound-left : FrameLaws → (r : RadioView) (o : Option AirItem) (rest : List AirItem) → r.queue ≡ option_to_list o ++ rest → IsSoundRadio r → IsSoundRadio (record r { queue = rest })
sound-left laws r None rest is h = subst (λ (q : List AirItem). IsSoundRadio (record r { queue = q })) is h
sound-left laws r (Some item) rest is h = record {
  accepted = h.accepted;
  whole = h.whole;
  bounded = omega (arith, h.bounded, ap length is);
  placed = All-rest (λ (i : AirItem). i.place < length r.config.networks) item rest r.queue is h.placed;
  last = λ place within.
      let frames : items_of place r.queue ++ (view_at r place).waiting ≡ items_of place (item ∷ []) ++ (items_of place rest ++ (view_at r place).waiting) = ap (λ (q : List AirItem). items_of place q ++ (view_at r place).waiting) is ∙ ap (λ (fs : List (List ℕ)). fs ++ (view_at r place).waiting) (laws.append place (item ∷ []) rest) ∙ append_assoc (items_of place (item ∷ [])) (items_of place rest) (view_at r place).waiting in
      suffix_rest (items_of place (item ∷ [])) _ _ (subst (λ fs. IsSuffix fs (alone (setting_at r.config place) (view_at r place).history).air) frames (h.last place within));
}
