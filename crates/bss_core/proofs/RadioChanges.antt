-- What contracts see of a radio, where one of the networks that it runs changed.
use Rattle.std.proofs.Common.{◌≡◌, ℕ, ◌<◌, List, [], ◌∷◌, ◌++◌, length, map, get_or, set, Result, Ok, Err, OnOk, sym, ap, ◌∙◌}
use Rattle.std.proofs.lemmas.List.{get_or-map}
use Rattle.ap_config.specs.declared.setting.Setting.{Setting}
use Rattle.ap_config.specs.Places.{setting_at}
use Rattle.bss_core.specs.RadioView.{RadioView, NetworkView, unused, view_at, settings_of, shown, config_of, radio_of, took, moved}
use Rattle.network.specs.BssView.{BssView, sent_by}
use Rattle.network.specs.declared.bss.Refusal.{Refusal}
use Rattle.events.specs.declared.event.Event.{Event}
use Rattle.events.specs.declared.air_item.AirItem.{AirItem}
use Rattle.bss_core.proofs.RadioKeeps.{setting-at, radio-changed}

-- the network at a place, as the radio shows it
pub view-is : (channel interval capacity : ℕ) (states : List BssView) (items : List AirItem) (place : ℕ) (s : BssView) → place < length states → s ≡ get_or states place s → view_at (radio_of channel interval capacity states items) place ≡ shown s
view-is channel interval capacity states items place s within is =
    get_or-map shown states place s unused within ∙ ap shown (sym is)

pub setting-is : (channel interval capacity : ℕ) (states : List BssView) (place : ℕ) (s : BssView) → map (λ (t : BssView). t.setting) states ≡ settings_of (config_of channel interval capacity states) → place < length states → s ≡ get_or states place s → s.setting ≡ setting_at (config_of channel interval capacity states) place
setting-is channel interval capacity states place s same within is =
    ap (λ (t : BssView). t.setting) is ∙ setting-at channel interval capacity states place s same within

-- a network took an event
pub took-shown : (channel interval capacity : ℕ) (states : List BssView) (items : List AirItem) (place : ℕ) (old new : BssView) (event : Event) (r : Result ℕ Refusal) → map (λ (t : BssView). t.setting) states ≡ settings_of (config_of channel interval capacity states) → place < length states → old ≡ get_or states place old → new.setting ≡ old.setting → OnOk r (new.history ≡ old.history ++ event ∷ []) → OnOk r (new.waiting ≡ old.waiting ++ sent_by old.setting old.history event) → OnOk r (radio_of channel interval capacity (set states place new) items ≡ took place event (radio_of channel interval capacity states items))
took-shown channel interval capacity states items place old new event (Err refusal) same within is setting history waiting = tt
took-shown channel interval capacity states items place old new event (Ok number) same within is setting history waiting =
    let radio : RadioView = radio_of channel interval capacity states items in
    let by : NetworkView → Setting → NetworkView = λ (v : NetworkView) (s : Setting). record { history = v.history ++ event ∷ []; waiting = v.waiting ++ sent_by s v.history event } in
    let shows : shown new ≡ by (shown old) old.setting = ap (λ (es : List Event). record (shown new) { history = es }) history ∙ ap (λ (fs : List (List ℕ)). record { history = old.history ++ event ∷ []; waiting = fs }) waiting in
    let as_seen : by (shown old) old.setting ≡ by (view_at radio place) (setting_at radio.config place) = ap (λ (v : NetworkView). by v old.setting) (sym (view-is channel interval capacity states items place old within is)) ∙ ap (by (view_at radio place)) (setting-is channel interval capacity states place old same within is) in
    radio-changed channel interval capacity states items items place old new within (setting ∙ ap (λ (t : BssView). t.setting) is)
    ∙ ap (λ (v : NetworkView). record radio { networks = set radio.networks place v }) (shows ∙ as_seen)

-- a network's first waiting frame was handed
pub moved-shown : (channel interval capacity : ℕ) (states : List BssView) (items more : List AirItem) (place : ℕ) (octets : List ℕ) (old new : BssView) → place < length states → old ≡ get_or states place old → new.setting ≡ old.setting → new.history ≡ old.history → old.waiting ≡ octets ∷ new.waiting → more ≡ items ++ (record { place = place; octets = octets }) ∷ [] → radio_of channel interval capacity (set states place new) more ≡ moved place (radio_of channel interval capacity states items) (view_at (radio_of channel interval capacity states items) place).waiting
moved-shown channel interval capacity states items more place octets old new within is setting history front all =
    let radio : RadioView = radio_of channel interval capacity states items in
    let view : view_at radio place ≡ shown old = view-is channel interval capacity states items place old within is in
    let kept : new.history ≡ (view_at radio place).history = history ∙ sym (ap (λ (v : NetworkView). v.history) view) in
    let waits : (view_at radio place).waiting ≡ octets ∷ new.waiting = ap (λ (v : NetworkView). v.waiting) view ∙ front in
    radio-changed channel interval capacity states items more place old new within (setting ∙ ap (λ (t : BssView). t.setting) is)
    ∙ ap (λ (es : List Event). record radio { networks = set radio.networks place (record { history = es; waiting = new.waiting }); queue = more }) kept
    ∙ ap (λ (q : List AirItem). record radio { networks = set radio.networks place (record (view_at radio place) { waiting = new.waiting }); queue = q }) all
    ∙ sym (ap (moved place radio) waits)
