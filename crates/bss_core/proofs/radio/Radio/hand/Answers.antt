use Rattle.std.proofs.Common.{◌≡◌, ◌≤◌, ◌<◌, ◌++◌, ◌∷◌, [], List, ℕ, length, get_or, set, arith, sym, ap, subst, ◌∙◌}
use Rattle.std.specs.Prelude.{All}
use Rattle.std.proofs.lemmas.List.{length-map, length-append}
use Rattle.std.proofs.lemmas.List.Elements.{All-push}
use Rattle.events.specs.Lists.{IsSuffix}
use Rattle.events.specs.Items.{items_of}
use Rattle.bss_core.specs.RadioView.{RadioView, view_at, radio_of, IsSoundRadio, moved}
use Rattle.network.specs.BssView.{BssView, network_of}
use Rattle.events.specs.declared.air_item.AirItem.{AirItem}
use Rattle.bss_core.proofs.RadioChanges.{moved-shown}
use Rattle.bss_core.proofs.RadioKeeps.{radio-changed, sound-network, settings-changed, last-at, handed-last}
use Rattle.bss_core.proofs.radio.Radio.hand.Goals as goal

pub invariant_of-self-in-Some : goal.invariant_of-self-in-Some
invariant_of-self-in-Some c =
    let r = c.self.inside in
    let keeps = c.self.invariant in
    let place : ℕ = c.args.place in
    let states : List BssView = r.networks.items in
    let items : List AirItem = r.queue.items in
    let octets : List ℕ = c.in-Some.octets in
    let item : AirItem = record { place = place; octets = octets } in
    let old : BssView = c.index_mut-network.result.now in
    let new : BssView = c.take_front.new.self in
    let within : place < length states = omega (arith, length-map states (λ (s : BssView). s.setting.network), ap (λ (v : RadioView). length v.config.networks) c.self.view_is, c.requires) in
    let setting : new.setting ≡ (get_or states place old).setting = c.in-Some.ensures.setting ∙ ap (λ (s : BssView). s.setting) c.index_mut-network.ensures.value in
    let before = subst (λ (s : BssView). IsSuffix (items_of place items ++ s.waiting) (network_of s).air) (sym c.index_mut-network.ensures.value) (last-at r.channel r.interval r.capacity states items place old keeps.0 keeps.1 within) in
    let last = handed-last (record { append = c.own_frames.ensures.append; same = c.own_frames.ensures.same; other = c.own_frames.ensures.other; sent = c.sent_frames.ensures }) old new place items octets c.in-Some.ensures.first c.in-Some.ensures.setting c.in-Some.ensures.history before in
    let placed : All (λ i. i.place < length states) (items ++ item ∷ []) = All-push (λ (i : AirItem). i.place < length states) items item (subst (λ n. All (λ (i : AirItem). i.place < n) items) (length-map states (λ (s : BssView). s.setting.network)) keeps.0.placed) within in
    let room : length (items ++ item ∷ []) ≤ r.capacity = omega (arith, length-append items (item ∷ []), c.if-len-from.false, c.from.ensures, c.len.ensures, r.queue.ok.0) in
    let sound = sound-network r.channel r.interval r.capacity states items (items ++ item ∷ []) place old new keeps.0 keeps.1 within setting room placed (λ q ne. c.own_frames.ensures.other q place items octets ne) last in
    (subst (λ (q : List AirItem). IsSoundRadio (radio_of r.channel r.interval r.capacity (set states place new) q)) (sym c.push_back_reserved.ensures.items) sound, settings-changed r.channel r.interval r.capacity states place old new setting keeps.1, omega (arith, keeps.2, c.push_back_reserved.ensures.capacity))

pub returns-in-Some-clause-after : goal.returns-in-Some-clause-after
returns-in-Some-clause-after c =
    let r = c.self.inside in
    let place : ℕ = c.args.place in
    let states : List BssView = r.networks.items in
    let old : BssView = c.index_mut-network.result.now in
    let new : BssView = c.take_front.new.self in
    let within : place < length states = omega (arith, length-map states (λ (s : BssView). s.setting.network), ap (λ (v : RadioView). length v.config.networks) c.self.view_is, c.requires) in
    let now : RadioView = radio_of r.channel r.interval r.capacity (set states place new) c.push_back_reserved.new.self.items in
    subst (λ (v : RadioView). now ≡ moved place v (view_at v place).waiting) c.self.view_is
    (moved-shown r.channel r.interval r.capacity states r.queue.items c.push_back_reserved.new.self.items place c.in-Some.octets old new within c.index_mut-network.ensures.value c.in-Some.ensures.setting c.in-Some.ensures.history c.in-Some.ensures.first c.push_back_reserved.ensures.items)

pub returns-in-Some-clause-config : goal.returns-in-Some-clause-config
returns-in-Some-clause-config c =
    let r = c.self.inside in
    let place : ℕ = c.args.place in
    let states : List BssView = r.networks.items in
    let old : BssView = c.index_mut-network.result.now in
    let new : BssView = c.take_front.new.self in
    let within : place < length states = omega (arith, length-map states (λ (s : BssView). s.setting.network), ap (λ (v : RadioView). length v.config.networks) c.self.view_is, c.requires) in
    let setting : new.setting ≡ (get_or states place old).setting = c.in-Some.ensures.setting ∙ ap (λ (s : BssView). s.setting) c.index_mut-network.ensures.value in
    ap (λ (v : RadioView). v.config) (radio-changed r.channel r.interval r.capacity states r.queue.items c.push_back_reserved.new.self.items place old new within setting)
    ∙ ap (λ (v : RadioView). v.config) c.self.view_is
