use Rattle.std.specs.Prelude.{All}
use Rattle.std.proofs.Common.{◌≡◌, ◌<◌, ◌++◌, List, ℕ, length, get_or, set, OnOk, arith, refl, sym, ap, subst, ◌∙◌}
use Rattle.std.proofs.lemmas.List.{length-map}
use Rattle.events.specs.Lists.{IsSuffix}
use Rattle.events.specs.Items.{items_of}
use Rattle.bss_core.specs.RadioView.{RadioView, radio_of, took}
use Rattle.network.specs.BssView.{BssView, network_of}
use Rattle.bss_core.proofs.RadioChanges.{took-shown}
use Rattle.bss_core.proofs.RadioKeeps.{radio-changed, sound-network, settings-changed, last-at, took-last}
use Rattle.bss_core.proofs.radio.Radio.take.Goals as goal

pub invariant_of-self : goal.invariant_of-self
invariant_of-self c =
    let r = c.self.inside in
    let keeps = c.self.invariant in
    let place : ℕ = c.args.place in
    let states : List BssView = r.networks.items in
    let old : BssView = c.index_mut.result.now in
    let new : BssView = c.take.new.self in
    let queued : List (List ℕ) = items_of place r.queue.items in
    let within : place < length states = omega (arith, length-map states (λ (s : BssView). s.setting.network), ap (λ (v : RadioView). length v.config.networks) c.self.view_is, c.requires) in
    let setting : new.setting ≡ (get_or states place old).setting = c.take.ensures.setting ∙ ap (λ (s : BssView). s.setting) c.index_mut.ensures.value in
    let before = subst (λ (s : BssView). IsSuffix (queued ++ s.waiting) (network_of s).air) (sym c.index_mut.ensures.value) (last-at r.channel r.interval r.capacity states r.queue.items place old keeps.0 keeps.1 within) in
    let last = took-last c.take.result old new c.args.event queued c.take.ensures.waiting c.take.ensures.air c.take.ensures.err before in
    (sound-network r.channel r.interval r.capacity states r.queue.items r.queue.items place old new keeps.0 keeps.1 within setting keeps.0.bounded (subst (λ n. All (λ item. item.place < n) r.queue.items) (length-map states (λ (s : BssView). s.setting.network)) keeps.0.placed) (λ q ne. refl) last, settings-changed r.channel r.interval r.capacity states place old new setting keeps.1, keeps.2)

pub returns-clause-after : goal.returns-clause-after
returns-clause-after c =
    let r = c.self.inside in
    let place : ℕ = c.args.place in
    let states : List BssView = r.networks.items in
    let old : BssView = c.index_mut.result.now in
    let new : BssView = c.take.new.self in
    let within : place < length states = omega (arith, length-map states (λ (s : BssView). s.setting.network), ap (λ (v : RadioView). length v.config.networks) c.self.view_is, c.requires) in
    let now : RadioView = radio_of r.channel r.interval r.capacity (set states place new) r.queue.items in
    subst (λ (v : RadioView). OnOk c.take.result (now ≡ took place c.args.event v)) c.self.view_is
    (took-shown r.channel r.interval r.capacity states r.queue.items place old new c.args.event c.take.result c.self.invariant.1 within c.index_mut.ensures.value c.take.ensures.setting c.take.ensures.history c.take.ensures.waiting)

pub returns-clause-config : goal.returns-clause-config
returns-clause-config c =
    let r = c.self.inside in
    let place : ℕ = c.args.place in
    let states : List BssView = r.networks.items in
    let old : BssView = c.index_mut.result.now in
    let new : BssView = c.take.new.self in
    let within : place < length states = omega (arith, length-map states (λ (s : BssView). s.setting.network), ap (λ (v : RadioView). length v.config.networks) c.self.view_is, c.requires) in
    let setting : new.setting ≡ (get_or states place old).setting = c.take.ensures.setting ∙ ap (λ (s : BssView). s.setting) c.index_mut.ensures.value in
    ap (λ (v : RadioView). v.config) (radio-changed r.channel r.interval r.capacity states r.queue.items r.queue.items place old new within setting)
    ∙ ap (λ (v : RadioView). v.config) c.self.view_is
