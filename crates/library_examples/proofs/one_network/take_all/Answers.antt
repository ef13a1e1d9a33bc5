use Rattle.std.proofs.Common.{◌≡◌, ◌++◌, [], ◌∷◌, ℕ, List, refl, sym, ap, ◌∙◌, arith, append-nil, append_assoc}
use Rattle.std.specs.Vec.Iter.{into_iter_items}
use Rattle.network.specs.BssView.{BssView, network_of, section_with}
use Rattle.network.specs.Network.{Network}
use Rattle.events.specs.declared.event.Event.{Event}
use Rattle.ap_config.specs.declared.setting.Setting.{Setting}
use Rattle.library_examples.specs.Settings.{setting}
use Rattle.library_examples.proofs.NetworkSection.{section_by, no_items}
use Rattle.library_examples.proofs.one_network.take_all.Goals as goal

pub loop-event-init : goal.loop-event-init
loop-event-init c =
    let given : Setting = setting c.args.channel c.args.interval c.args.config in
    let history = ap (λ (b : BssView). b.history) c.in_ok-network.ensures in
    let air = ap (λ (b : BssView). (network_of b).air) c.in_ok-network.ensures in
    record {
      history =
          ap (λ (es : List Event). es ++ into_iter_items c.into_iter-event-iterator.result) history
          ∙ c.into_iter-event-iterator.ensures.into_iter_gives.0;
      setting = refl;
      waiting = ap (λ (b : BssView). b.waiting) c.in_ok-network.ensures;
      sent = c.new-sent.ensures.items ∙ sym (air ∙ ap (λ (n : Network). n.air) (c.one_step.ensures.first given));
    }

pub loop-event-preserved : goal.loop-event-preserved
loop-event-preserved c =
    let rest : List Event = into_iter_items c.next.new.self in
    let before : List Event = c.loop-event.network.history in
    record {
      history =
          ap (λ (es : List Event). es ++ rest) c.in_ok-take_one.ensures.history
          ∙ append_assoc before (c.in-Some.event ∷ []) rest
          ∙ ap (λ (es : List Event). before ++ es) (sym c.in-Some.ensures.steps.0)
          ∙ c.loop-event.invariant.history;
      setting = c.take_one.ensures.setting ∙ c.loop-event.invariant.setting;
      waiting = c.in_ok-take_one.ensures.waiting;
      sent = c.in_ok-take_one.ensures.sent;
    }

pub returns : goal.returns
returns c =
    let b : BssView = c.loop-event.network in
    let given : Setting = setting c.args.channel c.args.interval c.args.config in
    let left : List Event = into_iter_items c.loop-event.event-iterator in
    let ended : left ≡ [] = no_items left (omega (arith, c.loop-event.event-iterator.rest.ok, c.in-None.ensures.steps.0)) in
    let history : b.history ≡ c.args.events.items =
    sym (append-nil b.history) ∙ ap (λ (es : List Event). b.history ++ es) (sym ended) ∙ c.loop-event.invariant.history in
    let same : b.setting ≡ given =
    c.loop-event.invariant.setting ∙ ap (λ (n : BssView). n.setting) c.in_ok-network.ensures in
    c.in_ok-into_section.ensures
    ∙ ap (λ (air : List (List ℕ)). section_with air b) c.from_vec.ensures
    ∙ section_by b given c.args.events.items c.loop-event.sent.items same history c.loop-event.invariant.sent
