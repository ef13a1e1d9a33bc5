use Rattle.std.proofs.Common.{◌≡◌, ◌++◌, ◌∷◌, [], List, arith, refl, sym, ap, subst, ◌∙◌}
use Rattle.bss_core.specs.Radio.{after_steps}
use Rattle.bss_core.specs.RadioView.{RadioView}
use Rattle.bss_core.specs.Running.{IsAt}
use Rattle.events.specs.declared.air_item.AirItem.{AirItem}
use Rattle.bss_core.specs.declared.radio.step.Step.{Step}
use Rattle.bss_core.specs.declared.radio.step.Step.TheVariants.{Hand, Leave}
use Rattle.bss_core.proofs.RunSteps.{is_at-handed, is_at-hand_nowhere, is_at-left, is_at-none_left}
use Rattle.bss_core.proofs.radio.running.make_step.Goals as goal

pub returns-then-place-networks-clause-made : goal.returns-then-place-networks-clause-made
returns-then-place-networks-clause-made c before h =
    let r : RadioView = c.args.radio.now in
    let at = is_at-handed r before c.args.left.now.items c.in-Hand.place c.hand.result c.networks.ensures.sound (omega (arith, c.networks.ensures.count)) c.hand.ensures.nothing c.hand.ensures.full h in
    subst (λ (x : Step). IsAt (after_steps r.config (before ++ x ∷ [])) c.hand.new.self c.args.left.now.items) (sym c.in-Hand.is)
    (subst (λ (v : RadioView). IsAt (after_steps r.config (before ++ Hand c.in-Hand.place ∷ [])) v c.args.left.now.items) (sym c.hand.ensures.after) at)

pub returns-else-place-networks-clause-made : goal.returns-else-place-networks-clause-made
returns-else-place-networks-clause-made c before h =
    let r : RadioView = c.args.radio.now in
    subst (λ (x : Step). IsAt (after_steps r.config (before ++ x ∷ [])) r c.args.left.now.items) (sym c.in-Hand.is)
    (is_at-hand_nowhere r before c.args.left.now.items c.in-Hand.place (omega (arith, c.networks.ensures.count)) h)

pub returns-in_ok-push-in-Leave-clause-made : goal.returns-in_ok-push-in-Leave-clause-made
returns-in_ok-push-in-Leave-clause-made c before h =
    let r : RadioView = c.args.radio.now in
    let at = is_at-left r before c.args.left.now.items c.in-Some.item c.leave.new.self.queue c.in-Some.ensures.first h in
    subst (λ (x : Step). IsAt (after_steps r.config (before ++ x ∷ [])) c.leave.new.self c.push.new.self.items) (sym c.in-Leave.is)
    (rw (c.in_ok-push-in-Leave.ensures.items, c.in-Some.ensures.others) at)

pub returns-in_default-clause-made : goal.returns-in_default-clause-made
returns-in_default-clause-made c before h =
    let r : RadioView = c.args.radio.now in
    let empty : r.queue ≡ [] = c.in_default.ensures.none.0 refl in
    let same : c.leave.new.self ≡ r = c.in_default.ensures.others ∙ ap (λ (q : List AirItem). record r { queue = q }) (sym c.in_default.ensures.first) in
    subst (λ (x : Step). IsAt (after_steps r.config (before ++ x ∷ [])) c.leave.new.self c.args.left.now.items) (sym c.in-Leave.is)
    (subst (λ (v : RadioView). IsAt (after_steps r.config (before ++ Leave ∷ [])) v c.args.left.now.items) (sym same) (is_at-none_left r before c.args.left.now.items empty h))
