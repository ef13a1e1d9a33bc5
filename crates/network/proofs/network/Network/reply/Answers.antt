use Rattle.std.proofs.Common.{◌≡◌, ◌∙◌, ℕ, List, Option, None, Result, Ok, Err, OnOk, sym, ap, subst}
use Rattle.encapsulation.specs.Ethernet.{ethernet_of}
use Rattle.association.specs.Request.{request_of}
use Rattle.network.specs.Network.{step}
use Rattle.network.specs.Replies.{Outcome, Replied, outcome, outcome_by, after_outcome}
use Rattle.network.specs.declared.reply.Reply.{Reply}
use Rattle.network.specs.NetworkView.{NetworkState, IsNetwork, MayFollow}
use Rattle.network.specs.ReceivedEvents.{event_received}
use Rattle.events.specs.declared.event.Event.TheVariants.{Air, Wire}
use Rattle.network.proofs.Clocks.{answered, wired}
use Rattle.network.proofs.Histories.{still-follows, tick-follows}
use Rattle.network.proofs.network.Network.reply.Goals as goal

-- what follows of a reply from two clauses
of_all : {A E P Q R : Type 0} (result : Result A E) → (P → Q → R) → OnOk result P → OnOk result Q → OnOk result R
of_all (Ok a) follows p q = follows p q
of_all (Err fault) follows p q = tt

-- and from four
of_four : {A E P Q R S T : Type 0} (result : Result A E) → (P → Q → R → S → T) → OnOk result P → OnOk result Q → OnOk result R → OnOk result S → OnOk result T
of_four (Ok a) follows p q r s = follows p q r s
of_four (Err fault) follows p q r s = tt

-- a reply that serves no poll is its outcome
replied : (r : Reply) → r.served ≡ None → Replied r ≡ outcome r
replied r alone = ap (λ (p : Option (List ℕ)). outcome_by p r) (sym alone)

pub returns-in-Air-clause-follows : goal.returns-in-Air-clause-follows
returns-in-Air-clause-follows c =
    let n : NetworkState = c.args.self.now in
    let kept : IsNetwork c.self.inside.roster n = subst (IsNetwork c.self.inside.roster) c.self.view_is c.self.invariant in
    let asked = request_of n.setting.network.bssid c.in-Air.frame in
    of_all c.answer.result
    (λ fits is.
    (still-follows c.stays_sound.ensures n (Air c.in-Air.frame) (outcome c.answer.new.reply) kept.accepted kept.sound fits is (answered n.setting asked n.network) kept.clock).0)
    c.answer.ensures.fitting c.answer.ensures.answer

pub returns-in-Air-clause-step : goal.returns-in-Air-clause-step
returns-in-Air-clause-step c =
    let n : NetworkState = c.args.self.now in
    let kept : IsNetwork c.self.inside.roster n = subst (IsNetwork c.self.inside.roster) c.self.view_is c.self.invariant in
    let asked = request_of n.setting.network.bssid c.in-Air.frame in
    of_all c.answer.result
    (λ fits is.
    ap (λ e. step n.setting n.network (event_received e)) c.in-Air.is
    ∙ (still-follows c.stays_sound.ensures n (Air c.in-Air.frame) (outcome c.answer.new.reply) kept.accepted kept.sound fits is (answered n.setting asked n.network) kept.clock).1)
    c.answer.ensures.fitting c.answer.ensures.answer

pub returns-in-Wire-clause-follows : goal.returns-in-Wire-clause-follows
returns-in-Wire-clause-follows c =
    let n : NetworkState = c.args.self.now in
    let kept : IsNetwork c.self.inside.roster n = subst (IsNetwork c.self.inside.roster) c.self.view_is c.self.invariant in
    let read = ethernet_of c.in-Wire.frame.now in
    let r : Reply = c.answer_wired.new.reply in
    of_all c.answer_wired.result
    (λ fits is.
    subst (MayFollow n) (replied r fits.alone)
    (still-follows c.stays_sound.ensures n (Wire c.in-Wire.frame.now) (Replied r) kept.accepted kept.sound fits is (wired n.setting read n.network) kept.clock).0)
    c.answer_wired.ensures.fitting c.answer_wired.ensures.answer

pub returns-in-Wire-clause-step : goal.returns-in-Wire-clause-step
returns-in-Wire-clause-step c =
    let n : NetworkState = c.args.self.now in
    let kept : IsNetwork c.self.inside.roster n = subst (IsNetwork c.self.inside.roster) c.self.view_is c.self.invariant in
    let read = ethernet_of c.in-Wire.frame.now in
    let r : Reply = c.answer_wired.new.reply in
    of_all c.answer_wired.result
    (λ fits is.
    ap (λ e. step n.setting n.network (event_received e)) c.in-Wire.is
    ∙ (still-follows c.stays_sound.ensures n (Wire c.in-Wire.frame.now) (Replied r) kept.accepted kept.sound fits is (wired n.setting read n.network) kept.clock).1
    ∙ ap (λ (o : Outcome). after_outcome n.setting o n.network) (replied r fits.alone))
    c.answer_wired.ensures.fitting c.answer_wired.ensures.answer

pub returns-in-Tick-clause-follows : goal.returns-in-Tick-clause-follows
returns-in-Tick-clause-follows c =
    let n : NetworkState = c.args.self.now in
    let kept : IsNetwork c.self.inside.roster n = subst (IsNetwork c.self.inside.roster) c.self.view_is c.self.invariant in
    let r : Reply = c.tick.new.reply in
    of_four c.tick.result
    (λ still fits is begins.
    subst (MayFollow n) (replied r fits.alone)
    (tick-follows c.stays_sound.ensures n r kept.accepted kept.sound still fits is begins (c.requires.ticks (ap event_received c.in-Tick.is))).0)
    c.tick.ensures.still c.tick.ensures.fitting c.tick.ensures.answer c.tick.ensures.begins

pub returns-in-Tick-clause-step : goal.returns-in-Tick-clause-step
returns-in-Tick-clause-step c =
    let n : NetworkState = c.args.self.now in
    let kept : IsNetwork c.self.inside.roster n = subst (IsNetwork c.self.inside.roster) c.self.view_is c.self.invariant in
    let r : Reply = c.tick.new.reply in
    of_four c.tick.result
    (λ still fits is begins.
    ap (λ e. step n.setting n.network (event_received e)) c.in-Tick.is
    ∙ (tick-follows c.stays_sound.ensures n r kept.accepted kept.sound still fits is begins (c.requires.ticks (ap event_received c.in-Tick.is))).1
    ∙ ap (λ (o : Outcome). after_outcome n.setting o n.network) (replied r fits.alone))
    c.tick.ensures.still c.tick.ensures.fitting c.tick.ensures.answer c.tick.ensures.begins
