use Rattle.std.proofs.Common.{◌≡◌, ℕ, ◌<◌, ◌++◌, ◌∷◌, [], List, Option, length, option_to_list, ◌≤◌, ◌-◌, ◌+◌, sym, ap, subst, ◌∙◌, arith}
use Rattle.ap_config.specs.declared.setting.Setting.{Setting}
use Rattle.network.specs.Network.{alone, step}
use Rattle.network.specs.BssView.{BssView, IsAfterHistory, network_of, sent_by, wired_by}
use Rattle.network.specs.NetworkView.{NetworkState}
use Rattle.ap_config.specs.declared.config.NetConfig.{NetConfig}
use Rattle.events.specs.declared.event.Event.{Event}
use Rattle.std.specs.VecDeque.{deque_len, deque_capacity}
use Rattle.network.specs.Replies.{Outcome, outcome, reply_of}
use Rattle.network.specs.declared.reply.Reply.{Reply}
use Rattle.network.proofs.Histories.{history-sound, history-push, sent_by-outcome, wire-push}
use Rattle.network.proofs.SentFrames.{air-push}
use Rattle.network.proofs.bss.Bss.take.Goals as goal

-- the network is the one that its history made, also once it has looked up which stations may have too old units
kept : (es : List Event) (m n : NetworkState) (wired : List (List ℕ)) → n ≡ m → IsAfterHistory es m wired → IsAfterHistory es n wired
kept es m n wired same h = subst (λ (k : NetworkState). IsAfterHistory es k wired) (sym same) h

pub reply-requires : goal.reply-requires
reply-requires c =
    let n : NetworkState = c.look_up_due.new.self in
    let h = kept c.self.inside.history.items c.self.inside.network n c.self.inside.wired.items c.look_up_due.ensures c.self.invariant.0 in
    record {
      nothing = c.no_reply-reply.ensures.nothing;
      sequence = c.no_reply-reply.ensures.sequence;
      ticks = λ is. omega (arith, (history-sound c.reachable.ensures _ _ _ h).clock, h.bounded, c.checked_numbers.ensures.events n.setting.network h.sound);
    }

pub finish-requires-clause-countable : goal.finish-requires-clause-countable
finish-requires-clause-countable c =
    let n : NetworkState = c.look_up_due.new.self in
    let h = kept c.self.inside.history.items c.self.inside.network n c.self.inside.wired.items c.look_up_due.ensures c.self.invariant.0 in
    omega (arith, h.events, h.bounded, c.checked_numbers.ensures.events n.setting.network h.sound)

pub invariant_of-self-2 : goal.invariant_of-self-2
invariant_of-self-2 c =
    let n : NetworkState = c.look_up_due.new.self in
    let known = kept c.self.inside.history.items c.self.inside.network n c.self.inside.wired.items c.look_up_due.ensures c.self.invariant.0 in
    let es : List Event = c.self.inside.history.items in
    let o : Outcome = outcome c.reply.new.reply in
    let r : Reply = reply_of n.setting o n.network in
    let network = c.in_ok-finish.ensures.after in
    let len : c.len.result ≡ length es = c.len.ensures ∙ c.self.inside.history.ok.0 in
    let most : c.config.result.now.max_events ≡ n.setting.network.max_events = ap (λ (k : NetConfig). k.max_events) c.config.ensures ∙ sym (ap (λ (b : BssView). b.setting.network.max_events) c.self.view_is) ∙ sym (ap (λ (k : NetworkState). k.setting.network.max_events) c.look_up_due.ensures) in
    let room : length es < n.setting.network.max_events = omega (arith, len, most, c.if-len-config.false) in
    let items : c.push_reserved.new.self.items ≡ es ++ c.args.event ∷ [] = c.push_reserved.ensures.items ∙ ap (λ (h : List Event). h ++ c.args.event ∷ []) c.reserve.ensures.items in
    let wire : c.put_last.new.wired.items ≡ c.self.inside.wired.items ++ option_to_list r.wired =
    c.put_last.ensures ∙ ap (λ (w : List (List ℕ)). w ++ option_to_list c.finish.new.reply.wired) c.in_ok-reserve-2.ensures.items
    ∙ ap (λ (f : Option (List ℕ)). c.self.inside.wired.items ++ option_to_list f) c.in_ok-finish.ensures.wire in
    (rw (items, network, wire) (history-push es n c.self.inside.wired.items c.args.event o known room (ap (step n.setting n.network) (sym (c.for_one.ensures ∙ c.lend.ensures)) ∙ c.in_ok-reply.ensures.step)), λ h. absurd cc)

pub returns-clause-waiting : goal.returns-clause-waiting
returns-clause-waiting c =
    let s = c.args.self.now in
    let n : NetworkState = c.look_up_due.new.self in
    let known = kept c.self.inside.history.items c.self.inside.network n c.self.inside.wired.items c.look_up_due.ensures c.self.invariant.0 in
    let es : List Event = c.self.inside.history.items in
    let o : Outcome = outcome c.reply.new.reply in
    let r : Reply = reply_of n.setting o n.network in
    let by : sent_by n.setting es c.args.event ≡ r.frames = sent_by-outcome es n c.self.inside.wired.items c.args.event o known (ap (step n.setting n.network) (sym (c.for_one.ensures ∙ c.lend.ensures)) ∙ c.in_ok-reply.ensures.step) in
    let before : c.self.inside.waiting.items ≡ s.waiting = ap (λ (st : BssView). st.waiting) c.self.view_is in
    c.append_to.ensures ∙ ap (λ (w : List (List ℕ)). w ++ c.finish.new.reply.frames) (c.reserve_in.ensures.items ∙ before)
    ∙ ap (λ (f : List (List ℕ)). s.waiting ++ f) c.in_ok-finish.ensures.air ∙ ap (λ (f : List (List ℕ)). s.waiting ++ f) (sym by)
    ∙ ap (λ (k : NetworkState). s.waiting ++ sent_by k.setting es c.args.event) c.look_up_due.ensures
    ∙ ap (λ (st : BssView). s.waiting ++ sent_by st.setting st.history c.args.event) c.self.view_is

pub returns-clause-air : goal.returns-clause-air
returns-clause-air c =
    let s : Setting = c.self.inside.network.setting in
    let es : List Event = c.self.inside.history.items in
    let items : c.push_reserved.new.self.items ≡ es ++ c.args.event ∷ [] = c.push_reserved.ensures.items ∙ ap (λ (h : List Event). h ++ c.args.event ∷ []) c.reserve.ensures.items in
    let same : c.finish.new.self.setting ≡ s = ap (λ (n : NetworkState). n.setting) c.in_ok-finish.ensures.after ∙ ap (λ (n : NetworkState). n.setting) c.look_up_due.ensures in
    ap (λ (t : Setting). (alone t c.push_reserved.new.self.items).air) same ∙ ap (λ (h : List Event). (alone s h).air) items ∙ air-push s es c.args.event
    ∙ ap (λ (st : BssView). (network_of st).air ++ sent_by st.setting st.history c.args.event) c.self.view_is

pub returns-clause-wire : goal.returns-clause-wire
returns-clause-wire c =
    let n : NetworkState = c.look_up_due.new.self in
    let known = kept c.self.inside.history.items c.self.inside.network n c.self.inside.wired.items c.look_up_due.ensures c.self.invariant.0 in
    let s : Setting = n.setting in
    let es : List Event = c.self.inside.history.items in
    let items : c.push_reserved.new.self.items ≡ es ++ c.args.event ∷ [] = c.push_reserved.ensures.items ∙ ap (λ (h : List Event). h ++ c.args.event ∷ []) c.reserve.ensures.items in
    let same : c.finish.new.self.setting ≡ s = ap (λ (k : NetworkState). k.setting) c.in_ok-finish.ensures.after in
    ap (λ (t : Setting). (alone t c.push_reserved.new.self.items).wire) same ∙ ap (λ (h : List Event). (alone s h).wire) items
    ∙ wire-push es n c.self.inside.wired.items c.args.event (outcome c.reply.new.reply) known (ap (step n.setting n.network) (sym (c.for_one.ensures ∙ c.lend.ensures)) ∙ c.in_ok-reply.ensures.step)
    ∙ ap (λ (k : NetworkState). (alone k.setting es).wire ++ wired_by k.setting es c.args.event) c.look_up_due.ensures
    ∙ ap (λ (st : BssView). (network_of st).wire ++ wired_by st.setting st.history c.args.event) c.self.view_is

pub append_to-requires : goal.append_to-requires
append_to-requires c =
    let len = deque_len c.reserve_in.new.waiting in
    let capacity = deque_capacity c.reserve_in.new.waiting in
    let one : len + 1 ≤ capacity = c.in_ok-reserve_in.ensures.one in
    let all : len + length c.reply.new.reply.frames ≤ capacity = c.in_ok-reserve_in.ensures.room in
    let few : length c.finish.new.reply.frames ≤ capacity - len = c.in_ok-finish.ensures.few (capacity - len) (omega (arith, one)) (omega (arith, all, one)) in
    omega (arith, few, one)
