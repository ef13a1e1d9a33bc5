-- What is kept of a network beside its history, one event at a time.
use Rattle.std.proofs.Common.{◌≡◌, ℕ, ◌+◌, ◌*◌, ◌<◌, ◌^◌, option_to_list, List, [], ◌∷◌, ◌++◌, length, None, drop, refl, sym, ap, subst, ◌∙◌, arith}
use Rattle.std.proofs.lemmas.List.{length_push}
use Rattle.std.proofs.Math.Seq.{drop-append_seam}
use Rattle.network.specs.BssView.{IsAfterHistory, sent_by, wired_by}
use Rattle.ap_config.specs.Configuration.{network_fault}
use Rattle.ap_config.specs.declared.setting.Setting.{Setting}
use Rattle.network.specs.Network.{Network, age_units, tick, step, alone}
use Rattle.network.specs.NetworkView.{NetworkState, IsStill, MayFollow, unsent, new_network, carried_out, sent_before}
use Rattle.network.specs.Replies.{Outcome, Replied, Served, reply_of, unit_taken, before_outcome, after_reply, after_outcome, after_answer, IsFitting}
use Rattle.network.specs.Sound.{IsSoundNetwork}
use Rattle.events.specs.declared.event.Event.{Event}
use Rattle.powersave.specs.Keep.{units_for}
use Rattle.powersave.specs.declared.unit.Whom.TheVariants.{One}
use Rattle.events.specs.declared.event.Event.TheVariants.{Tick}
use Rattle.network.specs.declared.reply.Reply.{Reply}
use Rattle.network.proofs.Aging.{before-none, before-tick}
use Rattle.network.proofs.AloneLaws.{StaysSound, alone-none, alone-push, frames-sound, more-sound}
use Rattle.network.proofs.SentFrames.{step-unsent}
use Rattle.network.proofs.UnitDelivery.{poll-clock}

pub history-none : (s : Setting) → network_fault s.network ≡ None → IsAfterHistory [] (new_network s) []
history-none s h = record {
  bounded = omega arith;
  sound = h;
  events = refl;
  network = ap unsent (sym (alone-none s));
  wired = ap (λ (n : Network). n.wire) (sym (alone-none s));
}

-- what holds of every network that can be reached
abbrev pub AreSoundAlone : Type 0
AreSoundAlone = (s : Setting) (es : List Event) → network_fault s.network ≡ None → IsSoundNetwork s (length es) (2 * length es) (alone s es)

pub history-sound : AreSoundAlone → (es : List Event) (n : NetworkState) (wired : List (List ℕ)) → IsAfterHistory es n wired → IsSoundNetwork n.setting (length es) (2 * length es) n.network
history-sound sound es n wired h =
    subst (IsSoundNetwork n.setting (length es) (2 * length es)) (sym h.network)
    (frames-sound n.setting (length es) (2 * length es) (alone n.setting es) [] [] (sound n.setting es h.sound))

-- ---- one more event, by the reply to it

-- what it sent before stays before what an outcome sends
pub sent-first : (s : Setting) (o : Outcome) (all : Network) → sent_before all.air all.wire (after_outcome s o (unsent all)) ≡ after_outcome s o all
sent-first s (Replied r) all = refl
sent-first s (Served from) all = refl

unsent-first : (s : Setting) (o : Outcome) (all : Network) → unsent (after_outcome s o (unsent all)) ≡ unsent (after_outcome s o all)
unsent-first s (Replied r) all = refl
unsent-first s (Served from) all = refl

-- its frames follow the earlier ones
air-after : (s : Setting) (o : Outcome) (all : Network) → (after_outcome s o all).air ≡ all.air ++ (reply_of s o (unsent all)).frames
air-after s (Replied r) all = refl
air-after s (Served from) all = refl

wire-after : (s : Setting) (o : Outcome) (all : Network) → (after_outcome s o all).wire ≡ all.wire ++ option_to_list (reply_of s o (unsent all)).wired
wire-after s (Replied r) all = refl
wire-after s (Served from) all = refl

-- the outcome in a network that sent nothing is that in the network with all that it sent
pub outcome-alone : (es : List Event) (n : NetworkState) (wired : List (List ℕ)) (e : Event) (o : Outcome) → IsAfterHistory es n wired → step n.setting n.network e ≡ after_outcome n.setting o n.network → alone n.setting (es ++ e ∷ []) ≡ after_outcome n.setting o (alone n.setting es)
outcome-alone es n wired e o h is =
    let s : Setting = n.setting in
    let all : Network = alone s es in
    alone-push s es e ∙ step-unsent s all e
    ∙ ap (sent_before all.air all.wire) (subst (λ (m : Network). step s m e ≡ after_outcome s o m) h.network is)
    ∙ sent-first s o all

pub history-push : (es : List Event) (n : NetworkState) (wired : List (List ℕ)) (e : Event) (o : Outcome) → IsAfterHistory es n wired → length es < n.setting.network.max_events → step n.setting n.network e ≡ after_outcome n.setting o n.network
    → IsAfterHistory (es ++ e ∷ []) (carried_out o n) (wired ++ option_to_list (reply_of n.setting o n.network).wired)
history-push es n wired e o h room is =
    let s : Setting = n.setting in
    let old : Network = alone s es in
    let all = outcome-alone es n wired e o h is in
    record {
      bounded = omega (arith, room, length_push es e);
      sound = h.sound;
      events = omega (arith, h.events, length_push es e);
      network = ap (λ (m : Network). unsent (after_outcome s o m)) h.network ∙ unsent-first s o old ∙ ap unsent (sym all);
      wired = ap (λ (fs : List (List ℕ)). fs ++ option_to_list (reply_of s o n.network).wired) h.wired
          ∙ ap (λ (m : Network). old.wire ++ option_to_list (reply_of s o m).wired) h.network
          ∙ sym (wire-after s o old) ∙ ap (λ (m : Network). m.wire) (sym all);
    }

-- the frames that the event adds are those of the outcome
pub sent_by-outcome : (es : List Event) (n : NetworkState) (wired : List (List ℕ)) (e : Event) (o : Outcome) → IsAfterHistory es n wired → step n.setting n.network e ≡ after_outcome n.setting o n.network → sent_by n.setting es e ≡ (reply_of n.setting o n.network).frames
sent_by-outcome es n wired e o h is =
    let s : Setting = n.setting in
    let old : Network = alone s es in
    ap (λ (m : Network). drop (length old.air) m.air) (outcome-alone es n wired e o h is)
    ∙ ap (drop (length old.air)) (air-after s o old)
    ∙ drop-append_seam old.air (reply_of s o (unsent old)).frames
    ∙ ap (λ (m : Network). (reply_of s o m).frames) (sym h.network)

pub wire-push : (es : List Event) (n : NetworkState) (wired : List (List ℕ)) (e : Event) (o : Outcome) → IsAfterHistory es n wired → step n.setting n.network e ≡ after_outcome n.setting o n.network → (alone n.setting (es ++ e ∷ [])).wire ≡ (alone n.setting es).wire ++ wired_by n.setting es e
wire-push es n wired e o h is =
    let s : Setting = n.setting in
    let old : Network = alone s es in
    let more : List (List ℕ) = option_to_list (reply_of s o (unsent old)).wired in
    let now : (alone s (es ++ e ∷ [])).wire ≡ old.wire ++ more = ap (λ (m : Network). m.wire) (outcome-alone es n wired e o h is) ∙ wire-after s o old in
    let sent : wired_by s es e ≡ more = ap (drop (length old.wire)) now ∙ drop-append_seam old.wire more in
    now ∙ ap (λ (fs : List (List ℕ)). old.wire ++ fs) (sym sent)

-- ---- an outcome that can be carried out

pub may-follow : StaysSound → (n : NetworkState) (e : Event) (o : Outcome) → network_fault n.setting.network ≡ None → IsSoundNetwork n.setting n.events (2 * n.events) n.network → IsStill (reply_of n.setting o n.network) → IsFitting n.setting (reply_of n.setting o n.network) (before_outcome n.setting o n.network)
    → step n.setting n.network e ≡ after_outcome n.setting o n.network → n.network.clock + (reply_of n.setting o n.network).clock < 2 ^ 32 → MayFollow n o
may-follow stays n e o accepted sound still fits is clock =
    let s : Setting = n.setting in
    let after : IsSoundNetwork s (n.events + 1) (2 * n.events + 2) (after_outcome s o n.network) = subst (IsSoundNetwork s (n.events + 1) (2 * n.events + 2)) is (stays s n.events (2 * n.events) n.network e accepted sound) in
    record {
      still = still;
      fitting = fits;
      sound = more-sound s _ _ _ _ (unsent (after_outcome s o n.network)) (omega arith) (omega arith) (frames-sound s _ _ (after_outcome s o n.network) [] [] after);
      clock = clock;
    }

-- where no beacon interval begins, by the network as it is
pub still-follows : StaysSound → (n : NetworkState) (e : Event) (o : Outcome) → network_fault n.setting.network ≡ None → IsSoundNetwork n.setting n.events (2 * n.events) n.network → IsFitting n.setting (reply_of n.setting o n.network) (unit_taken o n.network)
    → step n.setting n.network e ≡ after_answer n.setting o n.network → (step n.setting n.network e).clock ≡ n.network.clock → n.network.clock < 2 ^ 32 → MayFollow n o × (step n.setting n.network e ≡ after_outcome n.setting o n.network)
still-follows stays n e (Replied r) accepted sound fits is same bounded =
    let now : n.network.clock + r.clock ≡ n.network.clock = sym (ap (λ (m : Network). m.clock) is) ∙ same in
    let none : r.clock ≡ 0 = omega (arith, now) in
    let before : before_outcome n.setting (Replied r) n.network ≡ n.network = before-none n.setting r n.network none in
    let after = is ∙ ap (after_reply r) (sym before) in (
      may-follow stays n e (Replied r) accepted sound (λ begins. absurd (omega (arith, begins, none))) (subst (IsFitting n.setting r) (sym before) fits) after (omega (arith, none, bounded)),
      after,
    )
still-follows stays n e (Served from) accepted sound fits is same bounded =
    let none = poll-clock n.setting (units_for (One from) n.network.kept) n.network.sequence in
    (may-follow stays n e (Served from) accepted sound (λ begins. absurd (omega (arith, begins, none))) fits is (omega (arith, none, bounded)), is)

-- where one begins, by the network once units have aged
pub tick-follows : StaysSound → (n : NetworkState) (r : Reply) → network_fault n.setting.network ≡ None → IsSoundNetwork n.setting n.events (2 * n.events) n.network → IsStill r → IsFitting n.setting r (age_units n.setting n.network)
    → tick n.setting (age_units n.setting n.network) ≡ after_reply r (age_units n.setting n.network) → r.clock ≡ 1 → n.network.clock < 4294967295 → MayFollow n (Replied r) × (step n.setting n.network Tick ≡ after_outcome n.setting (Replied r) n.network)
tick-follows stays n r accepted sound still fits is one bounded =
    let before : before_outcome n.setting (Replied r) n.network ≡ age_units n.setting n.network = before-tick n.setting r n.network one in
    let after = is ∙ ap (after_reply r) (sym before) in
    (may-follow stays n Tick (Replied r) accepted sound still (subst (IsFitting n.setting r) (sym before) fits) after (omega (arith, one, bounded)), after)
