-- What a network replied is what it may reply.
use Rattle.std.proofs.Common.{◌≡◌, ℕ, ◌+◌, Bool, true, false, List, [], ◌∷◌, map, Option, Some, None, Result, Ok, Err, refl, ap, ◌∙◌}
use Rattle.std.specs.Prelude.{◌↔◌, ◌==◌, option_to_list}
use Rattle.std.proofs.lemmas.Bool.{eqb-true}
use Rattle.network.specs.NetworkView.{NetworkState}
use Rattle.events.specs.declared.event.Event.{Event}
use Rattle.events.specs.declared.event.Event.TheVariants.{Air, Wire, Tick}
use Rattle.network.specs.declared.network.NetworkRefusal.{NetworkRefusal}
use Rattle.network.specs.declared.network.NetworkRefusal.TheVariants.{NoMemory, Clock}
use Rattle.network.specs.declared.network.Sent.{Sent}
use Rattle.events.specs.declared.line.Line.{Line}
use Rattle.text_io.specs.Buffers.{CanWrite, Puts, Watch}
use Rattle.text_io.specs.declared.buffer.Buffered.{Buffered}
use Rattle.text_io.specs.BufferLaws.{Puts-then, Puts-nothing}
use Rattle.networks.specs.Takes.{Takes, TakesIf, change, dispatch}
use Rattle.live_rules.specs.Answers.{MayReplyFrom, after_line_from}
use Rattle.live_rules.specs.Dispatch.{event_at}
use Rattle.live_rules.specs.Moments.{Reply, Sends, Refuses, is_past_clock, sending, MayReply, MayReplyIf, taken_if, after_if, bssid_of}
use Rattle.live.specs.Output.{HasReplied, Through, through}
use Rattle.live.specs.Written.{written_reply_if, written_replies}
use Rattle.live.specs.declared.face.Face.{Face}

-- a beacon interval is to begin that the clock can't count
abbrev pub IsPast : NetworkState → Event → Type 0
IsPast n e = (e ≡ Tick) × (n.network.clock ≡ 4294967295)

not-past : (n : NetworkState) (e : Event) → (IsPast n e → ⊥) → is_past_clock n e ≡ false
not-past n (Air x) h = refl
not-past n (Wire y) h = refl
not-past n Tick h = by (n.network.clock == 4294967295) refl
  where
    by : (b : Bool) → (n.network.clock == 4294967295) ≡ b → (n.network.clock == 4294967295) ≡ false
    by true is = absurd (h (refl, eqb-true n.network.clock 4294967295 is))
    by false is = is

is-past : (n : NetworkState) (e : Event) → IsPast n e → is_past_clock n e ≡ true
is-past n e h = ap (is_past_clock n) h.0 ∙ ap (λ clock. clock == 4294967295) h.1

pub sends-may : (n : NetworkState) (e : Event) (result : Result Sent NetworkRefusal) (sent : Sent) → result ≡ Ok sent
    → sent.air ≡ (sending n e).air → option_to_list sent.wire ≡ (sending n e).wire
    → ((result ≡ Err Clock) ↔ IsPast n e) → MayReply n e (Sends sent.air (option_to_list sent.wire))
sends-may n e result sent is air wire clock =
    let other : IsPast n e → ⊥ = λ (h : IsPast n e). let same : result ≡ Err Clock = clock.1 h in absurd (cc) in
    rw (not-past n e other) (λ i. Sends (air i) (wire i))

pub refuses-may : (n : NetworkState) (e : Event) (result : Result Sent NetworkRefusal) (why : NetworkRefusal)
    → result ≡ Err why → ((result ≡ Err Clock) ↔ IsPast n e) → MayReply n e (Refuses why)
refuses-may n e result NoMemory is clock =
    not-past n e (λ (h : IsPast n e). let same : result ≡ Err Clock = clock.1 h in absurd (cc))
refuses-may n e result Clock is clock =
    rw (is-past n e (clock.0 is)) refl

-- ---- one network

-- a network that took the event that a line is to it or refused it, if it is one to it, and the reply that was put
record MayHaveReplied {W : Type 0} (o : Through W) (number place : ℕ) (said : Line) (n next : NetworkState) : Type 0 where
  reply : Option Reply
  may : MayReplyIf n (event_at place n said) reply
  after : next ≡ after_if n (taken_if (event_at place n said) reply)
  puts : Puts o.sink o.old o.new (written_reply_if o.face number (bssid_of n) reply)

may-have : {W : Type 0} (sink : Watch W) (face : Face) (number place : ℕ) (said : Line) (n next : NetworkState) (old new : Buffered W)
    → CanWrite sink.failed old → (event : Option Event) → event_at place n said ≡ event
    → TakesIf (λ e c out. HasReplied (through face sink out.old out.new) number e c) event (change n next) (change old new)
    → MayHaveReplied (through face sink old new) number place said n next
may-have sink face number place said n next old new can None is h = record {
  reply = None;
  may = rw is refl;
  after = h.0 ∙ rw is refl;
  puts = rw h.1 (Puts-nothing old can);
}
may-have sink face number place said n next old new can (Some e) is h = record {
  reply = Some h.reply;
  may = rw is h.may;
  after = h.after ∙ rw is refl;
  puts = h.puts;
}

-- ---- all networks

-- those from a place on
pub record HaveRepliedFrom {W : Type 0} (o : Through W) (number place : ℕ) (said : Line) (ns next : List NetworkState) : Type 0 where
  pub replies : List (Option Reply)
  pub may : MayReplyFrom place ns said replies
  pub after : next ≡ after_line_from place ns said replies
  pub puts : Puts o.sink o.old o.new (written_replies o.face number (map bssid_of ns) replies)

pub have-replied : {W : Type 0} (sink : Watch W) (face : Face) (number place : ℕ) (said : Line) (ns next : List NetworkState)
    (old new : Buffered W) → CanWrite sink.failed old
    → Takes (dispatch bssid_of (λ e c out. HasReplied (through face sink out.old out.new) number e c) said place) ns next
    (change old new)
    → HaveRepliedFrom (through face sink old new) number place said ns next
have-replied sink face number place said [] next old new can h = record {
  replies = [];
  may = refl;
  after = h.0;
  puts = rw h.1 (Puts-nothing old can);
}
have-replied sink face number place said (n ∷ ns) [] old new can h = absurd h
have-replied sink face number place said (n ∷ ns) (m ∷ ms) old new can h =
    let one = may-have sink face number place said n m old h.0 can (event_at place n said) refl h.1 in
    let others = have-replied sink face number (place + 1) said ns ms h.0 new one.puts.can_write h.2 in
    record {
      replies = one.reply ∷ others.replies;
      may = (one.may, others.may);
      after = λ k. one.after k ∷ others.after k;
      puts = Puts-then one.puts others.puts;
    }
