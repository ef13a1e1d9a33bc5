-- What one network replies, and what becomes of it, whatever the other networks do.
use Rattle.std.proofs.Common.{◌≡◌, ℕ, Bool, true, false, List, [], ◌∷◌, ◌++◌, Option, Some, None, refl, sym, ap, ◌∙◌, append-nil}
use Rattle.std.specs.Prelude.{option_to_list, if◌then◌else◌}
use Rattle.std.proofs.lemmas.List.{length_push}
use Rattle.network.specs.Network.{Network, empty_network, step, alone}
use Rattle.ap_config.specs.declared.setting.Setting.{Setting}
use Rattle.network.specs.NetworkView.{NetworkState, unsent, sent_before, took_event}
use Rattle.events.specs.declared.event.Event.{Event}
use Rattle.network.specs.declared.network.NetworkRefusal.TheVariants.{Clock}
use Rattle.live_rules.specs.Moments.{Reply, Sends, Refuses, is_past_clock, sending, MayReply, MayReplyIf, taken_if, after_if}
use Rattle.live_rules.specs.Own.{air_in, wire_in, alone_after}

-- ---- what is known of the network alone

pub record AloneLaws : Type 0 where
  pub first : (s : Setting) → alone s [] ≡ empty_network
  pub next : (s : Setting) (es : List Event) (e : Event) → alone s (es ++ e ∷ []) ≡ step s (alone s es) e
  pub append :
      (s : Setting) (n : Network) (e : Event) (air wire : List (List ℕ))
      → step s (sent_before air wire n) e ≡ sent_before air wire (step s n e)

pub alone_after-none : AloneLaws → (s : Setting) → alone_after s [] ≡ record { setting = s; events = 0; network = empty_network }
alone_after-none laws s = ap (λ (n : Network). let m : NetworkState = record { setting = s; events = 0; network = unsent n } in m) (laws.first s)

-- the network with all that it sent before
whole : (n : Network) → sent_before n.air n.wire (unsent n) ≡ n
whole n = rw (append-nil n.air, append-nil n.wire) refl

-- one event more
alone-more : AloneLaws → (s : Setting) (es : List Event) (e : Event)
    → alone s (es ++ e ∷ [])
    ≡ sent_before (alone s es).air (alone s es).wire (step s (unsent (alone s es)) e)
alone-more laws s es e =
    laws.next s es e
    ∙ ap (λ (n : Network). step s n e) (sym (whole (alone s es)))
    ∙ laws.append s (unsent (alone s es)) e (alone s es).air (alone s es).wire

-- ---- one event

-- the reply of a network with enough memory
sends-parts : (past : Bool) (air wire air' wire' : List (List ℕ))
    → Sends air wire ≡ (if past then Refuses Clock else Sends air' wire') → (air ≡ air') × (wire ≡ wire')
sends-parts true air wire air' wire' e = absurd (cc)
sends-parts false air wire air' wire' e = (cc, cc)

pub record Sent (s : Setting) (es : List Event) (e : Event) (on_air on_wire : List (List ℕ)) : Type 0 where
  pub after : took_event e (alone_after s es) ≡ alone_after s (es ++ e ∷ [])
  pub air : (alone s (es ++ e ∷ [])).air ≡ (alone s es).air ++ on_air
  pub wire : (alone s (es ++ e ∷ [])).wire ≡ (alone s es).wire ++ on_wire

pub sent : AloneLaws → (s : Setting) (es : List Event) (e : Event) (air wire : List (List ℕ))
    → MayReply (alone_after s es) e (Sends air wire) → Sent s es e air wire
sent laws s es e air wire h =
    let more = alone-more laws s es e in
    let n : NetworkState = alone_after s es in
    let parts = sends-parts (is_past_clock n e) air wire (sending n e).air (sending n e).wire h in
    record {
      after = rw (more, length_push es e) refl;
      air = ap (λ (n : Network). n.air) more ∙ ap (λ (fs : List (List ℕ)). (alone s es).air ++ fs) (sym parts.0);
      wire = ap (λ (n : Network). n.wire) more ∙ ap (λ (fs : List (List ℕ)). (alone s es).wire ++ fs) (sym parts.1);
    }

-- ---- at most one event

-- a network that took these events replies to a line, and takes the event that it is to it unless it refuses it
pub record RepliesAlone (s : Setting) (es : List Event) (event : Option Event) (reply : Option Reply) : Type 0 where
  pub after : after_if (alone_after s es) (taken_if event reply)
      ≡ alone_after s (es ++ option_to_list (taken_if event reply))
  pub air : (alone s (es ++ option_to_list (taken_if event reply))).air ≡ (alone s es).air ++ air_in reply
  pub wire : (alone s (es ++ option_to_list (taken_if event reply))).wire ≡ (alone s es).wire ++ wire_in reply

-- nothing was taken, and nothing sent
stays : (s : Setting) (es : List Event) (event : Option Event) (reply : Option Reply) → taken_if event reply ≡ None
    → air_in reply ≡ [] → wire_in reply ≡ [] → RepliesAlone s es event reply
stays s es event reply none air wire =
    record {
      after = rw (none, append-nil es) refl;
      air = rw (none, append-nil es, air, append-nil (alone s es).air) refl;
      wire = rw (none, append-nil es, wire, append-nil (alone s es).wire) refl;
    }

-- it may reply so, if it replies at all
abbrev pub MayHaveReplied : NetworkState → Option Event → Option Reply → Type 0
MayHaveReplied n event None = Unit {0}
MayHaveReplied n event (Some r) = MayReplyIf n event (Some r)

pub taken-none : (event : Option Event) → taken_if event None ≡ None
taken-none None = refl
taken-none (Some e) = refl

pub replies-alone : AloneLaws → (s : Setting) (es : List Event) (event : Option Event) (reply : Option Reply)
    → MayHaveReplied (alone_after s es) event reply → RepliesAlone s es event reply
replies-alone laws s es event None h = stays s es event None (taken-none event) refl refl
replies-alone laws s es None (Some r) h = absurd (cc)
replies-alone laws s es (Some e) (Some (Refuses why)) h = stays s es (Some e) (Some (Refuses why)) refl refl refl
replies-alone laws s es (Some e) (Some (Sends air wire)) h =
    let one : Sent s es e air wire = sent laws s es e air wire h in
    record { after = one.after; air = one.air; wire = one.wire }

-- ---- its setting stays

pub setting-if : (n : NetworkState) (event : Option Event) → (after_if n event).setting ≡ n.setting
setting-if n None = refl
setting-if n (Some e) = refl
