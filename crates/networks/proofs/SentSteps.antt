-- A network without its history takes one event after another, and its frames are kept.
use Rattle.std.proofs.Common.{◌≡◌, ℕ, ◌<◌, Bool, cond, List, [], ◌∷◌, ◌++◌, length, Result, Ok, Err, OnOk}
use Rattle.std.proofs.Common.{sym, ap, ◌∙◌, append-nil, append_assoc}
use Rattle.std.proofs.lemmas.Bool.{lt-ltb}
use Rattle.std.proofs.lemmas.List.{length_push}
use Rattle.ap_config.specs.declared.setting.Setting.{Setting}
use Rattle.events.specs.declared.event.Event.{Event}
use Rattle.network.specs.Network.{Network, alone, step}
use Rattle.network.specs.NetworkView.{NetworkState, took_event, unsent, sent_before}
use Rattle.networks.specs.WithFrames.{after_events, sent_after, taken_next}
use Rattle.networks.specs.declared.network_with_frames.NetworkWithFrames.{NetworkWithFrames}
use Rattle.networks.specs.declared.sending_network.SendingNetwork.{SendingNetwork}

-- a network and its frames, by what it is at a moment
abbrev kept_by : Setting → ℕ → Network → NetworkWithFrames
kept_by s events n = record {
  network = record { setting = s; events = events; network = unsent n };
  air = n.air;
  wire = n.wire;
}

-- one that took an event, and kept what it sent for it
abbrev pub after_event : Event → NetworkWithFrames → NetworkWithFrames
after_event e n = record {
  network = took_event e n.network;
  air = n.air ++ (step n.network.setting n.network.network e).air;
  wire = n.wire ++ (step n.network.setting n.network.network e).wire;
}

-- what a network alone does by one event more, and that a step looks at no frame that was sent
pub record Laws : Type 0 where
  pub next : (s : Setting) (es : List Event) (e : Event) → alone s (es ++ e ∷ []) ≡ step s (alone s es) e
  pub appends :
      (s : Setting)
      (n : Network)
      (e : Event)
      (air wire : List (List ℕ))
      → step s (sent_before air wire n) e ≡ sent_before air wire (step s n e)

event-push : (laws : Laws) (s : Setting) (es : List Event) (e : Event)
    → after_event e (after_events s es) ≡ after_events s (es ++ e ∷ [])
event-push laws s es e =
    let old : Network = alone s es in
    let whole : sent_before old.air old.wire (unsent old) ≡ old =
    ap (λ (fs : List (List ℕ)). record old { air = fs; wire = old.wire ++ [] }) (append-nil old.air)
    ∙ ap (λ (fs : List (List ℕ)). record old { wire = fs }) (append-nil old.wire) in
    let next : alone s (es ++ e ∷ []) ≡ sent_before old.air old.wire (step s (unsent old) e) =
    laws.next s es e ∙ ap (λ (n : Network). step s n e) (sym whole)
    ∙ laws.appends s (unsent old) e old.air old.wire in
    ap (λ (k : ℕ). kept_by s k (sent_before old.air old.wire (step s (unsent old) e))) (sym (length_push es e))
    ∙ ap (kept_by s (length (es ++ e ∷ []))) (sym next)

-- where there is room for it
event-more : (laws : Laws) (s : Setting) (es : List Event) (e : Event) (old new : NetworkWithFrames) → old ≡ after_events s es
    → length es < s.network.max_events → new ≡ after_event e old → new ≡ after_events s (es ++ taken_next s es e)
event-more laws s es e old new was room is =
    is ∙ ap (after_event e) was
    ∙ event-push laws s es e
    ∙ ap (λ (b : Bool). after_events s (es ++ cond b (e ∷ []) [])) (sym (lt-ltb (length es) s.network.max_events room))

-- as its calls say it
pub event-kept : (laws : Laws) (s : Setting) (es : List Event) (e : Event) (old new : NetworkWithFrames) (n : NetworkState)
    (air wire : List (List ℕ)) → old ≡ after_events s es → length es < s.network.max_events → n ≡ took_event e old.network
    → air ≡ (step old.network.setting old.network.network e).air
    → wire ≡ (step old.network.setting old.network.network e).wire
    → new ≡ record { network = n; air = old.air ++ air; wire = old.wire ++ wire }
    → new ≡ after_events s (es ++ taken_next s es e)
event-kept laws s es e old new n air wire was room took air_is wire_is is =
    event-more laws s es e old new was room
    (is
    ∙ ap (λ (m : NetworkState). record { network = m; air = old.air ++ air; wire = old.wire ++ wire }) took
    ∙ ap
    (λ (fs : List (List ℕ)).
    record { network = took_event e old.network; air = old.air ++ fs; wire = old.wire ++ wire })
    air_is
    ∙ ap
    (λ (fs : List (List ℕ)).
    record {
      network = took_event e old.network;
      air = old.air ++ (step old.network.setting old.network.network e).air;
      wire = old.wire ++ fs;
    })
    wire_is)

-- as its calls say it, where those on the air wait
pub event-waits : (laws : Laws) (s : Setting) (es : List Event) (e : Event) (gone : List (List ℕ)) (old new : SendingNetwork)
    (n : NetworkState) (air wire : List (List ℕ)) → sent_after gone old ≡ after_events s es → length es < s.network.max_events
    → n ≡ took_event e old.network → air ≡ (step old.network.setting old.network.network e).air
    → wire ≡ (step old.network.setting old.network.network e).wire → new.network ≡ n
    → (new.waiting.items ≡ old.waiting.items ++ air) × (new.wire ≡ old.wire ++ wire)
    → sent_after gone new ≡ after_events s (es ++ taken_next s es e)
event-waits laws s es e gone old new n air wire was room took air_is wire_is same kept =
    let waits : gone ++ new.waiting.items ≡ (gone ++ old.waiting.items) ++ air =
    ap (λ (fs : List (List ℕ)). gone ++ fs) kept.0 ∙ sym (append_assoc gone old.waiting.items air) in
    event-kept laws s es e (sent_after gone old) (sent_after gone new) n air wire was room took air_is wire_is
    (λ k. record { network = same k; air = waits k; wire = kept.1 k })

-- what follows of a fact that holds where a call went well
pub on_ok : {T E P Q : Type 0} (r : Result T E) → (P → Q) → OnOk r P → OnOk r Q
on_ok (Ok x) f p = f p
on_ok (Err e) f p = tt
