use Rattle.std.proofs.Common.{◌≡◌, ◌∙◌, ℕ, Bool, List, [], ◌∷◌, ◌++◌, length, Some, None, refl, ap, subst, arith}
use Rattle.std.specs.Prelude.{nat_lt}
use Rattle.std.specs.List.{slice_get}
use Rattle.std.proofs.lemmas.Bool.{lt-ltb}
use Rattle.mac_frame.specs.Data.{data_header}
use Rattle.powersave.specs.declared.unit.Unit.{Unit as Msdu}
use Rattle.powersave.specs.Keep.{units_for, without_oldest, room_beside, first_frame, others_follow}
use Rattle.powersave.specs.Queues.{entries_in, Sends}
use Rattle.powersave.proofs.Parts.{without_oldest_none}
use Rattle.powersave.proofs.QueueSteps.{kept_empty, kept_popped, kept_same, some_left, count-units}
use Rattle.powersave.proofs.keep.Keep.send_oldest.Goals as goal

none_first : (bss : List ℕ) (sequence : ℕ) (us : List Msdu) → None ≡ slice_get us 0 → None ≡ first_frame bss sequence us
none_first bss sequence [] none = refl
none_first bss sequence (u ∷ us) none = absurd (cc)

some_follow : (u : Msdu) (us : List Msdu) → nat_lt 1 (length (u ∷ us)) ≡ others_follow us
some_follow u [] = refl
some_follow u (v ∷ vs) = lt-ltb 1 (length (u ∷ v ∷ vs)) (omega arith)

first_of : (bss : List ℕ) (sequence : ℕ) (us : List Msdu) (unit : Msdu) (sent : List ℕ × Bool) → Some unit ≡ slice_get us 0 → sent.0 ≡ data_header unit.to bss unit.source sequence sent.1 ++ unit.body → sent.1 ≡ nat_lt 1 (length us)
    → Some sent ≡ first_frame bss sequence us
first_of bss sequence [] unit sent is frame follows = absurd (cc)
first_of bss sequence (u ∷ us) unit sent is frame follows =
    let same : unit ≡ u = cc in
    let more : sent.1 ≡ others_follow us = follows ∙ some_follow u us in
    let octets : sent.0 ≡ data_header u.to bss u.source sequence (others_follow us) ++ u.body =
    frame ∙ ap (λ m. data_header unit.to bss unit.source sequence m ++ unit.body) more
    ∙ ap (λ (v : Msdu). data_header v.to bss v.source sequence (others_follow us) ++ v.body) same in
    λ i. Some (octets i, more i)

pub invariant_of-self : goal.invariant_of-self
invariant_of-self c = kept_same _ _ _ _ _ _ _ c.self.invariant c.in_err-sent.ensures.err

pub invariant_of-self-in_default : goal.invariant_of-self-in_default
invariant_of-self-in_default c =
    let popped = subst (λ o. Sends c.args.whom c.args.bss c.args.seq c.self.inside.queues.map.entries o c.send.new.self.map.entries) c.in_default.is c.in_ok-sent.ensures.ok in
    kept_empty _ _ _ _ _ _ _ c.self.invariant c.args.whom c.room_beside-self-inside.result popped c.room_beside-self-inside.ensures

pub returns-in_default-clause-sent : goal.returns-in_default-clause-sent
returns-in_default-clause-sent c =
    let popped = subst (λ o. Sends c.args.whom c.args.bss c.args.seq c.self.inside.queues.map.entries o c.send.new.self.map.entries) c.in_default.is c.in_ok-sent.ensures.ok in
    none_first c.args.bss c.args.seq (units_for c.args.whom c.args.self.now.entries)
    (popped.unit _ c.self.invariant.sound ∙ ap (λ k. slice_get (units_for c.args.whom k.entries) 0) c.self.view_is)

pub returns-in_default-clause-after : goal.returns-in_default-clause-after
returns-in_default-clause-after c =
    let whom = c.args.whom in
    let seen = c.self.view_is in
    let popped = subst (λ o. Sends whom c.args.bss c.args.seq c.self.inside.queues.map.entries o c.send.new.self.map.entries) c.in_default.is c.in_ok-sent.ensures.ok in
    let rest = popped.rest _ c.self.invariant.sound ∙ ap (λ k. without_oldest whom k.entries) seen in
    let room = c.room_beside-self-inside.ensures ∙ ap (λ k. room_beside whom k.reserved) seen in
    λ i. record { quota = (seen i).quota; entries = rest i; reserved = room i; puts = (seen i).puts; in_front = (seen i).in_front }

pub returns-in_default-clause-none : goal.returns-in_default-clause-none
returns-in_default-clause-none c h =
    let whom = c.args.whom in
    let old = c.self.inside.queues.map.entries in
    let popped = subst (λ o. Sends whom c.args.bss c.args.seq old o c.send.new.self.map.entries) c.in_default.is c.in_ok-sent.ensures.ok in
    popped.rest _ c.self.invariant.sound
    ∙ without_oldest_none whom (entries_in old) (popped.unit _ c.self.invariant.sound)
    ∙ ap (λ k. k.entries) c.self.view_is

pub overflow_sub-self : goal.overflow_sub-self
overflow_sub-self c =
    let sends = subst (λ o. Sends c.args.whom c.args.bss c.args.seq c.self.inside.queues.map.entries o c.send.new.self.map.entries) c.in-Some.is c.in_ok-sent.ensures.ok in
    some_left _ _ _ _ _ _ _ c.self.invariant c.args.whom sends.0 sends.1.0

pub invariant_of-self-2 : goal.invariant_of-self-2
invariant_of-self-2 c =
    let sends = subst (λ o. Sends c.args.whom c.args.bss c.args.seq c.self.inside.queues.map.entries o c.send.new.self.map.entries) c.in-Some.is c.in_ok-sent.ensures.ok in
    kept_popped _ _ _ _ _ _ _ c.self.invariant c.args.whom sends.0 c.room_beside-self-inside.result sends.1.0 c.room_beside-self-inside.ensures

pub returns-clause-sent : goal.returns-clause-sent
returns-clause-sent c =
    let whom = c.args.whom in
    let old = c.self.inside.queues.map.entries in
    let seen = c.self.view_is in
    let sends = subst (λ o. Sends whom c.args.bss c.args.seq old o c.send.new.self.map.entries) c.in-Some.is c.in_ok-sent.ensures.ok in
    first_of c.args.bss c.args.seq (units_for whom c.args.self.now.entries) sends.0 c.in-Some.sent
    (sends.1.0.unit _ c.self.invariant.sound ∙ ap (λ k. slice_get (units_for whom k.entries) 0) seen)
    sends.1.1
    (sends.1.2 ∙ ap (nat_lt 1) (count-units _ whom old c.self.invariant.sound ∙ ap (λ k. length (units_for whom k.entries)) seen))

pub returns-clause-after : goal.returns-clause-after
returns-clause-after c =
    let whom = c.args.whom in
    let seen = c.self.view_is in
    let sends = subst (λ o. Sends whom c.args.bss c.args.seq c.self.inside.queues.map.entries o c.send.new.self.map.entries) c.in-Some.is c.in_ok-sent.ensures.ok in
    let rest = sends.1.0.rest _ c.self.invariant.sound ∙ ap (λ k. without_oldest whom k.entries) seen in
    let room = c.room_beside-self-inside.ensures ∙ ap (λ k. room_beside whom k.reserved) seen in
    λ i. record { quota = (seen i).quota; entries = rest i; reserved = room i; puts = (seen i).puts; in_front = (seen i).in_front }
