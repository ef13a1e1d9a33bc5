use Rattle.std.proofs.Common.{◌+◌, ◌<◌, ◌++◌, ◌∷◌, [], length, None, refl, sym, ap, ◌∙◌, subst}
use Rattle.powersave.specs.Keep.{Kept}
use Rattle.powersave.proofs.QueueSteps.{kept_same, kept_pushed}
use Rattle.powersave.proofs.keep.Keep.put.Goals as goal

pub invariant_of-self : goal.invariant_of-self
invariant_of-self c = kept_same _ _ _ _ _ _ _ c.self.invariant c.in_err-push.ensures.err

pub invariant_of-self-2 : goal.invariant_of-self-2
invariant_of-self-2 c =
    let room = subst (λ (k : Kept). length k.entries < k.quota) (sym c.self.view_is) c.requires.not_full in
    kept_pushed _ _ _ _ _ _ _ c.self.invariant c.args.whom _ c.in_ok-push.ensures.ok refl room

pub returns-clause-ok : goal.returns-clause-ok
returns-clause-ok c =
    let seen = c.self.view_is in
    let more = c.in_ok-push.ensures.ok.units _ refl c.self.invariant.sound ∙ ap (λ (k : Kept). k.entries ++ (c.args.whom, c.args.unit) ∷ []) seen in
    λ i. record { quota = (seen i).quota; entries = more i; reserved = None; puts = (seen i).puts + 1; in_front = (seen i).in_front }
