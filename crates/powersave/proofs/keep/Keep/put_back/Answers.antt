use Rattle.std.proofs.Common.{◌+◌, ◌<◌, ◌^◌, length, None, sym, ap, ◌∙◌, subst, arith}
use Rattle.powersave.specs.Keep.{Kept}
use Rattle.powersave.specs.Returns.{put_back}
use Rattle.powersave.proofs.QueueSteps.{kept_same, kept_put_back}
use Rattle.powersave.proofs.keep.Keep.put_back.Goals as goal

pub invariant_of-self : goal.invariant_of-self
invariant_of-self c = kept_same _ _ _ _ _ _ _ c.self.invariant c.in_err-put_back.ensures.err

pub invariant_of-self-2 : goal.invariant_of-self-2
invariant_of-self-2 c =
    let room = subst (λ (k : Kept). length k.entries < k.quota) (sym c.self.view_is) c.requires.not_full in
    let countable = subst (λ (k : Kept). k.in_front + c.args.before < 2 ^ 62) (sym c.self.view_is) c.requires.countable in
    kept_put_back _ _ _ _ _ _ _ c.self.invariant c.args.whom _ c.args.before c.args.unit c.in_ok-put_back.ensures.ok (omega (arith, countable)) room

pub returns-clause-ok : goal.returns-clause-ok
returns-clause-ok c =
    let seen = c.self.view_is in
    let before = c.args.before in
    let countable = subst (λ (k : Kept). k.in_front + before < 2 ^ 62) (sym seen) c.requires.countable in
    let more = c.in_ok-put_back.ensures.ok.units _ (omega (arith, countable)) c.self.invariant.sound ∙ ap (λ (k : Kept). put_back c.args.whom before c.args.unit k.entries) seen in
    λ i. record { quota = (seen i).quota; entries = more i; reserved = None; puts = (seen i).puts; in_front = (seen i).in_front + (before + 1) }
