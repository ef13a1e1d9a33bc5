use Rattle.std.proofs.Common.{sym, ◌∙◌, subst}
use Rattle.powersave.specs.Queues.{Removes}
use Rattle.powersave.proofs.queues.Queues.remove.Goals as goal

pub returns : goal.returns
returns c =
    let old = c.args.self.now.map.entries in
    let new = c.take.new.self.map.entries in
    subst (λ n. Removes c.args.whom.now old n new) (sym (c.len.ensures ∙ c.take.result.ok.0)) c.take.ensures.gone
