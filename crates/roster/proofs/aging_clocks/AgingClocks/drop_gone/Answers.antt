use Rattle.std.proofs.Common.{rules}
use Rattle.std.specs.FinSet as set
use Rattle.std.proofs.lemmas.Fn.{filter_same}
use Rattle.tim.specs.Tim.{is_shown}
use Rattle.roster.proofs.aging_clocks.AgingClocks.drop_gone.Goals as goal

pub returns-clause-aids : goal.returns-clause-aids
returns-clause-aids c = filter_same _ (is_shown (set.contains c.args.traffic.now)) _ (λ x b f' k. search rules) _ _ c.retain.ensures.filtered
