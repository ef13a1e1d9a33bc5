use Rattle.std.proofs.Common.{◌∙◌}
use Rattle.stations.proofs.StationTables.{set_value-is_set_state}
use Rattle.stations.proofs.table.set_known.Goals as goal

pub returns : goal.returns
returns c = c.replace.ensures.entries ∙ set_value-is_set_state c.args.addr c.args.state c.args.states.now c.requires
