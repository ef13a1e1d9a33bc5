use Rattle.std.proofs.Common.{rules}
use Rattle.stations.proofs.StationTables.{set_mode-by}
use Rattle.stations.proofs.table.set_mode.Goals as goal

pub returns-clause-stations : goal.returns-clause-stations
returns-clause-stations c =
    set_mode-by _ c.args.addr c.args.doze c.args.states.now c.update.new.self c.update.result (λ before after given. search rules)
    c.update.ensures.old c.update.ensures.some c.update.ensures.none
