use Rattle.std.proofs.Common.{◌≡◌, ◌∙◌, List, ℕ, Option, Some, None, sym, ap}
use Rattle.std.specs.Prelude.{IfSome}
use Rattle.tim.specs.Tim.{IsAid}
use Rattle.stations.specs.Stations.{Table, StationTable, aid_of, aid_with, state_of, identifiers, AreIdentifiers}
use Rattle.stations.proofs.StationTables.{range-of_associated}
use Rattle.stations.proofs.table.Stations.aid_of.Goals as goal

in_range : (addr : List ℕ) (t : Table) (o : Option ℕ) → o ≡ aid_of addr t → AreIdentifiers (identifiers t) → IfSome o IsAid
in_range addr t None is sound = tt
in_range addr t (Some aid) is sound = range-of_associated addr t aid (sym is) sound

pub returns-clause-within : goal.returns-clause-within
returns-clause-within c =
    let t : Table = c.self.inside.states in
    let table : c.args.self.now.table ≡ t = ap (λ (s : StationTable). s.table) (sym c.self.view_is) in
    in_range c.args.addr t c.aid_with.result (c.aid_with.ensures ∙ ap aid_with (c.state_of.ensures ∙ ap (state_of c.args.addr) table)) c.self.invariant.pool.sound
