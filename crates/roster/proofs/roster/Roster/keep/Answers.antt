use Rattle.std.proofs.Common.{◌∙◌, sym, ap}
use Rattle.roster.specs.Keeping.{aid_for}
use Rattle.roster.specs.Roster.{RosterState}
use Rattle.stations.specs.Stations.{changed}
use Rattle.roster.proofs.UnitsKept.{aid_for-mode}
use Rattle.roster.proofs.roster.Roster.keep.Goals as goal

pub put-requires-2-clause-aid : goal.put-requires-2-clause-aid
put-requires-2-clause-aid c =
    let whom = c.args.arriving.whom in
    let is = rw c.unwrap-2.ensures at c.change-2.ensures.ok in
    c.requires.within.3 ∙ sym (aid_for-mode c.modes_alone.ensures c.args.change whom c.args.self.now.stations.table c.requires.within.2)
    ∙ ap (λ (r : RosterState). aid_for whom (changed c.args.change r.stations.table)) (sym c.in_ok-reserve.ensures.ok)
    ∙ ap (λ (r : RosterState). aid_for whom r.stations.table) (sym is)
    ∙ ap (λ (r : RosterState). aid_for whom r.stations.table) (sym c.leave.ensures)
