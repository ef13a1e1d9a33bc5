use Rattle.std.proofs.Common.{◌≡◌, ◌∙◌, List, Result, Ok, Err, IfOk, sym, subst}
use Rattle.powersave.specs.declared.unit.Oldest.{Oldest}
use Rattle.roster.specs.AgingClocks.{due_at}
use Rattle.roster.specs.Roster.{RosterState, AreAmong}
use Rattle.roster.specs.KeptUnits.{CameBy}
use Rattle.roster.proofs.ClocksKept.{among-due}
use Rattle.roster.proofs.RosterAging.{among-all}
use Rattle.roster.proofs.roster.Roster.due.Goals as goal

-- what is known of a list is known of the same one
told : {V E : Type 0} (items : V → List Oldest) (r : Result V E) (os : List Oldest) (P : List Oldest → Type 0) → IfOk r (λ v. items v ≡ os) → P os → IfOk r (λ v. P (items v))
told items (Ok v) os P is known = subst P (sym is) known
told items (Err e) os P is known = tt

pub due-requires : goal.due-requires
due-requires c = c.self.invariant.young (sym c.are_complete.ensures ∙ c.if-are_complete.true)

pub returns-then-not-is_empty : goal.returns-then-not-is_empty
returns-then-not-is_empty c =
    let inside = c.self.inside in
    let os : List Oldest = due_at c.args.clock inside.clocks.clocks.items inside.clocks.aids.items in
    told (λ v. v.items) c.due.result os (λ os. AreAmong c.args.clock c.args.self.now.stations.table os c.args.self.now.kept.entries) c.due.ensures
    (subst (λ (r : RosterState). AreAmong c.args.clock r.stations.table os r.kept.entries) c.self.view_is
    (among-due c.args.clock inside.stations.table inside.clocks.clocks.items inside.clocks.aids.items inside.kept.entries (c.self.invariant.aging (sym c.are_complete.ensures ∙ c.if-are_complete.true))))

pub returns-in_ok-oldest_of_each : goal.returns-in_ok-oldest_of_each
returns-in_ok-oldest_of_each c =
    let inside = c.self.inside in
    subst (λ (r : RosterState). AreAmong c.args.clock r.stations.table c.in_ok-oldest_of_each.field-0.items r.kept.entries) c.self.view_is
    (among-all c.args.clock inside.stations.table c.in_ok-oldest_of_each.field-0.items inside.kept.entries c.in_ok-oldest_of_each.ensures.each
    (subst (λ (r : RosterState). CameBy c.args.clock r.kept.entries) (sym c.self.view_is) c.requires))
