use Rattle.std.proofs.Common.{◌≡◌, ◌∙◌, List, ℕ, false, sym, ap}
use Rattle.std.specs.Prelude.{option_map}
use Rattle.std.specs.Str.{bytes_eq}
use Rattle.std.proofs.lemmas.Slice.Eq.{bytes_eq-Decides}
use Rattle.stations.specs.Stations.{Table, state_of, set_mode, with_mode, changed}
use Rattle.stations.specs.declared.table.Change.{Change}
use Rattle.stations.proofs.StationTables.{nothing-changes}
use Rattle.stations.proofs.StationStates.{state_of-mode, state_of-moded, turned}
use Rattle.stations.proofs.table.Stations.state_after.Goals as goal

pub returns-then-eq : goal.returns-then-eq
returns-then-eq c =
    let t : Table = c.args.self.now.table in
    let same : c.in-SetMode.set ≡ c.args.addr = (bytes_eq-Decides c.in-SetMode.set c.args.addr).0 (sym c.eq.ensures ∙ c.if-eq.true) in
    c.state_with_mode.ensures ∙ ap (option_map (with_mode c.in-SetMode.doze)) c.state_of-state.ensures ∙ sym (state_of-mode c.args.addr c.in-SetMode.doze t)
    ∙ ap (λ (a : List ℕ). state_of c.args.addr (set_mode a c.in-SetMode.doze t)) (sym same)
    ∙ ap (λ (k : Change). state_of c.args.addr (changed k t)) (sym c.in-SetMode.is)

pub returns-else-eq : goal.returns-else-eq
returns-else-eq c =
    let t : Table = c.args.self.now.table in
    let apart : bytes_eq c.args.addr c.in-SetMode.set ≡ false = turned c.in-SetMode.set c.args.addr (sym c.eq.ensures ∙ c.if-eq.false) in
    c.state_of-state.ensures ∙ sym (state_of-moded c.in-SetMode.set c.args.addr c.in-SetMode.doze t apart)
    ∙ ap (λ (k : Change). state_of c.args.addr (changed k t)) (sym c.in-SetMode.is)

pub returns-in_default : goal.returns-in_default
returns-in_default c =
    c.state_of-state.ensures ∙ ap (state_of c.args.addr) (sym (nothing-changes c.args.change c.args.self.now.table c.requires c.in_default.not-SetMode))
