use Rattle.std.proofs.Common.{◌≡◌, ◌∙◌, ◌+◌, ℕ, not, List, ◌∷◌, length, drop, refl, sym, ap, subst, inl, inr}
use Rattle.std.specs.Prelude.{filter, nat_lt}
use Rattle.std.proofs.lemmas.Bool.{cases_lt}
use Rattle.std.proofs.lemmas.List.{drop_more, drop_all}
use Rattle.powersave.specs.Keep.{Entry, units_for, without_older}
use Rattle.powersave.specs.declared.unit.Oldest.{Oldest}
use Rattle.powersave.specs.declared.unit.Whom.{Whom}
use Rattle.powersave.specs.declared.unit.Unit.{Unit as DataUnit}
use Rattle.roster.specs.Roster.{AreWaitedFor, AreAmong, limit_for, stays}
use Rattle.stations.specs.Stations.{Table}
use Rattle.roster.specs.KeptUnits.{is_too_old}
use Rattle.roster.proofs.Aging.{in-order}
use Rattle.roster.proofs.RosterAging.{left-young, among-aged, among-young, none-among, young-units}
use Rattle.roster.proofs.UnitsLeft.{some-before}
use Rattle.roster.proofs.roster.Roster.show_each.Goals as goal

pub loop-one-init : goal.loop-one-init
loop-one-init c = (c.args.self.now.kept.entries, refl, c.requires.oldest, c.requires.bits)

pub show_one-requires : goal.show_one-requires
show_one-requires c = in-order c.one-item.result.whom c.args.clock c.args.self.now.kept.entries c.requires.came

pub loop-one-preserved : goal.loop-one-preserved
loop-one-preserved c =
    let clock : ℕ = c.args.clock in
    let t : Table = c.args.self.now.stations.table in
    let all : List Entry = c.args.self.now.kept.entries in
    let one : Oldest = c.one-item.result in
    let whom : Whom = one.whom in
    let h = c.loop-one.invariant in
    let es : List Entry = h.0 in
    let left : filter (λ e. not (is_too_old clock t e)) es ≡ filter (λ e. not (is_too_old clock t e)) all = h.1 in
    let rest : drop c.loop-one.one-index c.args.oldest.now ≡ one ∷ drop (c.loop-one.one-index + 1) c.args.oldest.now = drop_more c.args.oldest.now c.loop-one.one-index one c.loop-one-test.true ∙ ap (λ (o : Oldest). o ∷ drop (c.loop-one.one-index + 1) c.args.oldest.now) (sym c.one-item.is) in
    let later : List Oldest = drop (c.loop-one.one-index + 1) c.args.oldest.now in
    let among = subst (λ (os : List Oldest). AreAmong clock t os es) rest h.2 in
    let waits : filter (stays clock t whom) (units_for whom all) ≡ units_for whom (without_older whom (limit_for clock t whom) es) = young-units clock t whom all ∙ ap (units_for whom) (sym left) ∙ sym (young-units clock t whom es) ∙ sym (c.parts_stay.ensures.older whom (limit_for clock t whom) es) in
    elim (cases_lt one.at (limit_for clock t whom)) [
      | inl lt ↦ (
        without_older whom (limit_for clock t whom) es,
        left-young clock t whom es ∙ left,
        among-aged clock t one later es among,
        c.show_one.ensures.old lt es (without_older whom (limit_for clock t whom) es) (λ other apart. c.parts_stay.ensures.others_older whom other (limit_for clock t whom) es apart) (some-before (limit_for clock t whom) (units_for whom es) (units_for whom (without_older whom (limit_for clock t whom) es)) (c.parts_stay.ensures.older whom (limit_for clock t whom) es)) (ap (λ (us : List DataUnit). nat_lt 0 (length us)) waits) h.3,
      )
      | inr ge ↦ (
        es,
        left,
        among-young clock t one later es ge among,
        subst (λ b. AreWaitedFor b t es) (sym (c.show_one.ensures.young ge)) h.3,
      )
    ]

pub returns : goal.returns
returns c =
    let t : Table = c.args.self.now.stations.table in
    let h = c.loop-one.invariant in
    let none = none-among c.args.clock t h.0 (subst (λ (os : List Oldest). AreAmong c.args.clock t os h.0) (drop_all c.loop-one.one-index c.args.oldest.now c.loop-one-test.false) h.2) in
    subst (λ (es : List Entry). AreWaitedFor c.loop-one.bits t es) (sym none.0 ∙ h.1) h.3
