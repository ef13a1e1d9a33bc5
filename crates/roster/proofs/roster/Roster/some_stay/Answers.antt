use Rattle.std.proofs.Common.{◌≡◌, ◌∙◌, ℕ, ◌+◌, ◌-◌, not, List, [], ◌∷◌, length, Some, None, refl, sym, ap, subst, arith}
use Rattle.std.specs.Prelude.{filter, nat_lt}
use Rattle.std.specs.List.{slice_get}
use Rattle.std.specs.Option.{option_copied}
use Rattle.std.proofs.lemmas.Bool.{le-ltb}
use Rattle.std.proofs.lemmas.Option.{slice_get_within, slice_get-get_or}
use Rattle.powersave.specs.Keep.{units_for, CameInOrder}
use Rattle.powersave.specs.declared.unit.Unit.{Unit as DataUnit}
use Rattle.roster.specs.Roster.{RosterState}
use Rattle.roster.proofs.RosterAging.{last-stays}
use Rattle.roster.proofs.roster.Roster.some_stay.Goals as goal

-- where none is the last there is none
none-last : (us : List DataUnit) (k : ℕ) → k ≡ length us - 1 → slice_get us k ≡ None → us ≡ []
none-last [] k at none = refl
none-last (u ∷ us) k at none = let some = slice_get-get_or (u ∷ us) k u (omega (arith, at)) in absurd (cc)

pub returns-in-Some : goal.returns-in-Some
returns-in-Some c =
    let whom = c.args.whom.now in
    let limit = c.args.limit in
    let us : List DataUnit = units_for whom c.self.inside.kept.entries in
    let place : ℕ = c.saturating_sub.result in
    let unit : DataUnit = c.in-Some.unit.now in
    let here : slice_get us place ≡ Some unit = sym c.nth.ensures ∙ ap option_copied c.in-Some.is in
    let len : place + 1 ≡ length us = omega (arith, slice_get_within us place unit here, c.saturating_sub.ensures, c.count_for-count.ensures) in
    let order = subst (λ (r : RosterState). CameInOrder (units_for whom r.kept.entries)) (sym c.self.view_is) c.requires in
    last-stays limit us place unit order len here
    ∙ ap (λ (r : RosterState). nat_lt 0 (length (filter (λ (v : DataUnit). not (nat_lt v.at limit)) (units_for whom r.kept.entries)))) c.self.view_is

pub returns-in-None : goal.returns-in-None
returns-in-None c =
    let whom = c.args.whom.now in
    let limit = c.args.limit in
    let us : List DataUnit = units_for whom c.self.inside.kept.entries in
    let place : ℕ = c.saturating_sub.result in
    let none : us ≡ [] = none-last us place (omega (arith, c.saturating_sub.ensures, c.count_for-count.ensures)) (sym c.nth.ensures ∙ ap option_copied c.in-None.is) in
    sym (le-ltb 0 0 (omega arith))
    ∙ ap (λ (vs : List DataUnit). nat_lt 0 (length (filter (λ (v : DataUnit). not (nat_lt v.at limit)) vs))) (sym none)
    ∙ ap (λ (r : RosterState). nat_lt 0 (length (filter (λ (v : DataUnit). not (nat_lt v.at limit)) (units_for whom r.kept.entries)))) c.self.view_is
