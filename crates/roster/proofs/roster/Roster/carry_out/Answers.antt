use Rattle.std.proofs.Common.{◌≡◌, ◌∙◌, ◌++◌, Bool, true, false, not, List, length, Option, Some, None, option_map, option_to_list, refl, sym, ap}
use Rattle.std.specs.Prelude.{filter}
use Rattle.std.proofs.lemmas.List.{append-nil}
use Rattle.std.proofs.lemmas.Option.{none-some}
use Rattle.powersave.specs.Keep.{Entry}
use Rattle.roster.specs.Keeping.{without, kept_after, entry_of}
use Rattle.roster.specs.Roster.{RosterState, is_aged}
use Rattle.stations.specs.Stations.{Table}
use Rattle.roster.specs.declared.keeping.Arriving.{Arriving}
use Rattle.roster.specs.declared.keeping.Leaving.{Leaving}
use Rattle.roster.proofs.Aging.{same-aged, young}
use Rattle.roster.proofs.roster.Roster.carry_out.Goals as goal

-- where one comes, none ages
not-aging : {P : Type 0} (ages : Bool) (o : Option Arriving) (a : Arriving) → o ≡ Some a → (ages ≡ true → P × (o ≡ None)) → ages ≡ false
not-aging true o a comes still = absurd (none-some a (sym (still refl).1 ∙ comes))
not-aging false o a comes still = refl

pub returns-in_default-clause-entries : goal.returns-in_default-clause-entries
returns-in_default-clause-entries c =
    let ages = c.args.ages in
    let clock = c.args.clock in
    let leaving = c.args.keeping.leaving in
    let t : Table = c.args.self.now.stations.table in
    let es : List Entry = c.args.self.now.kept.entries in
    let young_ones : List Entry = filter (λ e. not (is_aged ages clock t e)) es in
    let left =
    c.age_if-dropped.ensures.entries
    ∙ ap (λ (r : RosterState). filter (λ e. not (is_aged ages clock r.stations.table e)) r.kept.entries) c.in_ok-change.ensures.ok
    ∙ ap (λ (p : Entry → Bool). filter (λ e. not (p e)) es) (same-aged ages clock c.args.change t (λ on. (c.requires.still on).0)) in
    ap (λ (r : RosterState). r.kept.entries) c.leave.ensures
    ∙ ap (without leaving) left
    ∙ sym (append-nil (without leaving young_ones))
    ∙ ap (λ (a : Option Arriving). without leaving young_ones ++ option_to_list (option_map entry_of a)) (sym c.in_default.is)

pub returns-clause-count : goal.returns-clause-count
returns-clause-count c =
    let off = not-aging c.args.ages c.args.keeping.arriving c.in-Some.arriving c.in-Some.is c.requires.still in
    sym (ap (λ (es : List Entry). length es) (young c.args.ages c.args.clock c.args.self.now.stations.table c.args.self.now.kept.entries off).1)

pub returns-clause-entries : goal.returns-clause-entries
returns-clause-entries c =
    let es : List Entry = c.args.self.now.kept.entries in
    let off = not-aging c.args.ages c.args.keeping.arriving c.in-Some.arriving c.in-Some.is c.requires.still in
    ap (λ (r : RosterState). r.kept.entries) c.in_ok-keep.ensures.ok
    ∙ ap (λ (a : Option Arriving). without c.args.keeping.leaving es ++ option_to_list (option_map entry_of a)) (sym c.in-Some.is)
    ∙ ap (kept_after c.args.keeping) (sym (young c.args.ages c.args.clock c.args.self.now.stations.table es off).0)

-- where no station changes and no unit leaves or ages, all stays
pub returns-then-is_settled-clause-count : goal.returns-then-is_settled-clause-count
returns-then-is_settled-clause-count c =
    let settled = c.is_settled.ensures c.if-is_settled.true in
    sym (ap (λ (es : List Entry). length es) (young c.args.ages c.args.clock c.args.self.now.stations.table c.args.self.now.kept.entries settled.2).1)

pub returns-then-is_settled-clause-entries : goal.returns-then-is_settled-clause-entries
returns-then-is_settled-clause-entries c =
    let settled = c.is_settled.ensures c.if-is_settled.true in
    let es : List Entry = c.args.self.now.kept.entries in
    let stays = young c.args.ages c.args.clock c.args.self.now.stations.table es settled.2 in
    sym (ap (λ (leaving : Leaving). without leaving (filter (λ e. not (is_aged c.args.ages c.args.clock c.args.self.now.stations.table e)) es) ++ option_to_list (option_map entry_of c.args.keeping.arriving)) settled.1
    ∙ ap (λ (a : Option Arriving). filter (λ e. not (is_aged c.args.ages c.args.clock c.args.self.now.stations.table e)) es ++ option_to_list (option_map entry_of a)) c.in_default.is
    ∙ append-nil (filter (λ e. not (is_aged c.args.ages c.args.clock c.args.self.now.stations.table e)) es) ∙ stays.0)
