use Rattle.std.proofs.Common.{◌≡◌, ◌∙◌, ◌++◌, true, false, not, List, length, Option, Some, None, is_some, option_map, option_to_list, refl, sym, ap}
use Rattle.std.specs.Prelude.{filter}
use Rattle.std.proofs.lemmas.Bool.{both_ways}
use Rattle.std.proofs.lemmas.List.{append-nil}
use Rattle.powersave.specs.Keep.{Entry}
use Rattle.roster.specs.Keeping.{without, entry_of}
use Rattle.roster.specs.Roster.{is_aged}
use Rattle.roster.specs.declared.keeping.Arriving.{Arriving}
use Rattle.roster.specs.declared.keeping.Leaving.{Leaving}
use Rattle.roster.proofs.Aging.{young}
use Rattle.roster.proofs.roster.Roster.carry_out_from.Goals as goal

none-from : {X : Type 0} (o : Option X) → is_some o ≡ false → o ≡ None
none-from None h = refl
none-from (Some x) h = absurd (both_ways true h refl)

-- where nothing has to be done, all stays
pub returns-then-is_settled-clause-count : goal.returns-then-is_settled-clause-count
returns-then-is_settled-clause-count c =
    let settled = c.is_settled.ensures c.if-is_settled.true in
    sym (ap (λ (es : List Entry). length es) (young c.args.ages c.args.clock c.args.self.now.stations.table c.args.self.now.kept.entries settled.2).1)

pub returns-then-is_settled-clause-entries : goal.returns-then-is_settled-clause-entries
returns-then-is_settled-clause-entries c =
    let settled = c.is_settled.ensures c.if-is_settled.true in
    let es : List Entry = c.args.self.now.kept.entries in
    let young_ones : List Entry = filter (λ e. not (is_aged c.args.ages c.args.clock c.args.self.now.stations.table e)) es in
    let stays = young c.args.ages c.args.clock c.args.self.now.stations.table es settled.2 in
    let none : c.args.keeping.now.arriving ≡ None = none-from c.args.keeping.now.arriving (c.is_none.ensures ∙ ap not c.if-is_none.true) in
    sym (ap (λ (leaving : Leaving). without leaving young_ones ++ option_to_list (option_map entry_of c.args.keeping.now.arriving)) settled.1
    ∙ ap (λ (a : Option Arriving). young_ones ++ option_to_list (option_map entry_of a)) none
    ∙ append-nil young_ones ∙ stays.0)
