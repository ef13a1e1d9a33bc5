use Rattle.std.proofs.Common.{◌≡◌, ◌∙◌, ◌<◌, ℕ, List, length, get_or, set, slice_get, Some, Option, refl, sym, ap, subst, arith}
use Rattle.std.specs.Option.{IsSomeAnd}
use Rattle.std.proofs.lemmas.Option.{slice_get-get_or, slice_get_within}
use Rattle.powersave.specs.Keep.{Entry}
use Rattle.roster.specs.AgingClocks.{HaveClocks, IsNoSooner, IsSetAt}
use Rattle.stations.specs.Stations.{Table}
use Rattle.roster.specs.declared.aging_clocks.AgingClock.{AgingClock}
use Rattle.roster.proofs.ClocksKept.{get-set, get-set_other, looked-up, looked-up_due}
use Rattle.roster.proofs.aging_clocks.AgingClocks.look_up.Goals as goal
use Rattle.roster.proofs.aging_clocks.AgingClocks.look_up.Goals.{then-is_due, else-is_due}

pub returns-clause-clocks : goal.returns-clause-clocks
returns-clause-clocks c most last sound came h =
    let t : Table = c.args.stations.now.table in
    let es : List Entry = c.args.kept.now.entries in
    let clocks : List AgingClock = c.args.self.now.clocks.items in
    let aids : List ℕ = c.args.self.now.aids.items in
    let n : ℕ = c.from-index.result in
    let old : AgingClock = c.index-2.result.now in
    let was : slice_get clocks n ≡ Some old = slice_get-get_or clocks n old (omega (arith, c.if-index-len.false, c.len.ensures)) ∙ ap Some (sym c.index-2.ensures) in
    elim c.if-is_due.branch [
      | then-is_due w ↦
          subst (λ (x : AgingClock). HaveClocks (set clocks n x) aids t es) (sym w.one-is)
          (looked-up_due last t es clocks aids n old _ came was (w.look_up.ensures.addr, w.look_up.ensures.at, w.look_up.ensures.listen) h)
      | else-is_due w ↦
          subst (λ (x : AgingClock). HaveClocks (set clocks n x) aids t es) (sym w.one-is)
          (looked-up last t es clocks aids n old _ came was (λ addr at own. own) h)
    ]

-- the identifier of the place is the index
the-place : (aids : List ℕ) (place n index default : ℕ) → place < length aids → slice_get aids place ≡ Some n → index ≡ get_or aids place default → index ≡ n
the-place aids place n index default within is at = let some : Some index ≡ Some n = ap Some at ∙ sym (slice_get-get_or aids place default within) ∙ is in cc

pub returns-then-index-len-clause-set : goal.returns-then-index-len-clause-set
returns-then-index-len-clause-set c n is =
    let same = the-place c.args.self.now.aids.items c.args.place n c.from-index.result c.index.result.now c.requires is (c.from-index.ensures ∙ c.index.ensures) in
    (λ m other. refl, λ k here. absurd (omega (arith, slice_get_within c.args.self.now.clocks.items n k here, same, c.if-index-len.true, c.len.ensures)))

pub returns-clause-set : goal.returns-clause-set
returns-clause-set c n is =
    let clocks : List AgingClock = c.args.self.now.clocks.items in
    let at : ℕ = c.from-index.result in
    let same = the-place c.args.self.now.aids.items c.args.place n at c.index.result.now c.requires is (c.from-index.ensures ∙ c.index.ensures) in
    subst (λ (m : ℕ). IsSetAt m c.young_until.result clocks (set clocks at c.if-is_due.one)) same
    (λ m other. get-set_other clocks at m c.if-is_due.one other, λ k here. subst (λ (o : Option AgingClock). IsSomeAnd o (IsNoSooner c.young_until.result)) (sym (get-set clocks at c.if-is_due.one (omega (arith, c.if-index-len.false, c.len.ensures)))) c.young_until.ensures)
