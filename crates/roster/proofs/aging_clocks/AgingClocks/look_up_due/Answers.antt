use Rattle.std.proofs.Common.{◌∙◌, ◌+◌, ℕ, List, drop, get_or, slice_get, refl, sym, ap, subst, arith}
use Rattle.std.specs.FinSet as set
use Rattle.std.proofs.lemmas.List.{drop_more, drop_all}
use Rattle.std.proofs.lemmas.Option.{slice_get-get_or}
use Rattle.tim.specs.Tim.{is_shown}
use Rattle.roster.specs.AgingClocks.{HaveClocks, AreNoSooner}
use Rattle.roster.specs.declared.aging_clocks.AgingClock.{AgingClock}
use Rattle.roster.proofs.ClocksKept.{gone-dropped}
use Rattle.roster.proofs.SoonestClock.{AreNoSoonerBut, soonest-begins, soonest-goes-on, soonest-ends}
use Rattle.roster.proofs.aging_clocks.AgingClocks.look_up_due.Goals as goal

pub loop-place-init : goal.loop-place-init
loop-place-init c = record {
  complete = refl;
  aids = refl;
  clocks = λ most last sound came h. h;
  soonest =
      λ h.
      soonest-begins c.args.self.now.soonest _ c.args.self.now.clocks.items c.drop_gone.new.self.clocks.items (is_shown (set.contains c.args.traffic.now)) c.args.self.now.aids.items c.drop_gone.new.self.aids.items c.drop_gone.ensures.clocks c.drop_gone.ensures.aids h;
}

pub loop-place-preserved : goal.loop-place-preserved
loop-place-preserved c =
    let before = c.loop-place.invariant in
    let told = c.look_up-young_until.ensures in
    let aids : List ℕ = c.drop_gone.new.self.aids.items in
    let n : ℕ = get_or aids c.loop-place.place 0 in
    let t = c.args.stations.now.table in
    let es = c.args.kept.now.entries in
    record {
      complete = told.complete ∙ before.complete;
      aids = told.aids ∙ before.aids;
      clocks =
          λ most last sound came h.
          subst (λ (aids : List ℕ). HaveClocks c.look_up-young_until.new.self.clocks.items aids t es) (sym told.aids) (told.clocks most last sound came (before.clocks most last sound came h));
      soonest =
          λ h.
          soonest-goes-on c.loop-place.soonest c.look_up-young_until.result c.min-soonest.result n c.loop-place.self.clocks.items c.look_up-young_until.new.self.clocks.items aids (drop (c.loop-place.place + 1) aids)
          (omega (arith, c.min-soonest.ensures)) (omega (arith, c.min-soonest.ensures))
          (told.set n (ap (λ (ns : List ℕ). slice_get ns c.loop-place.place) before.aids ∙ slice_get-get_or aids c.loop-place.place 0 (omega (arith, c.loop-place-test.true, c.len-place-end.ensures))))
          (subst (λ (ns : List ℕ). AreNoSoonerBut c.loop-place.soonest c.loop-place.self.clocks.items aids ns) (drop_more aids c.loop-place.place 0 (omega (arith, c.loop-place-test.true, c.len-place-end.ensures))) (before.soonest h));
    }

pub returns-clause-clocks : goal.returns-clause-clocks
returns-clause-clocks c most last sound came told h =
    let t = c.args.stations.now.table in
    let es = c.args.kept.now.entries in
    let dropped = gone-dropped c.identifiers_differ.ensures most t es c.args.traffic.now c.args.self.now.clocks.items c.args.self.now.aids.items sound told h in
    c.loop-place.invariant.clocks most last sound came
    (subst (λ (clocks : List AgingClock). HaveClocks clocks c.drop_gone.new.self.aids.items t es) (sym c.drop_gone.ensures.clocks)
    (subst (λ (aids : List ℕ). HaveClocks c.args.self.now.clocks.items aids t es) (sym c.drop_gone.ensures.aids) dropped))

pub returns-clause-soonest : goal.returns-clause-soonest
returns-clause-soonest c h =
    let aids : List ℕ = c.drop_gone.new.self.aids.items in
    let before = c.loop-place.invariant in
    subst (λ (ns : List ℕ). AreNoSooner c.loop-place.soonest c.loop-place.self.clocks.items ns) (sym before.aids)
    (soonest-ends c.loop-place.soonest c.loop-place.self.clocks.items aids
    (subst (λ (ns : List ℕ). AreNoSoonerBut c.loop-place.soonest c.loop-place.self.clocks.items aids ns) (drop_all c.loop-place.place aids (omega (arith, c.loop-place-test.false, c.len-place-end.ensures))) (before.soonest h)))
