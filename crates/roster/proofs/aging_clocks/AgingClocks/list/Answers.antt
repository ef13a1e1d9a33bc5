use Rattle.std.proofs.Common.{◌≡◌, ◌∙◌, ◌+◌, ◌∷◌, List, drop, refl, sym, ap, subst, rules}
use Rattle.std.proofs.lemmas.List.{drop_more, drop_all}
use Rattle.powersave.specs.declared.unit.Oldest.{Oldest}
use Rattle.roster.proofs.ClocksKept.{AreListing, listing-begins, listing-goes-on, listing-ends}
use Rattle.roster.proofs.SoonestClock.{soonest-none}
use Rattle.roster.proofs.aging_clocks.AgingClocks.list.Goals as goal

pub loop-one-init : goal.loop-one-init
loop-one-init c = record {
  complete = refl;
  soonest = soonest-none _ _ _ c.clear.ensures.items;
  listing = λ most clock kept sound told once came. listing-begins clock c.args.stations.now.table c.args.oldest.now _ _ kept told once came;
}

pub loop-one-preserved : goal.loop-one-preserved
loop-one-preserved c = record {
  complete = c.list_one.ensures.complete ∙ c.loop-one.invariant.complete;
  soonest = c.list_one.ensures.soonest c.loop-one.invariant.soonest (search rules);
  listing =
      λ most clock kept sound told once came.
      let t = c.args.stations.now.table in
      let before = c.loop-one.self in
      let rest : drop c.loop-one.one-index c.args.oldest.now ≡ c.one-item.result ∷ drop (c.loop-one.one-index + 1) c.args.oldest.now = drop_more c.args.oldest.now c.loop-one.one-index c.one-item.result c.loop-one-test.true ∙ ap (λ (o : Oldest). o ∷ drop (c.loop-one.one-index + 1) c.args.oldest.now) (sym c.one-item.is) in
      listing-goes-on most t c.one-item.result (drop (c.loop-one.one-index + 1) c.args.oldest.now) before.clocks.items c.list_one.new.self.clocks.items before.aids.items c.list_one.new.self.aids.items kept sound
      (subst (λ (os : List Oldest). AreListing t os before.clocks.items before.aids.items kept) rest (c.loop-one.invariant.listing most clock kept sound told once came))
      (c.list_one.ensures.listed (search rules));
}

pub returns-clause-soonest : goal.returns-clause-soonest
returns-clause-soonest c complete = c.loop-one.invariant.soonest

pub returns-clause-clocks : goal.returns-clause-clocks
returns-clause-clocks c most clock kept sound told once came complete =
    let t = c.args.stations.now.table in
    let rest = drop_all c.loop-one.one-index c.args.oldest.now c.loop-one-test.false in
    listing-ends t c.loop-one.self.clocks.items c.loop-one.self.aids.items kept
    (subst (λ (os : List Oldest). AreListing t os c.loop-one.self.clocks.items c.loop-one.self.aids.items kept) rest (c.loop-one.invariant.listing most clock kept sound told once came))
