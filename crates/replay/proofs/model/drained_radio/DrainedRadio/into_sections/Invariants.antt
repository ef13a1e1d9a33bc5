use Rattle.std.proofs.Common.{◌≡◌, ◌++◌, map}
use Rattle.std.specs.List.{zip}
use Rattle.std.specs.Vec.Iter.{into_iter_items}
use Rattle.network.specs.BssView.{section_with}
use Rattle.replay.proofs.model.drained_radio.DrainedRadio.into_sections.Given as goal

abbrev pub invariant-loop-network : goal.invariant-loop-network
invariant-loop-network l = record {
  made : l.sections.items ≡ map (λ p. section_with p.1.items p.0) l.yielded;
  all : l.yielded ++ zip (into_iter_items l.network-iterator.a) (into_iter_items l.network-iterator.b)
      ≡ zip (into_iter_items l.initial.network-iterator.a) (into_iter_items l.initial.network-iterator.b);
}
