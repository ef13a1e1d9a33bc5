use Rattle.std.proofs.Common.{◌≡◌, ◌++◌, None, map}
use Rattle.std.specs.List.{AllByRecursion}
use Rattle.std.specs.Vec.Iter.{into_iter_items}
use Rattle.ap_config.specs.Configuration.{network_fault}
use Rattle.network.proofs.opening.open_networks.Given as goal

-- those that are to come have no fault, and with those that were opened they are all
abbrev pub invariant-loop-network : goal.invariant-loop-network
invariant-loop-network g l = record {
  sound : AllByRecursion (λ n. network_fault n ≡ None) (into_iter_items l.network-iterator);
  made :
      l.made.items
      ++ map (λ n. g.N.Open.opened (record { channel = l.channel; interval = l.interval; network = n })) (into_iter_items l.network-iterator)
      ≡ map (λ n. g.N.Open.opened (record { channel = l.channel; interval = l.interval; network = n })) l.fn.networks;
}
