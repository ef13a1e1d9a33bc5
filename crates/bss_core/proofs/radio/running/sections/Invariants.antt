use Rattle.std.proofs.Common.{◌≡◌, ◌++◌, length, map}
use Rattle.std.specs.List.{enumerate_from}
use Rattle.std.specs.Vec.Iter.{into_iter_items}
use Rattle.network.specs.BssView.{section_with}
use Rattle.bss_core.specs.Running.{frames_of, sections_with}
use Rattle.bss_core.proofs.radio.running.sections.Given as goal

-- the sections so far, and those of the networks that are to come
abbrev pub invariant-loop-network : goal.invariant-loop-network
invariant-loop-network l =
    l.sections.items ++ map (λ n. section_with (frames_of l.left l.queued n.0 n.1) n.1) (enumerate_from (length l.sections.items) (into_iter_items l.network-iterator))
    ≡ sections_with l.left l.queued l.fn.networks
