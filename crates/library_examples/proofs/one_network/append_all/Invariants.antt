use Rattle.std.proofs.Common.{◌≡◌, ◌++◌, List, ℕ, take}
use Rattle.std.specs.Prelude.{flat_map}
use Rattle.library_examples.proofs.one_network.append_all.Given as goal

-- the frames so far are appended
abbrev pub invariant-loop-frame : goal.invariant-loop-frame
invariant-loop-frame l = l.out ≡ l.initial.out ++ flat_map (λ (frame : List ℕ). frame) (take l.frame-index l.others)
