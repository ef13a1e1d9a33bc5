use Rattle.std.proofs.Common.{◌≡◌, length}
use Rattle.std.specs.Option.{is_some}
use Rattle.elements.specs.Elements.{elements_of}
use Rattle.elements.proofs.element.are_elements.Given as goal

-- the body has elements exactly where the rest has
abbrev pub invariant-loop-others : goal.invariant-loop-others
invariant-loop-others l = is_some (elements_of l.body) ≡ is_some (elements_of l.rest)

abbrev pub decreases-loop-others : goal.decreases-loop-others
decreases-loop-others l = length l.rest
