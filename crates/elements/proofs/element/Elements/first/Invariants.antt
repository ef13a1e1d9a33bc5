use Rattle.std.proofs.Common.{◌≡◌}
use Rattle.elements.specs.Elements.{first_of}
use Rattle.elements.proofs.element.Elements.first.Given as goal

-- the elements that were passed have another element ID
abbrev pub invariant-loop-element : goal.invariant-loop-element
invariant-loop-element l =
    (goal.iterator-loop-element).can_next l.element-iterator ×
    (goal.iterator-loop-element).is_finite l.element-iterator ×
    (first_of l.id l.self ≡ first_of l.id l.element-iterator)
