use Rattle.std.proofs.Common.{drop}
use Rattle.workers.specs.Receipts.{AreThere}
use Rattle.workers.proofs.receipts.are_there.Given as goal

abbrev pub invariant-loop-entry : goal.invariant-loop-entry
invariant-loop-entry l = AreThere l.networks (drop l.entry-index l.entries) → AreThere l.networks l.entries
