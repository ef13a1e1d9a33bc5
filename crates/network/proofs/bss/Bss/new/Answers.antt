use Rattle.network.proofs.Histories.{history-none}
use Rattle.network.proofs.bss.Bss.new.Goals as goal

pub invariant_of-result : goal.invariant_of-result
invariant_of-result c = rw (c.new.ensures.items, c.new-2.ensures, c.new-4.ensures.items) (history-none _ c.requires.network, λ h. absurd cc)
