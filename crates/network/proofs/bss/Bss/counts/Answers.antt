use Rattle.std.proofs.Common.{arith}
use Rattle.network.proofs.Histories.{history-sound}
use Rattle.network.proofs.bss.Bss.counts.Goals as goal

pub overflow_cast-result-2 : goal.overflow_cast-result-2
overflow_cast-result-2 c =
    omega (arith, c.unread.ensures, (history-sound c.reachable.ensures _ _ _ c.self.invariant.0).unread, c.self.invariant.0.bounded, c.checked_numbers.ensures.events c.self.inside.network.setting.network c.self.invariant.0.sound)

pub overflow_cast-result-3 : goal.overflow_cast-result-3
overflow_cast-result-3 c =
    omega (arith, c.lost.ensures, (history-sound c.reachable.ensures _ _ _ c.self.invariant.0).lost, c.self.invariant.0.bounded, c.checked_numbers.ensures.events c.self.inside.network.setting.network c.self.invariant.0.sound)
