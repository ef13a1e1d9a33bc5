use Rattle.std.proofs.Common.{length, ap, arith}
use Rattle.powersave.specs.Keep.{Kept}
use Rattle.network.proofs.network.Network.kept_len.Goals as goal

pub overflow_cast-result : goal.overflow_cast-result
overflow_cast-result c =
    omega (arith, c.len.ensures, ap (λ (k : Kept). length k.entries) c.kept.ensures, c.self.invariant.sound.quota, c.checked_numbers.ensures.quota c.self.inside.setting.network c.self.invariant.accepted)
