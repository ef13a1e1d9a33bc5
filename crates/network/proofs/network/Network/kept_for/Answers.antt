use Rattle.std.proofs.Common.{◌≡◌, ◌∙◌, length, ap, arith}
use Rattle.powersave.specs.Keep.{Kept, units_for}
use Rattle.powersave.specs.declared.unit.Whom.TheVariants.{One}
use Rattle.network.proofs.network.Network.kept_for.Goals as goal

pub overflow_cast-result : goal.overflow_cast-result
overflow_cast-result c =
    let count : c.count_for.result ≡ length (units_for (One c.args.addr) c.self.inside.roster.kept.entries) = c.count_for.ensures ∙ ap (λ (k : Kept). length (units_for (One c.args.addr) k.entries)) c.kept.ensures in
    omega (arith, count, c.kept_counts.ensures.parted (One c.args.addr) c.self.inside.roster.kept.entries, c.self.invariant.sound.quota, c.checked_numbers.ensures.quota c.self.inside.setting.network c.self.invariant.accepted)
