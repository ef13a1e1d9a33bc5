use Rattle.std.proofs.Common.{◌∙◌, List, length, sym, ap}
use Rattle.std.specs.Prelude.{nat_lt}
use Rattle.powersave.specs.Keep.{Entry, units_for}
use Rattle.powersave.specs.declared.unit.Whom.TheVariants.{Group}
use Rattle.network.proofs.network.Network.group_is_kept.Goals as goal

pub returns : goal.returns
returns c =
    ap (nat_lt 0) (c.count_for.ensures ∙ ap (λ (es : List Entry). length (units_for Group es)) c.kept.ensures.entries)
    ∙ sym (c.kept_counts.ensures.any Group c.args.self.now.network.kept)
