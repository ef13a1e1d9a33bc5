use Rattle.std.proofs.Common.{◌≡◌, List, length, ap, arith}
use Rattle.powersave.specs.Keep.{Entry, without_all}
use Rattle.roster.specs.Keeping.{without}
use Rattle.roster.specs.declared.keeping.Leaving.{Leaving}
use Rattle.roster.proofs.UnitsKept.{length-parted}
use Rattle.roster.proofs.keeping.Leaving.len_after.Goals as goal

pub overflow_sub-result : goal.overflow_sub-result
overflow_sub-result c = omega (arith, c.count_for.ensures, c.len-in-All.ensures, length-parted c.in-All.whom c.args.keep.now.entries)

pub returns-in-All : goal.returns-in-All
returns-in-All c =
    let es : List Entry = c.args.keep.now.entries in
    let gone : length (without c.args.self.now es) ≡ length (without_all c.in-All.whom es) = ap (λ (l : Leaving). length (without l es)) c.in-All.is in
    omega (arith, gone, c.count_for.ensures, c.len-in-All.ensures, length-parted c.in-All.whom es)
