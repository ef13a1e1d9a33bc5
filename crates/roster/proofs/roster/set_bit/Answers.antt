use Rattle.std.proofs.Common.{◌∙◌, ℕ, ◌||◌, Option, sym, ap}
use Rattle.std.specs.FinSet as set
use Rattle.std.specs.FinSet.{contains-insert}
use Rattle.std.specs.Cmp.{nat_cmp_total, unsigned_tied}
use Rattle.roster.specs.Roster.{is_number}
use Rattle.roster.proofs.roster.set_bit.Goals as goal

pub returns-in-Some : goal.returns-in-Some
returns-in-Some c n =
    ap (λ s. set.contains s n) c.set.ensures ∙ contains-insert nat_cmp_total c.args.traffic.now c.in-Some.aid n
    ∙ ap (λ b. b || set.contains c.args.traffic.now n) (unsigned_tied n c.in-Some.aid)
    ∙ ap (λ (o : Option ℕ). is_number o n || set.contains c.args.traffic.now n) (sym c.in-Some.is)
