use Rattle.std.proofs.Common.{◌≡◌, ◌∙◌, ℕ, List, Option, length, refl, sym, ap, subst}
use Rattle.std.specs.Prelude.{nat_lt}
use Rattle.powersave.specs.Keep.{units_for}
use Rattle.powersave.specs.declared.unit.Whom.{Whom}
use Rattle.powersave.specs.declared.unit.Whom.TheVariants.{One, Group}
use Rattle.roster.specs.Roster.{StayBeside}
use Rattle.stations.specs.Stations.{Table}
use Rattle.roster.proofs.WaitedFor.{AreShown, followed, group-waits_not}
use Rattle.roster.proofs.roster.follow.Goals as goal

group-of : (w : Whom) → ((addr : List ℕ) → w ≡ One addr → ⊥) → w ≡ Group
group-of (One addr) other = absurd (other addr refl)
group-of Group other = refl

pub returns-in_default : goal.returns-in_default
returns-in_default c sound before after stay waits told n aid =
    let group : c.args.whom.now ≡ Group = group-of c.args.whom.now c.in_default.not-One in
    told n aid ∙ sym (group-waits_not c.args.stations.now.table before after n (subst (λ (w : Whom). StayBeside w before after) group stay))

pub returns : goal.returns
returns c sound before after stay waits told =
    let addr : List ℕ = c.in-One.addr in
    let t : Table = c.args.stations.now.table in
    let shown = subst (λ (o : Option ℕ). AreShown o o c.args.waits c.args.traffic.now c.show.new.traffic) c.aid_of-aid.ensures.aid c.show.ensures in
    followed c.others_stay.ensures c.identifiers_differ.ensures addr t before after c.args.traffic.now c.show.new.traffic c.args.waits sound.addresses sound.aids (subst (λ (w : Whom). StayBeside w before after) c.in-One.is stay)
    (waits ∙ ap (λ (w : Whom). nat_lt 0 (length (units_for w after))) c.in-One.is) shown told
