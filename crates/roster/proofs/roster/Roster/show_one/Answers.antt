use Rattle.std.proofs.Common.{◌≡◌, ◌∙◌, ℕ, true, false, not, List, length, sym, ap, subst, arith}
use Rattle.std.specs.Prelude.{filter, nat_lt}
use Rattle.powersave.specs.Keep.{units_for}
use Rattle.powersave.specs.declared.unit.Unit.{Unit as DataUnit}
use Rattle.roster.specs.Roster.{RosterState, Follows}
use Rattle.roster.proofs.WaitedFor.{still-shown}
use Rattle.roster.proofs.roster.Roster.show_one.Goals as goal
use Rattle.roster.proofs.roster.Roster.show_one.Goals.{else-one-limit-via-then-one-limit+else-not-some_stay, else-one-limit-via-else-one-limit}

pub returns-then-not-some_stay-clause-old : goal.returns-then-not-some_stay-clause-old
returns-then-not-some_stay-clause-old c lt before after stay some waits told =
    let whom = c.args.one.now.whom in
    let us : List DataUnit = units_for whom c.args.self.now.kept.entries in
    let stays = c.some_stay.ensures ∙ ap (λ (k : ℕ). nat_lt 0 (length (filter (λ (unit : DataUnit). not (nat_lt unit.at k)) us))) c.limit_for-limit.ensures in
    let none : false ≡ nat_lt 0 (length (units_for whom after)) = sym c.if-not-some_stay.true ∙ stays ∙ waits in
    let follows = subst (λ (r : RosterState). Follows r.stations whom false c.args.bits.now c.follow.new.traffic) c.self.view_is (c.follow.ensures c.self.invariant.sound) in
    follows before after stay none told

pub returns-else-one-limit-clause-old : goal.returns-else-one-limit-clause-old
returns-else-one-limit-clause-old c lt before after stay some waits told =
    let whom = c.args.one.now.whom in
    let us : List DataUnit = units_for whom c.args.self.now.kept.entries in
    elim c.else-one-limit.branch [
      | else-one-limit-via-then-one-limit+else-not-some_stay w ↦
          let stays = w.some_stay.ensures ∙ ap (λ (k : ℕ). nat_lt 0 (length (filter (λ (unit : DataUnit). not (nat_lt unit.at k)) us))) c.limit_for-limit.ensures in
          let left : nat_lt 0 (length (units_for whom after)) ≡ true = sym waits ∙ sym stays ∙ w.if-not-some_stay.false in
          still-shown whom c.args.self.now.stations.table before after c.args.bits.now stay some left told
      | else-one-limit-via-else-one-limit w ↦ absurd (omega (arith, lt, w.if-one-limit.false, c.limit_for-limit.ensures))
    ]
