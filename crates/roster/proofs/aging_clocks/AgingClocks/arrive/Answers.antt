use Rattle.std.proofs.Common.{◌≡◌, ◌∙◌, ℕ, Bool, true, IsTrue, rules, List, refl, sym, ap, arith}
use Rattle.powersave.specs.declared.unit.Whom.{Whom}
use Rattle.roster.specs.Keeping.{aid_for}
use Rattle.stations.specs.Stations.{Table, listen_with}
use Rattle.roster.proofs.ClocksKept.{noted, entered}
use Rattle.roster.proofs.aging_clocks.AgingClocks.arrive.Goals as goal
use Rattle.roster.proofs.aging_clocks.AgingClocks.arrive.Goals.{then-has, else-has}

noted-so : {a b : Bool} → a ≡ b → a ≡ true → IsTrue b
noted-so {a} {b} same is = search rules

pub returns-after-has-clause-clocks : goal.returns-after-has-clause-clocks
returns-after-has-clause-clocks c most kept sound aid told before complete =
    let table : Table = c.args.stations.now.table in
    let addr : List ℕ = c.in-One-Some.addr in
    let n : ℕ = c.in-One-Some.aid in
    let all = c.if-not-self.false in
    let own = sym (ap (λ (w : Whom). aid_for w table) c.in-One-Some.is-0) ∙ sym aid ∙ c.in-One-Some.is-1 in
    elim c.if-has.branch [
      | then-has w ↦
          let done = noted c.identifiers_differ.ensures most table kept c.args.traffic.now c.args.self.now.clocks.items w.note-self.new.self.clocks.items c.args.self.now.aids.items addr c.args.at n sound own told (sym c.has.ensures ∙ w.if-has.true) (w.note-self.ensures.clocks (noted-so w.self2-is complete)) (before all) in
          rw (w.self-is, w.note-self.ensures.aids, c.in-One-Some.is-0) done
      | else-has w ↦
          let step = w.enter-self.ensures.entered (noted-so w.self2-is complete) in
          let done = entered c.identifiers_differ.ensures most table kept c.args.traffic.now c.args.self.now.clocks.items w.enter-self.new.self.clocks.items c.args.self.now.aids.items w.enter-self.new.self.aids.items addr c.args.at n _ sound own told (sym c.has.ensures ∙ w.if-has.false) (refl, omega arith, omega (arith, w.listen_with.ensures, ap listen_with w.state_of.ensures)) step.1 (before all) in
          rw (w.self-is, c.in-One-Some.is-0) done
    ]

pub returns-after-has-clause-soonest : goal.returns-after-has-clause-soonest
returns-after-has-clause-soonest c before complete =
    let all = c.if-not-self.false in
    elim c.if-has.branch [
      | then-has w ↦ rw (w.self-is, w.note-self.ensures.aids) (w.note-self.ensures.soonest (before all))
      | else-has w ↦ rw w.self-is (w.enter-self.ensures.soonest (before all) (noted-so w.self2-is complete))
    ]
