use Rattle.std.proofs.Common.{◌≡◌, ◌∙◌, ◌<◌, ◌≤◌, ◌+◌, ℕ, not, List, ◌∷◌, length, drop, refl, sym, ap, subst, arith, inl, inr}
use Rattle.std.specs.Prelude.{filter}
use Rattle.std.proofs.lemmas.Bool.{cases_lt}
use Rattle.std.proofs.lemmas.List.{drop_more, drop_all}
use Rattle.powersave.specs.Keep.{Entry, is_older, without_older, room_beside}
use Rattle.powersave.specs.declared.unit.Oldest.{Oldest}
use Rattle.powersave.specs.declared.unit.Whom.{Whom}
use Rattle.roster.specs.Roster.{RosterState, AreAmong, limit_for}
use Rattle.roster.specs.KeptUnits.{CameBy, is_too_old}
use Rattle.stations.specs.Stations.{Table, StationTable}
use Rattle.roster.proofs.Aging.{came-filtered, in-order}
use Rattle.roster.proofs.RosterAging.{left-young, left-count, among-aged, among-young, none-among}
use Rattle.roster.proofs.UnitsLeft.{no_more}
use Rattle.roster.proofs.roster.Roster.age.Goals as goal

-- what becomes of the units where those for one are looked at
record Aged (clock : ℕ) (t : Table) (rest : List Oldest) (dropped : ℕ) (old new : RosterState) : Type 0 where
  left : filter (λ e. not (is_too_old clock t e)) new.kept.entries ≡ filter (λ e. not (is_too_old clock t e)) old.kept.entries
  count : dropped + length (filter (is_too_old clock t) new.kept.entries) ≡ length (filter (is_too_old clock t) old.kept.entries)
  among : AreAmong clock t rest new.kept.entries
  came : CameBy clock new.kept.entries
  stations : new.stations ≡ old.stations
  quota : new.kept.quota ≡ old.kept.quota
  puts : new.kept.puts ≡ old.kept.puts

aged : (clock : ℕ) (t : Table) (one : Oldest) (rest : List Oldest) (dropped : ℕ) (old new : RosterState) → old.stations.table ≡ t → AreAmong clock t (one ∷ rest) old.kept.entries → CameBy clock old.kept.entries
    → (one.at < limit_for clock old.stations.table one.whom → dropped ≡ length (filter (is_older one.whom (limit_for clock old.stations.table one.whom)) old.kept.entries))
    → (one.at < limit_for clock old.stations.table one.whom → new ≡ record old { kept = record old.kept { entries = without_older one.whom (limit_for clock old.stations.table one.whom) old.kept.entries; reserved = room_beside one.whom old.kept.reserved } })
    → (limit_for clock old.stations.table one.whom ≤ one.at → (dropped ≡ 0) × (new ≡ old))
    → Aged clock t rest dropped old new
aged clock t one rest dropped old new table among came count after young =
    elim (cases_lt one.at (limit_for clock old.stations.table one.whom)) [
      | inl lt ↦ leave lt
      | inr ge ↦ stay ge
    ]
  where
    whom : Whom
    whom = one.whom

    es : List Entry
    es = old.kept.entries

    limit : limit_for clock old.stations.table whom ≡ limit_for clock t whom
    limit = ap (λ (u : Table). limit_for clock u whom) table

    leave : one.at < limit_for clock old.stations.table whom → Aged clock t rest dropped old new
    leave lt =
        let is = after lt in
        let entries : new.kept.entries ≡ without_older whom (limit_for clock t whom) es = ap (λ (r : RosterState). r.kept.entries) is ∙ ap (λ (k : ℕ). without_older whom k es) limit in
        let result : dropped ≡ length (filter (is_older whom (limit_for clock t whom)) es) = count lt ∙ ap (λ (k : ℕ). length (filter (is_older whom k) es)) limit in
        record {
          left = ap (filter (λ (e : Entry). not (is_too_old clock t e))) entries ∙ left-young clock t whom es;
          count = omega (arith, left-count clock t whom es, result, ap (λ (fs : List Entry). length (filter (is_too_old clock t) fs)) entries);
          among = subst (AreAmong clock t rest) (sym entries) (among-aged clock t one rest es among);
          came = subst (CameBy clock) (sym entries) (came-filtered (λ entry. not (is_older whom (limit_for clock t whom) entry)) clock es came);
          stations = ap (λ (r : RosterState). r.stations) is;
          quota = ap (λ (r : RosterState). r.kept.quota) is;
          puts = ap (λ (r : RosterState). r.kept.puts) is;
        }

    stay : limit_for clock old.stations.table whom ≤ one.at → Aged clock t rest dropped old new
    stay ge =
        let same = young ge in
        let entries : new.kept.entries ≡ es = ap (λ (r : RosterState). r.kept.entries) same.1 in
        record {
          left = ap (filter (λ (e : Entry). not (is_too_old clock t e))) entries;
          count = omega (arith, same.0, ap (λ (fs : List Entry). length (filter (is_too_old clock t) fs)) entries);
          among = subst (AreAmong clock t rest) (sym entries) (among-young clock t one rest es (omega (arith, ge, limit)) among);
          came = subst (CameBy clock) (sym entries) came;
          stations = ap (λ (r : RosterState). r.stations) same.1;
          quota = ap (λ (r : RosterState). r.kept.quota) same.1;
          puts = ap (λ (r : RosterState). r.kept.puts) same.1;
        }

pub loop-one-init : goal.loop-one-init
loop-one-init c = record {
  left = refl;
  count = omega arith;
  among = c.requires.oldest;
  came = c.requires.came;
  stations = refl;
  quota = refl;
  puts = refl;
}

pub age_one-dropped-requires : goal.age_one-dropped-requires
age_one-dropped-requires c = record { in_order = in-order c.one-item.result.whom c.args.clock c.loop-one.self.kept.entries c.loop-one.invariant.came }

pub overflow_add-dropped : goal.overflow_add-dropped
overflow_add-dropped c =
    let h = c.loop-one.invariant in
    let t : Table = c.args.self.now.stations.table in
    let told = c.age_one-dropped.ensures in
    let rest : drop c.loop-one.one-index c.args.oldest.now ≡ c.one-item.result ∷ drop (c.loop-one.one-index + 1) c.args.oldest.now = drop_more c.args.oldest.now c.loop-one.one-index c.one-item.result c.loop-one-test.true ∙ ap (λ (o : Oldest). o ∷ drop (c.loop-one.one-index + 1) c.args.oldest.now) (sym c.one-item.is) in
    let step = aged c.args.clock t c.one-item.result (drop (c.loop-one.one-index + 1) c.args.oldest.now) c.age_one-dropped.result c.loop-one.self c.age_one-dropped.new.self (ap (λ (k : StationTable). k.table) h.stations) (subst (λ (os : List Oldest). AreAmong c.args.clock t os c.loop-one.self.kept.entries) rest h.among) h.came told.count told.after told.young in
    omega (arith, step.count, h.count, no_more (is_too_old c.args.clock t) c.args.self.now.kept.entries, c.requires.countable)

pub loop-one-preserved : goal.loop-one-preserved
loop-one-preserved c =
    let h = c.loop-one.invariant in
    let t : Table = c.args.self.now.stations.table in
    let told = c.age_one-dropped.ensures in
    let rest : drop c.loop-one.one-index c.args.oldest.now ≡ c.one-item.result ∷ drop (c.loop-one.one-index + 1) c.args.oldest.now = drop_more c.args.oldest.now c.loop-one.one-index c.one-item.result c.loop-one-test.true ∙ ap (λ (o : Oldest). o ∷ drop (c.loop-one.one-index + 1) c.args.oldest.now) (sym c.one-item.is) in
    let step = aged c.args.clock t c.one-item.result (drop (c.loop-one.one-index + 1) c.args.oldest.now) c.age_one-dropped.result c.loop-one.self c.age_one-dropped.new.self (ap (λ (k : StationTable). k.table) h.stations) (subst (λ (os : List Oldest). AreAmong c.args.clock t os c.loop-one.self.kept.entries) rest h.among) h.came told.count told.after told.young in
    record {
      left = step.left ∙ h.left;
      count = omega (arith, step.count, h.count);
      among = step.among;
      came = step.came;
      stations = step.stations ∙ h.stations;
      quota = step.quota ∙ h.quota;
      puts = step.puts ∙ h.puts;
    }

pub returns-clause-count : goal.returns-clause-count
returns-clause-count c =
    let h = c.loop-one.invariant in
    let t : Table = c.args.self.now.stations.table in
    let none = none-among c.args.clock t c.loop-one.self.kept.entries (subst (λ (os : List Oldest). AreAmong c.args.clock t os c.loop-one.self.kept.entries) (drop_all c.loop-one.one-index c.args.oldest.now c.loop-one-test.false) h.among) in
    omega (arith, h.count, ap (λ (fs : List Entry). length fs) none.1)

pub returns-clause-entries : goal.returns-clause-entries
returns-clause-entries c =
    let h = c.loop-one.invariant in
    let t : Table = c.args.self.now.stations.table in
    let none = none-among c.args.clock t c.loop-one.self.kept.entries (subst (λ (os : List Oldest). AreAmong c.args.clock t os c.loop-one.self.kept.entries) (drop_all c.loop-one.one-index c.args.oldest.now c.loop-one-test.false) h.among) in
    sym none.0 ∙ h.left
