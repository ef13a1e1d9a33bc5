-- The stations of a network with their units, after a change of one.
use Rattle.std.proofs.Common.{◌≡◌, ◌∙◌, ℕ, Bool, false, ◌||◌, ◌&&◌, List, length, Option, Some, None, Result, Ok, Err, OnOk, OnErr, sym, ap, subst}
use Rattle.std.specs.Prelude.{nat_lt}
use Rattle.std.proofs.lemmas.Bool.{both_ways}
use Rattle.powersave.specs.Keep.{Entry, units_for}
use Rattle.powersave.specs.declared.unit.Whom.TheVariants.{One}
use Rattle.roster.specs.Roster.{RosterState, IsRoster, is_number, renumbered}
use Rattle.stations.specs.Changes.{OthersStay, ModesAlone, IdentifiersDiffer, StaySound}
use Rattle.stations.specs.Sound.{AreApart}
use Rattle.stations.specs.Stations.{Table, StationTable, with_table, IsAllowed, aid_of, forget, changed}
use Rattle.roster.specs.KeptUnits.{has_unit, is_waited_for}
use Rattle.roster.specs.declared.aging_clocks.AgingClock.{AgingClock}
use Rattle.stations.specs.declared.table.Change.{Change}
use Rattle.roster.proofs.ClocksKept.{clocks-unkept, clocks-renumbered_not}
use Rattle.roster.proofs.UnitsKept.{some-for}
use Rattle.roster.proofs.WaitedFor.{Numbers, AreShown, waited-parted, waited-one, waited-renumbered_not, forgotten-changed}

pub roster-renumbered_not : StaySound → OthersStay → ModesAlone → {A E : Type 0} (result : Result A E) (numbers : Numbers) (complete : Bool) (clocks : List AgingClock) (aids : List ℕ) (soonest : ℕ) (r : RosterState) (change : Change) (s : StationTable) → renumbered change ≡ None → IsAllowed r.stations.most change r.stations.table → IsRoster numbers complete clocks aids soonest r
    → OnOk result (s ≡ with_table r.stations (changed change r.stations.table)) → OnErr result (s ≡ r.stations) → IsRoster numbers complete clocks aids soonest (record { stations = s; kept = r.kept })
roster-renumbered_not stays others modes (Ok value) numbers complete clocks aids soonest r change s not_renumbered allowed h is refused = rw is (record {
  limit = h.limit;
  sound = stays r.stations.most change r.stations.table h.limit allowed h.sound;
  traffic = λ n aid. h.traffic n aid ∙ sym (waited-renumbered_not change r.stations.table r.kept.entries n not_renumbered);
  aging = λ all. clocks-renumbered_not others modes clocks aids change r.stations.table r.kept.entries not_renumbered (h.aging all);
  young = h.young;
})
roster-renumbered_not stays others modes (Err fault) numbers complete clocks aids soonest r change s not_renumbered allowed h is refused = rw refused (record { limit = h.limit; sound = h.sound; traffic = h.traffic; aging = h.aging; young = h.young })

-- one that no units are kept for isn't waited for, whatever its identifier becomes
waited-unkept : OthersStay → (change : Change) (addr : List ℕ) (t : Table) (kept : List Entry) (n : ℕ) → renumbered change ≡ Some addr → AreApart t → has_unit addr kept ≡ false
    → is_waited_for (changed change t) kept n ≡ is_waited_for t kept n
waited-unkept others change addr t kept n is apart none =
    waited-parted addr (changed change t) kept n
    ∙ ap (λ b. (b && is_number (aid_of addr (changed change t)) n) || is_waited_for (forget addr (changed change t)) kept n) none
    ∙ ap (λ (u : Table). is_waited_for u kept n) (forgotten-changed others change addr t is apart)
    ∙ ap (λ b. (b && is_number (aid_of addr t) n) || is_waited_for (forget addr t) kept n) (sym none)
    ∙ sym (waited-parted addr t kept n)

pub roster-unkept : StaySound → OthersStay → {A E : Type 0} (result : Result A E) (numbers : Numbers) (complete : Bool) (clocks : List AgingClock) (aids : List ℕ) (soonest : ℕ) (r : RosterState) (change : Change) (addr : List ℕ) (s : StationTable) → renumbered change ≡ Some addr → IsAllowed r.stations.most change r.stations.table → IsRoster numbers complete clocks aids soonest r
    → false ≡ nat_lt 0 (length (units_for (One addr) r.kept.entries)) → OnOk result (s ≡ with_table r.stations (changed change r.stations.table)) → OnErr result (s ≡ r.stations)
    → IsRoster numbers complete clocks aids soonest (record { stations = s; kept = r.kept })
roster-unkept stays others (Ok value) numbers complete clocks aids soonest r change addr s renumbers allowed h none is refused = rw is (record {
  limit = h.limit;
  sound = stays r.stations.most change r.stations.table h.limit allowed h.sound;
  traffic =
      λ n aid. h.traffic n aid ∙ sym (waited-unkept others change addr r.stations.table r.kept.entries n renumbers h.sound.addresses (some-for (One addr) r.kept.entries ∙ sym none));
  aging = λ all. clocks-unkept others clocks aids change addr r.stations.table r.kept.entries renumbers (some-for (One addr) r.kept.entries ∙ sym none) (h.aging all);
  young = h.young;
})
roster-unkept stays others (Err fault) numbers complete clocks aids soonest r change addr s renumbers allowed h none is refused = rw refused (record { limit = h.limit; sound = h.sound; traffic = h.traffic; aging = h.aging; young = h.young })

pub roster-renumbered : StaySound → OthersStay → IdentifiersDiffer → (numbers new : Numbers) (was complete : Bool) (old clocks : List AgingClock) (old_aids aids : List ℕ) (old_soonest soonest : ℕ) (r : RosterState) (change : Change) (addr : List ℕ) (s : StationTable) (before after : Option ℕ) (waits : Bool) → renumbered change ≡ Some addr → IsAllowed r.stations.most change r.stations.table → IsRoster numbers was old old_aids old_soonest r → complete ≡ false
    → s ≡ with_table r.stations (changed change r.stations.table) → before ≡ aid_of addr r.stations.table → after ≡ aid_of addr s.table → waits ≡ nat_lt 0 (length (units_for (One addr) r.kept.entries))
    → AreShown before after waits numbers new → IsRoster new complete clocks aids soonest (record { stations = s; kept = r.kept })
roster-renumbered stays others differ numbers new was complete old clocks old_aids aids old_soonest soonest r change addr s before after waits is allowed h lost same had has some now =
    let t : Table = r.stations.table in
    let u : Table = changed change t in
    let has_after : after ≡ aid_of addr u = has ∙ ap (λ (k : StationTable). aid_of addr k.table) same in
    let shown : AreShown (aid_of addr t) (aid_of addr u) waits numbers new = subst (λ (o : Option ℕ). AreShown o (aid_of addr u) waits numbers new) had (subst (λ (o : Option ℕ). AreShown before o waits numbers new) has_after now) in
    rw same (record {
      limit = h.limit;
      sound = stays r.stations.most change t h.limit allowed h.sound;
      traffic =
          waited-one differ addr t u r.kept.entries r.kept.entries numbers new waits h.sound.aids
          (λ n. ap (λ (v : Table). is_waited_for v r.kept.entries n) (forgotten-changed others change addr t is h.sound.addresses)) some shown h.traffic;
      aging = λ all. absurd (both_ways complete lost all);
      young = λ all. absurd (both_ways complete lost all);
    })
