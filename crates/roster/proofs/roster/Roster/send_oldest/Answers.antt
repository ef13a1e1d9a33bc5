use Rattle.std.proofs.Common.{◌≡◌, ◌∙◌, ℕ, Bool, false, List, [], ◌∷◌, length, drop, Option, Some, None, refl, sym, ap, subst, arith}
use Rattle.std.specs.Prelude.{nat_lt}
use Rattle.std.proofs.lemmas.Bool.{lt-ltb}
use Rattle.powersave.specs.Keep.{Entry, is_for, units_for, without_oldest, first_frame, others_follow}
use Rattle.powersave.specs.declared.unit.Unit.{Unit as DataUnit}
use Rattle.powersave.specs.declared.unit.Whom.TheVariants.{One}
use Rattle.roster.specs.AgingClocks.{HasClock, HaveClocks}
use Rattle.roster.specs.Roster.{AreWaitedFor}
use Rattle.roster.proofs.Aging.{each-without_first}
use Rattle.roster.proofs.roster.Roster.send_oldest.Goals as goal

abbrev told : Option (List ℕ × Bool) → Bool
told None = false
told (Some first) = first.1

some_follow : (us : List DataUnit) → others_follow us ≡ nat_lt 0 (length us)
some_follow [] = refl
some_follow (u ∷ us) = sym (lt-ltb 0 (length (u ∷ us)) (omega arith))

-- others follow the first where some are left
left_of : (bss : List ℕ) (sequence : ℕ) (us : List DataUnit) → told (first_frame bss sequence us) ≡ nat_lt 0 (length (drop 1 us))
left_of bss sequence [] = refl
left_of bss sequence (u ∷ us) = some_follow us

pub invariant_of-self-in_default : goal.invariant_of-self-in_default
invariant_of-self-in_default c = record {
  limit = c.self.invariant.limit;
  sound = c.self.invariant.sound;
  traffic = subst (AreWaitedFor c.self.inside.traffic c.self.inside.stations.table) (sym (c.in_ok-sent.ensures.none c.in_default.is)) c.self.invariant.traffic;
  aging = λ all. subst (HaveClocks c.self.inside.clocks.clocks.items c.self.inside.clocks.aids.items c.self.inside.stations.table) (sym (c.in_ok-sent.ensures.none c.in_default.is)) (c.self.invariant.aging all);
  young = c.self.invariant.young;
}

pub invariant_of-self-2 : goal.invariant_of-self-2
invariant_of-self-2 c =
    let whom = One c.args.addr in
    let es : List Entry = c.self.inside.kept.entries in
    let first : Some (c.in-Some.frame, c.in-Some.waits) ≡ first_frame c.args.bss c.args.seq (units_for whom es) = sym c.in-Some.is ∙ c.in_ok-sent.ensures.sent in
    rw c.in_ok-sent.ensures.after (record {
      limit = c.self.invariant.limit;
      sound = c.self.invariant.sound;
      traffic =
          c.follow.ensures c.self.invariant.sound es (without_oldest whom es) (λ other apart. c.parts_stay.ensures.others_oldest whom other es apart)
          (ap told first ∙ left_of c.args.bss c.args.seq (units_for whom es) ∙ sym (ap (λ us. nat_lt 0 (length us)) (c.parts_stay.ensures.oldest whom es))) c.self.invariant.traffic;
      aging = λ all. each-without_first (λ e. HasClock c.self.inside.clocks.clocks.items c.self.inside.clocks.aids.items c.self.inside.stations.table e.0 e.1.at) (is_for whom) es (c.self.invariant.aging all);
      young = c.self.invariant.young;
    })
