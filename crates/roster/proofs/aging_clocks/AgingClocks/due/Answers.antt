use Rattle.std.proofs.Common.{◌≡◌, ◌∙◌, ◌+◌, ◌++◌, ◌∷◌, [], ℕ, List, Option, Some, None, true, false, drop, get_or, slice_get, length, ◌<◌, ◌≤◌, cond, rules, sym, ap, arith}
use Rattle.std.proofs.lemmas.List.{append_assoc, append-nil, drop_more}
use Rattle.std.proofs.lemmas.Option.{slice_get-get_or, slice_get_past}
use Rattle.powersave.specs.declared.unit.Oldest.{Oldest}
use Rattle.powersave.specs.declared.unit.Whom.TheVariants.{One}
use Rattle.roster.specs.AgingClocks.{is_due, due_with, due_at}
use Rattle.roster.specs.declared.aging_clocks.AgingClock.{AgingClock}
use Rattle.roster.proofs.SoonestClock.{none-due}
use Rattle.roster.proofs.aging_clocks.AgingClocks.due.Goals as goal
use Rattle.roster.proofs.aging_clocks.AgingClocks.due.Goals.{in-Some+then-is_due+in_ok-add_due, in-Some+else-is_due, in_default}

-- what stands at a place
found_at : (read clocks : List AgingClock) (k n : ℕ) (one : AgingClock) → read ≡ clocks → k ≡ n → k < length read → one ≡ get_or read k one → slice_get clocks n ≡ Some one
found_at read clocks k n one same at within is =
    ap (λ (m : ℕ). slice_get clocks m) (sym at) ∙ ap (λ (cs : List AgingClock). slice_get cs k) (sym same) ∙ slice_get-get_or read k one within ∙ ap Some (sym is)

none_at : (read clocks : List AgingClock) (k n : ℕ) → read ≡ clocks → k ≡ n → length read ≤ k → slice_get clocks n ≡ None
none_at read clocks k n same at past =
    ap (λ (m : ℕ). slice_get clocks m) (sym at) ∙ ap (λ (cs : List AgingClock). slice_get cs k) (sym same) ∙ slice_get_past read k past

-- one identifier more
step : (clock i : ℕ) (clocks : List AgingClock) (aids : List ℕ) (due new all : List Oldest) (o : Option AgingClock) → i < length aids → slice_get clocks (get_or aids i 0) ≡ o → new ≡ due ++ due_with clock o
    → due ++ due_at clock clocks (drop i aids) ≡ all → new ++ due_at clock clocks (drop (i + 1) aids) ≡ all
step clock i clocks aids due new all o within found is before =
    let rest : List Oldest = due_at clock clocks (drop (i + 1) aids) in
    ap (λ (os : List Oldest). os ++ rest) is ∙ append_assoc due (due_with clock o) rest
    ∙ ap (λ (p : Option AgingClock). due ++ (due_with clock p ++ rest)) (sym found)
    ∙ ap (λ (ns : List ℕ). due ++ due_at clock clocks ns) (sym (drop_more aids i 0 within)) ∙ before

pub loop-aid-preserved : goal.loop-aid-preserved
loop-aid-preserved c =
    let clock : ℕ = c.args.clock in
    let clocks : List AgingClock = c.args.self.now.clocks.items in
    let aids : List ℕ = c.args.self.now.aids.items in
    let i : ℕ = c.loop-aid.aid-index in
    let same : c.as_slice-aid-items.result.now ≡ aids = c.as_slice-aid-items.ensures.value in
    let within : i < length aids = omega (arith, c.loop-aid-test.true, ap length same) in
    let n : c.from.result ≡ get_or aids i 0 = c.from.ensures ∙ ap (λ (ns : List ℕ). get_or ns i 0) same in
    elim c.match-get.branch [
      | in-Some+then-is_due+in_ok-add_due w ↦
          let found : slice_get clocks (get_or aids i 0) ≡ Some w.in-Some.one.now = found_at c.deref.result.now clocks c.from.result (get_or aids i 0) w.in-Some.one.now c.deref.ensures.value n (search rules) (search rules) in
          let due : is_due clock w.in-Some.one.now ≡ true = sym w.is_due.ensures ∙ w.if-is_due.true in
          step clock i clocks aids c.loop-aid.due.items c.match-get.due.items _ (Some w.in-Some.one.now) within found (ap (λ v. v.items) w.due-is ∙ w.in_ok-add_due.ensures ∙ ap (λ b. c.loop-aid.due.items ++ cond b (record { whom = One w.in-Some.one.now.addr; at = 0 } ∷ []) []) (sym due)) c.loop-aid.invariant
      | in-Some+else-is_due w ↦
          let found : slice_get clocks (get_or aids i 0) ≡ Some w.in-Some.one.now = found_at c.deref.result.now clocks c.from.result (get_or aids i 0) w.in-Some.one.now c.deref.ensures.value n (search rules) (search rules) in
          let young : is_due clock w.in-Some.one.now ≡ false = sym w.is_due.ensures ∙ w.if-is_due.false in
          step clock i clocks aids c.loop-aid.due.items c.match-get.due.items _ (Some w.in-Some.one.now) within found (ap (λ v. v.items) w.due-is ∙ sym (append-nil c.loop-aid.due.items) ∙ ap (λ b. c.loop-aid.due.items ++ cond b (record { whom = One w.in-Some.one.now.addr; at = 0 } ∷ []) []) (sym young)) c.loop-aid.invariant
      | in_default w ↦
          let found : slice_get clocks (get_or aids i 0) ≡ None = none_at c.deref.result.now clocks c.from.result (get_or aids i 0) c.deref.ensures.value n (search rules) in
          step clock i clocks aids c.loop-aid.due.items c.match-get.due.items _ None within found (ap (λ v. v.items) w.due-is ∙ sym (append-nil c.loop-aid.due.items)) c.loop-aid.invariant
    ]

pub returns-then-clock-self : goal.returns-then-clock-self
returns-then-clock-self c = c.new-due.ensures.items ∙ sym (none-due c.args.clock c.args.self.now.soonest c.args.self.now.clocks.items c.args.self.now.aids.items c.if-clock-self.true c.requires)
