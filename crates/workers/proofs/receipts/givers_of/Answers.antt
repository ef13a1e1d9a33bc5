use Rattle.std.proofs.Common.{◌≡◌, ◌<◌, ◌≤◌, ℕ, [], List, length, map, sym, ap, subst, ◌∙◌, arith}
use Rattle.std.specs.Prelude.{All}
use Rattle.std.proofs.lemmas.List.{take_all, get_or_read}
use Rattle.std.proofs.lemmas.List.Elements.{All-more}
use Rattle.play.specs.Givers.{AreGivers}
use Rattle.workers.specs.Receipts.{histories, limits, IsFullLast, AreReceipts}
use Rattle.workers.specs.declared.caller.Entry.{Entry}
use Rattle.workers.proofs.Receiving.{at-any, all-receipts, all-givers}
use Rattle.workers.proofs.receipts.givers_of.Goals as goal
use Rattle.workers.proofs.receipts.givers_of.Goals.{After-from_vec}

pub loop-caller-preserved : goal.loop-caller-preserved
loop-caller-preserved c =
    let callers : List (List Entry) = c.args.callers.now in
    let k : ℕ = c.loop-caller.caller-index in
    let test : k < length callers = c.loop-caller-test.true in
    let same = c.entries-in-loop-caller.ensures ∙ get_or_read callers k c.caller-item.result test c.caller-item.is [] in
    All-more (IsFullLast (limits c.args.networks.now) (histories c.args.networks.now)) callers k [] test c.loop-caller.invariant
    (subst (IsFullLast (limits c.args.networks.now) (histories c.args.networks.now)) same c.in_ok-check_full.ensures)

-- all who gave events are callers
module _ (c : After-from_vec) where
  known : All (All (λ g. g < length c.args.callers.now)) c.loop-place.givers.items
  known = subst (All (All (λ g. g < length c.args.callers.now))) c.as_slice-2.ensures.value (c.are_known.ensures c.if-not-are_known.false)

pub returns-clause-receipts : goal.returns-clause-receipts
returns-clause-receipts c =
    let over = c.loop-number-test.false in
    subst (AreReceipts c.args.callers.now (histories c.args.networks.now)) (sym c.from_vec.ensures)
    (all-receipts c.args.callers.now (histories c.args.networks.now) c.loop-place.givers.items (known c) (λ i within. (let before : i < c.loop-number.number = omega (arith, within, over) in c.loop-number.invariant i before)))

pub returns-clause-givers : goal.returns-clause-givers
returns-clause-givers c =
    subst (AreGivers (length c.args.callers.now) (histories c.args.networks.now)) (sym c.from_vec.ensures)
    (all-givers (length c.args.callers.now) (histories c.args.networks.now) c.loop-place.givers.items (known c)
    (c.loop-place.invariant ∙ ap (λ ns. map length (histories ns)) (take_all c.loop-place.place c.args.networks.now c.loop-place-test.false)))

pub returns-clause-full : goal.returns-clause-full
returns-clause-full c =
    let full = IsFullLast (limits c.args.networks.now) (histories c.args.networks.now) in
    at-any full c.args.callers.now [] (subst (All full) (take_all c.loop-caller.caller-index c.args.callers.now c.loop-caller-test.false) c.loop-caller.invariant) (λ k place told. absurd (cc))
