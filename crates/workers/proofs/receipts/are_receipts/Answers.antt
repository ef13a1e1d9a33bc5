use Rattle.std.proofs.Common.{◌≤◌, ◌<◌, List, ℕ, [], length, get_or, inl, inr, sym, ap, ◌∙◌, arith}
use Rattle.std.proofs.lemmas.Bool.{cases_lt}
use Rattle.std.proofs.lemmas.List.{get_or_past}
use Rattle.play.specs.Givers.{dealt}
use Rattle.workers.specs.Receipts.{histories, numbered}
use Rattle.workers.proofs.Receiving.{counted, lengths-here}
use Rattle.workers.proofs.receipts.are_receipts.Goals as goal

pub are_dealt-requires : goal.are_dealt-requires
are_dealt-requires c =
    ap length c.as_slice-givers.ensures
    ∙ lengths-here c.args.networks.now c.args.givers.now c.loop-place.place c.index-networks-place.result c.index-givers-place.result c.requires c.loop-place-test.true c.index-networks-place.is c.index-givers-place.is
    ∙ ap length (sym c.history.ensures.events)

pub returns : goal.returns
returns c true_is place =
    let over = c.loop-place-test.false in
    elim (cases_lt place (length c.args.networks.now)) [
      | inl there ↦ (let before : place < c.loop-place.place = omega (arith, there, over) in c.loop-place.invariant place before)
      | inr past ↦
          let none : length c.args.givers.now ≤ place = omega (arith, past, counted c.args.networks.now c.args.givers.now c.requires) in
          c.are_there.ensures true_is place past
          ∙ ap (λ (gs : List ℕ). dealt gs (numbered (get_or (histories c.args.networks.now) place [])) c.args.caller) (sym (get_or_past c.args.givers.now place [] none))
    ]
