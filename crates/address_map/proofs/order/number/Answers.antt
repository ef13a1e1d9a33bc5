use Rattle.std.proofs.Common.{◌≡◌, ℕ, suc, ◌+◌, ◌<◌, List, length, ◌∙◌, arith}
use Rattle.std.proofs.lemmas.List.{length-set, take_more_set}
use Rattle.address_map.proofs.SlotOrder.{range-more}
use Rattle.address_map.proofs.order.number.Goals as goal

pub loop-place-preserved : goal.loop-place-preserved
loop-place-preserved c =
    let row : List ℕ = c.loop-place.row in
    let k : ℕ = c.loop-place.place in
    let next : k + 1 ≡ suc k = omega arith in
    let here : k ≡ 0 + k = omega arith in
    let within : k < length row = omega (arith, c.loop-place-test.true, c.loop-place.invariant.len) in
    record {
      len = length-set row k k ∙ c.loop-place.invariant.len;
      done = cc (take_more_set row k k within, range-more 0 k);
    }
