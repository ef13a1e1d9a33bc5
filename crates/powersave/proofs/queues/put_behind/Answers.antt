use Rattle.std.proofs.Common.{◌≡◌, ◌+◌, ◌-◌, ◌<◌, ◌≤◌, ◌++◌, [], ◌∷◌, min, length, take, drop, ap, ◌∙◌, arith}
use Rattle.powersave.specs.Queues.{numbered_from, units_of, queue_with}
use Rattle.powersave.proofs.Turns.{numbered, moved, moved_one, turned, all_at_most}
use Rattle.powersave.proofs.queues.put_behind.Goals as goal

pub loop-place-preserved : goal.loop-place-preserved
loop-place-preserved c =
    let xs = c.args.queue.now.items in
    let first = c.args.first in
    let p = c.loop-place.place in
    let h = c.loop-place.invariant in
    let long = c.args.queue.now.ok.0 in
    let within : p < length xs = omega (arith, c.loop-place-test.true, c.min-ahead.ensures, c.len.ensures, long) in
    record {
      items = c.number_anew.ensures.items ∙ ap (λ ys. drop 1 ys ++ numbered_from (first + p) (units_of (take 1 ys))) h.items ∙ moved_one first xs p within;
      len = c.number_anew.ensures.len ∙ h.len;
      capacity = c.number_anew.ensures.capacity ∙ h.capacity;
    }

pub returns : goal.returns
returns c =
    let xs = c.args.queue.now.items in
    let first = c.args.first in
    let unit = c.args.unit in
    let n = c.min-ahead.result in
    let h = c.loop-place.invariant in
    let long = c.args.queue.now.ok.0 in
    let ahead : n ≡ min c.args.before (length xs) = c.min-ahead.ensures ∙ ap (min c.args.before) (c.len.ensures ∙ long) in
    let few : n ≤ length xs = omega (arith, ahead) in
    let past : c.loop-place.place ≡ n = omega (arith, c.loop-place-test.false, c.loop-place.auto.place-end) in
    let k = c.push_back_reserved.new.self.len - (n + 1) in
    let left : k ≡ length xs - n = omega (arith, c.push_back_reserved.ensures.len, h.len, long) in
    c.rotate_right.ensures.items
    ∙ turned first xs n k unit c.push_back_reserved.new.self.items few left
    (c.push_back_reserved.ensures.items ∙ ap (λ zs. zs ++ numbered (first + n) unit ∷ []) (h.items ∙ ap (moved first xs) past))
    ∙ ap (λ m. queue_with first m unit xs) ahead
    ∙ all_at_most first xs c.args.before unit
