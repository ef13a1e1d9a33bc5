use Rattle.std.proofs.Common.{◌≤◌, ◌++◌, ℕ, List, length, arith}
use Rattle.live_rules.specs.Records.{IsRecord}
use Rattle.live.proofs.RecordSteps.{parts-are, records-front, records-added, records-whole}
use Rattle.live.proofs.records.answer_next.Goals as goal

pub returns-in-Some-clause-answers : goal.returns-in-Some-clause-answers
returns-in-Some-clause-answers g c =
    records-front c.answers_to_more.ensures _ _ c.args.networks.now _ _ _ c.args.partial.now c.args.piece.now c.in-Some.octets.now c.in-Some.rest.now
    (c.is_empty.ensures.0 c.if-is_empty.true) c.requires.partial c.in-Some.ensures.whole.0 c.in-Some.ensures.some
    c.in-Some.ensures.whole.1
    c.answer_record.ensures

pub returns-then-is_whole-clause-answers : goal.returns-then-is_whole-clause-answers
returns-then-is_whole-clause-answers g c =
    let more : List ℕ = c.split_at.result.0.now in
    let front = parts-are _ c.args.piece.now more c.split_at.result.1.now c.split_at.ensures.front c.split_at.ensures.back in
    let some : 1 ≤ length more =
    omega (arith, c.split_at.ensures.front_len, c.min.ensures, c.lacking.ensures.some, c.requires.some) in
    records-whole c.answers_to_more.ensures _ _ c.args.networks.now _ _ _ c.args.partial.now more c.add.new.self c.begin.new.self c.args.piece.now
    c.split_at.result.1.now c.add.ensures c.begin.ensures front some (c.is_whole.ensures.0 c.if-is_whole.true)
    (rw c.as_slice.ensures at c.answer_record-then-is_whole.ensures)

pub returns-else-is_whole-clause-answers : goal.returns-else-is_whole-clause-answers
returns-else-is_whole-clause-answers g c =
    let more : List ℕ = c.split_at.result.0.now in
    let front = parts-are _ c.args.piece.now more c.split_at.result.1.now c.split_at.ensures.front c.split_at.ensures.back in
    let few : length more ≤ c.lacking.result = omega (arith, c.split_at.ensures.front_len, c.min.ensures) in
    let not : IsRecord (c.args.partial.now ++ more) → ⊥ =
    λ (e : IsRecord (c.args.partial.now ++ more)).
    let yes = c.is_whole.ensures.1 (rw c.add.ensures e) in cc (yes, c.if-is_whole.false) in
    records-added _ _ c.args.networks.now _ c.args.partial.now more c.add.new.self c.args.piece.now c.split_at.result.1.now
    c.requires.can_write c.add.ensures front
    (rw c.add.ensures
    (c.records_come_in_pieces.ensures.partial c.args.partial.now more c.requires.partial
    (rw c.lacking.ensures.value at few) not))
