use Rattle.std.proofs.Common.{◌≡◌, ◌∙◌, Result, Ok, Err, OnOk, sym, subst, arith}
use Rattle.tim.proofs.Laws.{tim_octets_show, tim_octets_sent, tim_written}
use Rattle.tim.proofs.element.write_tim.Goals as goal

pub returns-in_err-append-clause-shows : goal.returns-in_err-append-clause-shows
returns-in_err-append-clause-shows c = tim_octets_show c.args.count c.args.period c.args.group _ c.requires.count (omega arith) c.requires.group

pub returns-clause-shows : goal.returns-clause-shows
returns-clause-shows c = tim_octets_show c.args.count c.args.period c.args.group _ c.requires.count (omega arith) c.requires.group

-- what two answers of which the second is the first's give
both_ok : {T E P Q R : Type 0} (r last : Result T E) → r ≡ last → (P → Q → R) → OnOk r P → OnOk last Q → OnOk r R
both_ok {T} {E} {Q = Q} (Ok x) last same give p q = let at : Result T E → Type 0 = λ l. OnOk l Q in give p (subst at (sym same) q)
both_ok (Err e) last same give p q = p

pub returns-clause-ok : goal.returns-clause-ok
returns-clause-ok c =
    let is = tim_octets_sent c.args.count c.args.period c.args.group _ _ _ c.partial-offset.ensures.octets in
    let all = tim_written c.args.out.now c.append.new.self c.partial-offset.result.1.now c.args.count c.args.period c.partial-offset.result.0 c.from.result c.args.group _ c.in_ok-append.ensures.ok c.from.ensures is in
    both_ok c.roll_back.result c.append-written.result c.roll_back.ensures.answer (λ rolled written. rolled ∙ written ∙ all) c.roll_back.ensures.ok c.append-written.ensures.ok
