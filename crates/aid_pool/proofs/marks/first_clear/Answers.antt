use Rattle.std.proofs.Common.{sym, arith}
use Rattle.aid_pool.proofs.Words.{first_is_clear, not_full, all_are_set}
use Rattle.aid_pool.proofs.marks.first_clear.Goals as goal

pub bounds-words-place : goal.bounds-words-place
bounds-words-place c = omega (arith, (not_full c.args.words.now c.in_ok-place.place (sym c.in_ok-place.ensures)).0)

pub returns-clause-first : goal.returns-clause-first
returns-clause-first c =
    first_is_clear c.args.words.now c.in_ok-place.place _ (sym c.in_ok-place.ensures) c.ones.ensures.within c.ones.ensures.clear c.ones.ensures.before

pub returns-in_err-place-clause-none : goal.returns-in_err-place-clause-none
returns-in_err-place-clause-none c =
    rw c.from_residual.ensures (λ n within. all_are_set c.args.words.now (sym c.in_err-place.ensures) n (omega arith))

pub ones-requires : goal.ones-requires
ones-requires c =
    let at = not_full c.args.words.now c.in_ok-place.place (sym c.in_ok-place.ensures) in
    let other = at.1 in
    let fits = c.fits-words c.in_ok-place.place in
    omega (arith, other, fits)
