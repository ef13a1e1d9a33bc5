use Rattle.std.proofs.Common.{◌≡◌, ◌∙◌, ap, true, arith}
use Rattle.std.specs.FinSet as set
use Rattle.std.proofs.lemmas.Bool.{and_from, not_from_false, ne_eqb}
use Rattle.aid_pool.specs.Marks.{numbers_of}
use Rattle.aid_pool.proofs.Numbers.{contained_within, numbers_of-cleared}
use Rattle.aid_pool.proofs.Words.{cleared}
use Rattle.aid_pool.proofs.marks.Marks.clear.Goals as goal

pub bounds-self-inside-from : goal.bounds-self-inside-from
bounds-self-inside-from c =
    let out : set.contains (numbers_of c.self.inside.words) c.args.aid ≡ true = ap (λ s. set.contains s c.args.aid) c.self.view_is ∙ c.requires in
    omega (arith, (contained_within c.self.inside.words c.args.aid out).1)

pub bounds-self-inside-from-2 : goal.bounds-self-inside-from-2
bounds-self-inside-from-2 c =
    let out : set.contains (numbers_of c.self.inside.words) c.args.aid ≡ true = ap (λ s. set.contains s c.args.aid) c.self.view_is ∙ c.requires in
    omega (arith, (contained_within c.self.inside.words c.args.aid out).1)

pub invariant_of-self : goal.invariant_of-self
invariant_of-self c =
    let words = c.self.inside.words in
    let out : set.contains (numbers_of words) c.args.aid ≡ true = ap (λ s. set.contains s c.args.aid) c.self.view_is ∙ c.requires in
    let within = contained_within words c.args.aid out in
    let some = within.0 in
    let last = within.1 in
    rw c.from.ensures (cleared words c.args.aid (omega arith) 0 ∙ and_from _ _ (not_from_false _ (ne_eqb 0 c.args.aid (omega arith))) c.self.invariant)

pub returns : goal.returns
returns c =
    let words = c.self.inside.words in
    let out : set.contains (numbers_of words) c.args.aid ≡ true = ap (λ s. set.contains s c.args.aid) c.self.view_is ∙ c.requires in
    let within = contained_within words c.args.aid out in
    let last = within.1 in
    rw c.from.ensures
    (numbers_of-cleared words _ c.args.aid within.0 within.1 (cleared words c.args.aid (omega arith))
    ∙ ap (λ s. set.remove s c.args.aid) c.self.view_is)
