use Rattle.std.proofs.Common.{◌≡◌, ◌∙◌, sym, ap, inl, inr, arith}
use Rattle.std.specs.FinSet as set
use Rattle.std.proofs.lemmas.Bool.{both_ways, cases_lt}
use Rattle.aid_pool.specs.Marks.{has_mark}
use Rattle.aid_pool.proofs.Numbers.{contains-numbers_of, not_contained}
use Rattle.aid_pool.proofs.marks.Marks.least_absent.Goals as goal

pub returns-in_err-number-clause-none : goal.returns-in_err-number-clause-none
returns-in_err-number-clause-none c =
    rw c.from_residual.ensures (λ m some fits.
    ap (λ s. set.contains s m) (sym c.self.view_is)
    ∙ contains-numbers_of c.self.inside.words m some fits
    ∙ c.in_err-number.ensures.none m (omega arith))

pub returns-clause-first : goal.returns-clause-first
returns-clause-first c =
    let words = c.self.inside.words in
    let number = c.in_ok-number.number in
    let w = c.in_ok-number.ensures.first in
    elim (cases_lt number 1) [
      | inl none ↦
          let zero_is : number ≡ 0 = omega arith in
          absurd (both_ways (has_mark words 0) (ap (has_mark words) (sym zero_is) ∙ w.clear) c.self.invariant)
      | inr some ↦ some
    ]

pub returns-clause-absent : goal.returns-clause-absent
returns-clause-absent c =
    let words = c.self.inside.words in
    let number = c.in_ok-number.number in
    let w = c.in_ok-number.ensures.first in
    ap (λ s. set.contains s number) (sym c.self.view_is)
    ∙ elim (cases_lt 2007 number) [
      | inl past ↦ not_contained words number (λ some fits. omega arith)
      | inr fits ↦ contains-numbers_of words number (returns-clause-first c) fits ∙ w.clear
    ]

pub returns-clause-least : goal.returns-clause-least
returns-clause-least c = λ m some fits below.
    ap (λ s. set.contains s m) (sym c.self.view_is)
    ∙ contains-numbers_of c.self.inside.words m some fits
    ∙ c.in_ok-number.ensures.first.before m below
