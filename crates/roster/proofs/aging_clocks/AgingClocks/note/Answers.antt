use Rattle.std.proofs.Common.{◌≡◌, ◌∙◌, ◌≤◌, ◌<◌, ℕ, List, length, set, slice_get, get_or, Some, Option, sym, ap, subst, arith}
use Rattle.std.specs.Option.{IsSomeAnd}
use Rattle.std.proofs.lemmas.List.{set-get_or}
use Rattle.std.proofs.lemmas.Option.{slice_get-get_or}
use Rattle.roster.specs.declared.aging_clocks.AgingClock.{AgingClock}
use Rattle.roster.proofs.SoonestClock.{soonest-set}
use Rattle.roster.proofs.aging_clocks.AgingClocks.note.Goals as goal

-- where the clock is no later, it stays
same : (clocks : List AgingClock) (n at : ℕ) (k : AgingClock) → n < length clocks → k ≡ get_or clocks n k → k.at ≤ at
    → IsSomeAnd (slice_get clocks n) (λ x. (early : ℕ) × (early ≤ at) × (early ≤ x.at) × (clocks ≡ set clocks n (record x { at = early })))
same clocks n at k within is le =
    subst (λ (o : Option AgingClock). IsSomeAnd o (λ x. (early : ℕ) × (early ≤ at) × (early ≤ x.at) × (clocks ≡ set clocks n (record x { at = early }))))
    (sym (slice_get-get_or clocks n k within ∙ ap Some (sym is)))
    (k.at, le, omega arith, sym (ap (λ (x : AgingClock). set clocks n x) is ∙ set-get_or clocks n k))

pub returns-else-at-index-clause-clocks : goal.returns-else-at-index-clause-clocks
returns-else-at-index-clause-clocks c is =
    same c.args.self.now.clocks.items c.args.aid c.args.at c.index.result.now
    (omega (arith, c.from-index.ensures, c.if-index-len.false, c.len.ensures, c.args.self.now.clocks.ok))
    (c.index.ensures ∙ ap (λ (n : ℕ). get_or c.args.self.now.clocks.items n c.index.result.now) c.from-index.ensures) c.if-at-index.false

pub returns-then-at-index-clause-soonest : goal.returns-then-at-index-clause-soonest
returns-then-at-index-clause-soonest c h =
    soonest-set c.args.self.now.clocks.items c.args.self.now.aids.items c.args.self.now.aids.items c.args.self.now.soonest c.min-self.result c.from-index.result _
    (omega (arith, c.if-index-len.false, c.len.ensures)) (omega (arith, c.min-self.ensures)) (omega (arith, c.min-self.ensures)) (λ m other among. among) h
