use Rattle.std.proofs.Common.{◌<◌, ◌^◌, ◌∙◌, ℕ, get_or, ap, arith, rules}
use Rattle.std.specs.FinSet as set
use Rattle.tim.specs.Tim.{from_first_pair, virtual_bitmap, partial_of}
use Rattle.tim.proofs.Aids.{octets-virtual_bitmap}
use Rattle.tim.proofs.Partial.{get_or-up_to_last, partial_empty, partial_some}
use Rattle.tim.proofs.bitmap.Bitmap.partial.Goals as goal

pub returns-then-is_empty-clause-octets : goal.returns-then-is_empty-clause-octets
returns-then-is_empty-clause-octets c =
    let octets = c.self.inside.octets in
    let used : (place : ℕ) → get_or c.up_to_last-used.result.now place 0 < 2 ^ 8 = λ place. search rules in
    let fit : (place : ℕ) → get_or octets place 0 < 2 ^ 8 = λ place. omega (arith, ap (λ l. get_or l place 0) c.up_to_last-used.ensures.octets, get_or-up_to_last octets place, used place) in
    partial_empty octets _ c.from_first_pair-offset.result.1.now
    (c.from_first_pair-offset.ensures.octets ∙ ap (from_first_pair 0) c.up_to_last-used.ensures.octets)
    (search rules)
    ∙ ap partial_of (octets-virtual_bitmap octets c.self.told fit c.self.invariant)
    ∙ ap (λ s. partial_of (virtual_bitmap (set.contains s))) c.self.view_is

pub returns-clause-octets : goal.returns-clause-octets
returns-clause-octets c =
    let octets = c.self.inside.octets in
    let used : (place : ℕ) → get_or c.up_to_last-used.result.now place 0 < 2 ^ 8 = λ place. search rules in
    let fit : (place : ℕ) → get_or octets place 0 < 2 ^ 8 = λ place. omega (arith, ap (λ l. get_or l place 0) c.up_to_last-used.ensures.octets, get_or-up_to_last octets place, used place) in
    partial_some octets _ _
    (c.from_first_pair-offset.ensures.octets ∙ ap (from_first_pair 0) c.up_to_last-used.ensures.octets)
    (search rules)
    ∙ ap partial_of (octets-virtual_bitmap octets c.self.told fit c.self.invariant)
    ∙ ap (λ s. partial_of (virtual_bitmap (set.contains s))) c.self.view_is
