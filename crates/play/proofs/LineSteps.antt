-- Lines whose octets stand one after another.
use Rattle.std.proofs.Common.{◌≡◌, ℕ, zero, suc, ◌-◌, ◌<◌, ◌≤◌, List, [], ◌∷◌, ◌++◌, length, take, drop, get_or}
use Rattle.std.proofs.Common.{refl, sym, ap, ◌∙◌, arith}
use Rattle.std.proofs.lemmas.List.{take-append-le, drop-append-le, drop_at, take_all, length-drop, length-append}
use Rattle.events.specs.declared.line.Line.{Line}
use Rattle.events.specs.declared.line.Line.TheVariants.{Tick}
use Rattle.play.specs.LineLog.{line_with, octets_between, lines_from, AreInOrder, start_of}
use Rattle.play.specs.declared.mark.Mark.{Mark}

-- ---- how many

pub length-lines : (start : ℕ) (marks : List Mark) (octets : List ℕ)
    → length (lines_from start marks octets) ≡ length marks
length-lines start [] octets = refl
length-lines start (mark ∷ marks) octets = ap (λ (n : ℕ). suc n) (length-lines mark.end marks octets)

-- ---- one line more

-- what was there ends where the octets do
ends-within : (start : ℕ) (marks : List Mark) (count : ℕ) → AreInOrder start marks count → start ≤ count
ends-within start [] count order = omega (arith, order)
ends-within start (mark ∷ marks) count order =
    omega (arith, order.0, ends-within mark.end marks count order.1)

-- octets that follow leave those before as they were
between-more : (start end : ℕ) (octets more : List ℕ) → start ≤ end → end ≤ length octets
    → octets_between start end (octets ++ more) ≡ octets_between start end octets
between-more start end octets more begins ends =
    ap (take (end - start)) (drop-append-le start octets more (omega (arith, begins, ends)))
    ∙ take-append-le (end - start) (drop start octets) more (omega (arith, begins, ends, length-drop start octets))

-- the octets that follow are those of the last line
between-last : (start : ℕ) (octets more : List ℕ) → start ≡ length octets
    → octets_between start (length (octets ++ more)) (octets ++ more) ≡ more
between-last start octets more at_end =
    ap (take (length (octets ++ more) - start)) (drop_at octets more start (sym at_end))
    ∙ take_all (length (octets ++ more) - start) more (omega (arith, at_end, length-append octets more))

pub lines-push : (start : ℕ) (marks : List Mark) (octets more : List ℕ) (mark : Mark)
    → AreInOrder start marks (length octets) → mark.end ≡ length (octets ++ more)
    → lines_from start (marks ++ mark ∷ []) (octets ++ more)
    ≡ lines_from start marks octets ++ line_with mark.kind more ∷ []
lines-push start [] octets more mark order end =
    ap (λ (e : ℕ). line_with mark.kind (octets_between start e (octets ++ more)) ∷ []) end
    ∙ ap (λ (os : List ℕ). line_with mark.kind os ∷ []) (between-last start octets more order)
lines-push start (first ∷ marks) octets more mark order end =
    ap (λ (os : List ℕ). line_with first.kind os ∷ lines_from first.end (marks ++ mark ∷ []) (octets ++ more))
    (between-more start first.end octets more order.0 (ends-within first.end marks (length octets) order.1))
    ∙ ap (λ (ls : List Line). line_with first.kind (octets_between start first.end octets) ∷ ls)
    (lines-push first.end marks octets more mark order.1 end)

pub order-push : (start : ℕ) (marks : List Mark) (count next : ℕ) (mark : Mark) → AreInOrder start marks count
    → mark.end ≡ next → count ≤ next → AreInOrder start (marks ++ mark ∷ []) next
order-push start [] count next mark order end more = (omega (arith, order, end, more), end)
order-push start (first ∷ marks) count next mark order end more =
    (order.0, order-push first.end marks count next mark order.1 end more)

-- ---- the line of a number

pub start-first : (start : ℕ) (marks : List Mark) → start_of start marks 0 ≡ start
start-first start [] = refl
start-first start (mark ∷ marks) = refl

pub start-next : (start : ℕ) (marks : List Mark) (n : ℕ) (d : Mark) → n < length marks
    → (get_or marks n d).end ≡ start_of start marks (suc n)
start-next start [] n d within = absurd (omega (arith, within))
start-next start (first ∷ marks) zero d within = sym (start-first first.end marks)
start-next start (first ∷ marks) (suc n) d within = start-next first.end marks n d (omega (arith, within))

pub line-at : (start : ℕ) (marks : List Mark) (octets : List ℕ) (n : ℕ) (mark : Mark) → n < length marks
    → mark ≡ get_or marks n mark
    → line_with mark.kind (octets_between (start_of start marks n) mark.end octets)
    ≡ get_or (lines_from start marks octets) n Tick
line-at start [] octets n mark within is = absurd (omega (arith, within))
line-at start (first ∷ marks) octets zero mark within is =
    ap (λ (m : Mark). line_with m.kind (octets_between start m.end octets)) is
line-at start (first ∷ marks) octets (suc n) mark within is =
    line-at first.end marks octets n mark (omega (arith, within)) is

pub bounds-at : (start : ℕ) (marks : List Mark) (count n : ℕ) (mark : Mark) → AreInOrder start marks count
    → n < length marks → mark ≡ get_or marks n mark
    → (start_of start marks n ≤ mark.end) × (mark.end ≤ count)
bounds-at start [] count n mark order within is = absurd (omega (arith, within))
bounds-at start (first ∷ marks) count zero mark order within is =
    let same : mark.end ≡ first.end = ap (λ (m : Mark). m.end) is in (
      omega (arith, order.0, same),
      omega (arith, same, ends-within first.end marks count order.1),
    )
bounds-at start (first ∷ marks) count (suc n) mark order within is =
    bounds-at first.end marks count n mark order.1 (omega (arith, within)) is
