-- Each text is that of its part.
use Rattle.std.proofs.Common.{◌≡◌, ◌++◌, ◌∷◌, [], ℕ, List, length, sym, ap, subst, ◌∙◌, arith, append-nil, append_assoc}
use Rattle.std.specs.Prelude.{flat_map, IfOk}
use Rattle.std.specs.Vec.Iter.{into_iter_items}
use Rattle.std.proofs.lemmas.List.Concat.{flat_map-append}
use Rattle.report.specs.Report.{frame_line}
use Rattle.play_text.proofs.Parts.{texts_by_place, next_pair, no_pair, flat_parts}
use Rattle.play_text.proofs.reporting.texts_of.Goals as goal

pub loop-text-init : goal.loop-text-init
loop-text-init g c =
    let f : List (List ℕ) → List ℕ = λ part. flat_map (frame_line c.args.word.now) part in
    let parts : List (List (List ℕ)) = c.in_ok-parts.parts.items in
    let count : length parts ≡ length c.in_ok-texts.texts.items =
    sym c.in_ok-parts.parts.ok.0 ∙ sym c.in_ok-texts.ensures.len ∙ c.in_ok-texts.texts.ok.0 in (
      [],
      parts,
      c.in_ok-parts.ensures,
      ap (flat_map (λ t. t)) c.in_ok-all.ensures.items,
      rw c.into_iter-text-iterator.ensures.into_iter_gives.0
          (texts_by_place f parts c.in_ok-texts.texts.items count
          (λ i d e within.
          let given = (c.in_ok-texts.ensures.each i e within).1 in
          rw (given.job_is d) given.call.met)),
    )

pub loop-text-preserved : goal.loop-text-preserved
loop-text-preserved g c =
    let f : List (List ℕ) → List ℕ = λ part. flat_map (frame_line c.args.word.now) part in
    let (before, after, whole, texts, rest) = c.loop-text.invariant in
    let next = next_pair (λ part text. IfOk text (λ t. t ≡ f part)) after _ c.in-Some.text (into_iter_items c.next.new.self) c.in-Some.ensures.steps.0 rest in
    let part : List (List ℕ) = next.0 in
    let later : List (List (List ℕ)) = next.1 in
    let is : c.in_ok-text.field-0 ≡ f part = subst (λ r. IfOk r (λ t. t ≡ f part)) c.in_ok-text.was next.3 in (
      before ++ part ∷ [],
      later,
      ap (flat_map (λ p. p)) (append_assoc before (part ∷ []) later)
          ∙ ap (λ (ps : List (List (List ℕ))). flat_map (λ p. p) (before ++ ps)) (sym next.2)
          ∙ whole,
      ap (flat_map (λ t. t)) c.in_ok-push.ensures.items
          ∙ flat_map-append (λ (t : List ℕ). t) c.loop-text.all.items (c.in_ok-text.field-0 ∷ [])
          ∙ ap (λ (t : List ℕ). t ++ (c.in_ok-text.field-0 ++ [])) texts
          ∙ ap (λ (t : List ℕ). flat_map f before ++ (t ++ [])) is
          ∙ sym (flat_map-append f before (part ∷ [])),
      next.4,
    )

pub returns : goal.returns
returns g c =
    let f : List (List ℕ) → List ℕ = λ part. flat_map (frame_line c.args.word.now) part in
    let (before, after, whole, texts, rest) = c.loop-text.invariant in
    let left : length (into_iter_items c.loop-text.text-iterator) ≡ 0 =
    omega (arith, c.loop-text.text-iterator.rest.ok, c.in-None.ensures.steps.0) in
    let all : before ≡ before ++ after =
    sym (append-nil before) ∙ ap (λ (ps : List (List (List ℕ))). before ++ ps)
    (sym (no_pair (λ part text. IfOk text (λ t. t ≡ f part)) after (into_iter_items c.loop-text.text-iterator) left rest)) in
    texts ∙ ap (flat_map f) all
    ∙ flat_parts (frame_line c.args.word.now) (before ++ after)
    ∙ ap (flat_map (frame_line c.args.word.now)) whole
