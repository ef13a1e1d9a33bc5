use Rattle.std.proofs.Common.{◌≡◌, ◌++◌, ◌∷◌, [], ℕ, List, Ok, length, sym, ap, subst, ◌∙◌, arith, append_assoc}
use Rattle.std.proofs.lemmas.List.{append-nil}
use Rattle.std.proofs.lemmas.Slice.Zip.{all_zipped_more}
use Rattle.std.specs.Vec.Iter.{into_iter_items}
use Rattle.events.specs.declared.line.Line.{Line}
use Rattle.text_io.specs.Endings.{Gives}
use Rattle.text_io.specs.Faults.{read_ending}
use Rattle.trace.specs.TraceText.{lines_of}
use Rattle.play_text.proofs.Parts.{next_pair, no_pair}
use Rattle.play_text.proofs.PlayEnds.{fault_met}
use Rattle.play_text.proofs.traces.read_traces.Goals as goal

pub returns-in-Err : goal.returns-in-Err
returns-in-Err g c =
    let i = c.loop-lines.invariant in
    let next = next_pair (λ text answer. Gives (λ lines. lines) read_ending answer (lines_of c.args.config.now text)) i.1 _ c.in-Some.lines (into_iter_items c.next.new.self) c.in-Some.ensures.steps.0 i.4 in
    let text : List ℕ = next.0 in
    let parts : c.args.traces.now ≡ i.0 ++ text ∷ next.1 = i.2 ∙ ap (λ (ts : List (List ℕ)). i.0 ++ ts) next.2 in
    let count : c.len.result ≡ length c.loop-lines.sources.items = c.len.ensures ∙ c.loop-lines.sources.ok.0 in
    let gives = next.3 in
    rw c.in_trace.ensures
    (fault_met c.args.config.now c.args.traces.now i.0 text next.1 c.loop-lines.sources.items c.len.result c.in-Err.fault parts i.3 count
    (subst (λ a. Gives (λ lines. lines) read_ending a (lines_of c.args.config.now text)) c.in-Err.is gives))

pub loop-lines-preserved : goal.loop-lines-preserved
loop-lines-preserved g c =
    let i = c.loop-lines.invariant in
    let next = next_pair (λ text answer. Gives (λ lines. lines) read_ending answer (lines_of c.args.config.now text)) i.1 _ c.in-Some.lines (into_iter_items c.next.new.self) c.in-Some.ensures.steps.0 i.4 in
    let text : List ℕ = next.0 in
    let sources : List (List Line) = c.loop-lines.sources.items in
    let pushed : c.push.new.self.items ≡ sources ++ c.in-Ok.lines ∷ [] = c.in_ok-push-in-Ok.ensures.items in
    let gives = next.3 in (
      i.0 ++ text ∷ [],
      next.1,
      i.2 ∙ ap (λ (ts : List (List ℕ)). i.0 ++ ts) next.2 ∙ sym (append_assoc i.0 (text ∷ []) next.1),
      rw pushed
          (all_zipped_more (λ text lines. lines_of c.args.config.now text ≡ Ok lines) i.0 sources text c.in-Ok.lines i.3 (subst (λ a. Gives (λ lines. lines) read_ending a (lines_of c.args.config.now text)) c.in-Ok.is gives)),
      next.4,
    )

pub returns : goal.returns
returns g c =
    let i = c.loop-lines.invariant in
    let left : length (into_iter_items c.loop-lines.lines-iterator) ≡ 0 = omega (arith, c.loop-lines.lines-iterator.rest.ok, c.in-None.ensures.steps.0) in
    let none = no_pair (λ text answer. Gives (λ lines. lines) read_ending answer (lines_of c.args.config.now text)) i.1 (into_iter_items c.loop-lines.lines-iterator) left i.4 in
    let all : c.args.traces.now ≡ i.0 = i.2 ∙ ap (λ (ts : List (List ℕ)). i.0 ++ ts) none ∙ append-nil i.0 in
    rw all i.3
