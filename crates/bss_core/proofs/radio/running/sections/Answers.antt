use Rattle.std.proofs.Common.{◌≡◌, ◌++◌, ◌∷◌, [], List, ℕ, length, map, sym, ap, ◌∙◌}
use Rattle.std.specs.List.{enumerate_from}
use Rattle.std.specs.Vec.Iter.{into_iter_items}
use Rattle.network.specs.BssView.{section_with, BssView}
use Rattle.bss_core.specs.Running.{frames_of}
use Rattle.events.specs.declared.section.Section.{Section}
use Rattle.events.specs.declared.air_item.AirItem.{AirItem}
use Rattle.bss_core.proofs.RunSections.{ended-next}
use Rattle.bss_core.proofs.radio.running.sections.Goals as goal

pub loop-network-preserved : goal.loop-network-preserved
loop-network-preserved c =
    let left : List AirItem = c.args.left.now in
    let queued : List AirItem = c.args.queued.now in
    let done : List Section = c.loop-network.sections.items in
    let s : BssView = c.in-Some.network in
    let rest : List BssView = into_iter_items c.next.new.self in
    let one : Section = section_with (frames_of left queued (length done) s) s in
    let from : List BssView → List Section = λ states. done ++ map (λ (n : ℕ × BssView). section_with (frames_of left queued n.0 n.1) n.1) (enumerate_from (length done) states) in
    let place : c.len-place.result ≡ length done = c.len-place.ensures ∙ c.loop-network.sections.ok.0 in
    let made : c.in_ok-section.field-0 ≡ one = c.in_ok-section.ensures ∙ ap (λ p. section_with (frames_of left queued p s) s) place in
    let now : c.push.new.self.items ≡ done ++ one ∷ [] = c.in_ok-push.ensures.items ∙ ap (λ (x : Section). done ++ x ∷ []) made in
    ap (λ (ss : List Section). ss ++ map (λ (n : ℕ × BssView). section_with (frames_of left queued n.0 n.1) n.1) (enumerate_from (length ss) rest)) now
    ∙ sym (ended-next left queued done s rest) ∙ ap from (sym c.in-Some.ensures.steps.0)
    ∙ c.loop-network.invariant
