use Rattle.std.proofs.Common.{◌≡◌, ◌+◌, ◌++◌, ◌∷◌, [], ℕ, List, sym, ◌∙◌, vec_len, append_assoc}
use Rattle.std.specs.Vec.Iter.{into_iter_items}
use Rattle.events.specs.declared.air_item.AirItem.{AirItem}
use Rattle.events.specs.Items.{items_of}
use Rattle.network.specs.BssView.{BssView, section_with}
use Rattle.workers.specs.Ending.{items_at, sections_from, waiting_from}
use Rattle.workers.proofs.finish.end_networks.Goals as goal

pub loop-network-preserved : goal.loop-network-preserved
loop-network-preserved c =
    let i = c.loop-network.invariant in
    let left : List AirItem = c.args.left.now in
    let b : BssView = c.in-Some.network in
    let rest : List BssView = into_iter_items c.next.new.self in
    let place : ℕ = vec_len c.loop-network.sections in
    let at : ℕ = c.len-place.result in
    let here : at ≡ place = c.len-place.ensures in
    let more : vec_len c.push.new.self ≡ place + 1 = c.in_ok-push.ensures.len in
    record {
      sections = (λ k. c.in_ok-push.ensures.items k ++ sections_from left (more k) rest)
          ∙ append_assoc c.loop-network.sections.items (c.in_ok-end_network.field-0 ∷ []) (sections_from left (place + 1) rest)
          ∙ (λ k. c.loop-network.sections.items ++ c.in_ok-end_network.ensures.section k ∷ sections_from left (place + 1) rest)
          ∙ (λ k. c.loop-network.sections.items ++ section_with (items_of (here k) left ++ b.waiting) b ∷ sections_from left (place + 1) rest)
          ∙ (λ k. c.loop-network.sections.items ++ sections_from left place (sym c.in-Some.ensures.steps.0 k)) ∙ i.sections;
      waited = (λ k. c.in_ok-end_network.ensures.waited k ++ waiting_from (more k) rest)
          ∙ append_assoc c.loop-network.waited.items (items_at at b.waiting) (waiting_from (place + 1) rest)
          ∙ (λ k. c.loop-network.waited.items ++ (items_at (here k) b.waiting ++ waiting_from (place + 1) rest))
          ∙ (λ k. c.loop-network.waited.items ++ waiting_from place (sym c.in-Some.ensures.steps.0 k)) ∙ i.waited;
    }
