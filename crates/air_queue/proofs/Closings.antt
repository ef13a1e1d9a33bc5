-- A queue to which nobody pushes any more.
use Rattle.std.proofs.Common.{◌≡◌, List, map, [], ◌++◌, ◌∷◌, Option, Some, None, sym, ap, subst, ◌∙◌}
use Rattle.std.specs.Prelude.{All, MatchOption, ◌<◌}
use Rattle.std.specs.List.{range_with_len}
use Rattle.std.specs.FinMap as finite
use Rattle.std.proofs.lemmas.List.{append-nil}
use Rattle.events.specs.Items.{items_of}
use Rattle.events.specs.declared.air_item.AirItem.{AirItem}
use Rattle.air_queue.specs.Passes.{NetPassView, ClosedView, HasEach, IsDrained}
use Rattle.air_queue.specs.Rule.{IsRadio, IsRadioWith, Accounts, left_of, networks_of, taken_in_of, after_taking}
use Rattle.air_queue.specs.declared.known.Known.{Known}
use Rattle.air_queue.specs.declared.known.Known.TheVariants.{Network, Radio, Spent}
use Rattle.air_queue.proofs.Takings.{radio_is, radio_with, left_in, is_radio, networks_in, each_in}

pub radio_after : (v : Known) (passes : List NetPassView) → IsRadio v → IsRadio (after_taking v passes)
radio_after v passes is = is_radio (left_of v) (after_taking v passes) (left_in (left_of v) v passes (radio_with v is))

with_left : (out : List AirItem) (v : Known) → IsRadioWith out v → left_of v ≡ out
with_left out v is = ap left_of (radio_is out v is)

pub left_after : (v : Known) (passes : List NetPassView) → IsRadio v → left_of (after_taking v passes) ≡ left_of v
left_after v passes is = with_left (left_of v) (after_taking v passes) (left_in (left_of v) v passes (radio_with v is))

pub networks_after : (v : Known) (passes : List NetPassView) → IsRadio v → networks_of (after_taking v passes) ≡ networks_of v
networks_after v passes is = networks_in (left_of v) v passes (radio_with v is)

pub each_after : (v : Known) (passes : List NetPassView) → IsRadio v → taken_in_of v ≡ finite.empty
    → map (λ pass. pass.place) passes ≡ range_with_len 0 (networks_of v) → HasEach (taken_in_of (after_taking v passes)) passes
each_after v passes is new placed = each_in (left_of v) v passes (radio_with v is) new placed

-- nothing is queued
drained : (v : Known) → IsRadio v → Accounts v []
    → IsDrained (record { left = left_of v; networks = networks_of v; taken_in = taken_in_of v })
drained (Network place pushed) is account = absurd is
drained (Radio left networks taken_in) is account = record {
  whole = λ place pushed there.
      ap (items_of place) (sym (append-nil left)) ∙ sym (account.1 place pushed there);
  nothing_else = subst (λ (items : List AirItem). All (λ item. item.place < networks) items) (append-nil left) account.0;
}
drained Spent is account = absurd is

abbrev view_of : Known → ClosedView
view_of v = record { left = left_of v; networks = networks_of v; taken_in = taken_in_of v }

pub popped : (v w : Known) (before : ClosedView) (result : Option AirItem) → IsRadio v → view_of v ≡ before
    → MatchOption result ((w ≡ v) × Accounts v [])
    (λ item. (item.place < networks_of v) × (left_of w ≡ left_of v ++ item ∷ []))
    → MatchOption result ((view_of w ≡ before) × IsDrained (view_of w))
    (λ item. (item.place < before.networks) × (left_of w ≡ before.left ++ item ∷ []))
popped v w before None is same h = (
  ap view_of h.0 ∙ same,
  subst (λ (u : Known). IsDrained (view_of u)) (sym h.0) (drained v is h.1),
)
popped v w before (Some item) is same h =
    subst (λ (b : ClosedView). (item.place < b.networks) × (left_of w ≡ b.left ++ item ∷ [])) same h
