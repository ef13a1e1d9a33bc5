-- What contracts see of the air queue and of the passes to it (profile).
use Rattle.std.specs.Prelude.{ℕ, ◌≡◌, ◌<◌, refl, All, List, [], Some, map}
use Rattle.std.specs.List.{AllByRecursion, range_with_len}
use Rattle.std.specs.Ordering.{nat_cmp}
use Rattle.std.specs.FinMap as finite
use Rattle.std.specs.Coded.{Coded, code_by, coded×, coded_ℕ, coded_list}
use Rattle.atomic_table.specs.Seated.{TableId, table_id_coded}
use Rattle.events.specs.Items.{items_of}
use Rattle.events.specs.declared.air_item.AirItem.{AirItem}

-- which queue it is: no two have one name
abbrev pub QueueName : Type 0
QueueName = TableId

-- what the networks had pushed whose passes were taken in, by place
abbrev pub TakenIn : Type 0
TakenIn = finite.FinMap nat_cmp (List (List ℕ))

-- the queue's name, and how many frames it holds at most
pub record QueueView : Type 0 where
  pub name : QueueName
  pub capacity : ℕ

-- a network's pass: of which queue, the network's place, and the frames that it pushed, in order
pub record NetPassView : Type 0 where
  pub name : QueueName
  pub place : ℕ
  pub pushed : List (List ℕ)

-- the radio's pass: of which queue, what left it, in order, how many passes networks were given, what was taken in of
-- them, and for how many frames more there is room in the list of what left
pub record RadioPassView : Type 0 where
  pub name : QueueName
  pub left : List AirItem
  pub networks : ℕ
  pub taken_in : TakenIn
  pub spare : ℕ

-- the radio's pass whose frames are handed out: the same, but for the list
pub record PopPassView : Type 0 where
  pub name : QueueName
  pub left : List AirItem
  pub networks : ℕ
  pub taken_in : TakenIn

-- A queue to which nobody pushes any more: what left it, in order, how many networks were given a pass, and what these
-- had pushed, by place.
pub record ClosedView : Type 0 where
  pub left : List AirItem
  pub networks : ℕ
  pub taken_in : TakenIn

-- how proofs tell such passes apart: by their fields, one after the other
abbrev pub item_code : Coded AirItem
item_code =
    code_by (ℕ × List ℕ) (coded× coded_ℕ (coded_list coded_ℕ)) (λ x. (x.place, x.octets)) (λ p. record {
      place = p.0;
      octets = p.1;
    }) (λ _. refl)

abbrev pub taken_in_code : Coded TakenIn
taken_in_code = finite.code coded_ℕ (coded_list (coded_list coded_ℕ))

abbrev pub radio_pass_code : Coded RadioPassView
radio_pass_code =
    code_by (QueueName × (List AirItem × (ℕ × (TakenIn × ℕ))))
    (coded× table_id_coded (coded× (coded_list item_code) (coded× coded_ℕ (coded× taken_in_code coded_ℕ))))
    (λ p. (p.name, (p.left, (p.networks, (p.taken_in, p.spare)))))
    (λ p. record { name = p.0; left = p.1.0; networks = p.1.1.0; taken_in = p.1.1.1.0; spare = p.1.1.1.1 })
    (λ _. refl)

abbrev pub pop_pass_code : Coded PopPassView
pop_pass_code =
    code_by (QueueName × (List AirItem × (ℕ × TakenIn)))
    (coded× table_id_coded (coded× (coded_list item_code) (coded× coded_ℕ taken_in_code)))
    (λ p. (p.name, (p.left, (p.networks, p.taken_in))))
    (λ p. record { name = p.0; left = p.1.0; networks = p.1.1.0; taken_in = p.1.1.1 })
    (λ _. refl)

abbrev pub closed_code : Coded ClosedView
closed_code =
    code_by (List AirItem × (ℕ × TakenIn)) (coded× (coded_list item_code) (coded× coded_ℕ taken_in_code))
    (λ c. (c.left, (c.networks, c.taken_in))) (λ p. record { left = p.0; networks = p.1.0; taken_in = p.1.1 })
    (λ _. refl)

-- ---- the passes of a new queue

abbrev pub fresh_pass : QueueName → ℕ → NetPassView
fresh_pass name place = record { name = name; place = place; pushed = [] }

-- one pass for each network, in order of place
abbrev pub fresh_passes : QueueName → ℕ → List NetPassView
fresh_passes name networks = map (fresh_pass name) (range_with_len 0 networks)

-- nothing left, and nothing was taken in
abbrev pub fresh_radio : QueueName → ℕ → ℕ → RadioPassView
fresh_radio name networks spare = record {
  name = name;
  left = [];
  networks = networks;
  taken_in = finite.empty;
  spare = spare;
}

-- ---- the passes that come back

-- all passes that the networks of a queue were given, in order of place
pub record AllThere (name : QueueName) (networks : ℕ) (passes : List NetPassView) : Type 0 where
  pub named : AllByRecursion (λ pass. pass.name ≡ name) passes
  pub placed : map (λ pass. pass.place) passes ≡ range_with_len 0 networks

-- ---- what was taken in

-- of each of these passes it has what was pushed with it
abbrev pub HasEach : TakenIn → List NetPassView → Type 0
HasEach taken_in passes = AllByRecursion (λ pass. finite.get taken_in pass.place ≡ Some pass.pushed) passes

-- what left of each network whose pass was taken in is what was pushed with it, in that order, and nothing else left
pub record IsDrained (queue : ClosedView) : Type 0 where
  pub whole :
      (place : ℕ) (pushed : List (List ℕ))
      → finite.get queue.taken_in place ≡ Some pushed
      → items_of place queue.left ≡ pushed
  pub nothing_else : All (λ item. item.place < queue.networks) queue.left
