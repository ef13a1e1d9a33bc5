-- The rule of the air queue (profile), which each step of each thread keeps: over what the queue holds, oldest first,
-- and what each pass knows. A pass has a number, and what it knows stands in the list of all passes at that number.
use Rattle.std.specs.Prelude.{ℕ, ◌+◌, ◌<◌, ◌≡◌, All, List, [], ◌∷◌, ◌++◌, Some, None, IsSome}
use Rattle.std.specs.FinMap as finite
use mathlib.Core.Option.{some}
use lib.ListN.{get_elem?}
use Rattle.air_queue.specs.Passes.{TakenIn, NetPassView}
use Rattle.air_queue.specs.declared.known.Known.{Known}
use Rattle.air_queue.specs.declared.known.Known.TheVariants.{Network, Radio, Spent}
use Rattle.events.specs.Items.{items_of}
use Rattle.events.specs.declared.air_item.AirItem.{AirItem}

-- ---- the rule

-- `all` is every frame that was ever pushed: what left, and then what is queued
pub record IsKept (queued : List AirItem) (passes : List Known) : Type 0 where
  pub left : List AirItem
  pub networks : ℕ
  pub taken_in : TakenIn
  pub all : List AirItem
  pub parts : all ≡ left ++ queued
  -- there is one pass of the radio
  pub radio : ℕ
  pub radio_pass : get_elem? passes radio ≡ some (Radio left networks taken_in)
  pub one_radio :
      (number : ℕ) (out : List AirItem) (given : ℕ) (taken : TakenIn)
      → get_elem? passes number ≡ some (Radio out given taken)
      → number ≡ radio
  -- each network whose pass was not taken in has one, which knows just what is there of the network
  pub seat : ℕ → ℕ
  pub net_pass :
      (place : ℕ)
      → place < networks
      → finite.get taken_in place ≡ None
      → get_elem? passes (seat place) ≡ some (Network place (items_of place all))
  pub one_net_pass :
      (number place : ℕ) (pushed : List (List ℕ))
      → get_elem? passes number ≡ some (Network place pushed)
      → (number ≡ seat place) × (place < networks) × (finite.get taken_in place ≡ None) × (pushed ≡ items_of place all)
  -- of one that was taken in, what it pushed is what is there of the network
  pub taken_in_pass :
      (place : ℕ) (pushed : List (List ℕ))
      → finite.get taken_in place ≡ Some pushed
      → (place < networks) × (pushed ≡ items_of place all)
  -- nothing else is there
  pub placed : All (λ item. item.place < networks) all

-- ---- what a pass knows

-- it is a network's pass, of this place
abbrev pub IsNetworkAt : ℕ → Known → Type 0
IsNetworkAt place (Network at pushed) = at ≡ place
IsNetworkAt place (Radio left networks taken_in) = ⊥
IsNetworkAt place Spent = ⊥

-- it is the radio's pass
abbrev pub IsRadio : Known → Type 0
IsRadio (Network place pushed) = ⊥
IsRadio (Radio left networks taken_in) = Unit {0}
IsRadio Spent = ⊥

-- it is the radio's pass, and this is what left
abbrev pub IsRadioWith : List AirItem → Known → Type 0
IsRadioWith out (Network place pushed) = ⊥
IsRadioWith out (Radio left networks taken_in) = left ≡ out
IsRadioWith out Spent = ⊥

abbrev pub pushed_by : Known → List (List ℕ)
pushed_by (Network place pushed) = pushed
pushed_by (Radio left networks taken_in) = []
pushed_by Spent = []

abbrev pub left_of : Known → List AirItem
left_of (Network place pushed) = []
left_of (Radio left networks taken_in) = left
left_of Spent = []

abbrev pub networks_of : Known → ℕ
networks_of (Network place pushed) = 0
networks_of (Radio left networks taken_in) = networks
networks_of Spent = 0

abbrev pub taken_in_of : Known → TakenIn
taken_in_of (Network place pushed) = finite.empty
taken_in_of (Radio left networks taken_in) = taken_in
taken_in_of Spent = finite.empty

-- ---- the kinds of step

-- making the queue, with the radio's pass: nothing left, and no network has a pass
abbrev pub fresh : Known
fresh = Radio [] 0 finite.empty

-- a network is given its pass, of the next place: first the radio's pass, then the new one
abbrev pub giving : Known → Known
giving (Network place pushed) = Network place pushed
giving (Radio left networks taken_in) = Radio left (networks + 1) taken_in
giving Spent = Spent

abbrev pub given : Known → Known
given (Network place pushed) = Spent
given (Radio left networks taken_in) = Network networks []
given Spent = Spent

-- a push that adds the item
abbrev pub pushing : Known → AirItem → Known
pushing (Network place pushed) item = Network place (pushed ++ item.octets ∷ [])
pushing (Radio left networks taken_in) item = Radio left networks taken_in
pushing Spent item = Spent

-- a pop that takes the item
abbrev pub leaving : Known → AirItem → Known
leaving (Network place pushed) item = Network place pushed
leaving (Radio left networks taken_in) item = Radio (left ++ item ∷ []) networks taken_in
leaving Spent item = Spent

-- a network's pass is taken in: the radio's pass; the other is spent
abbrev pub taking_in : Known → Known → Known
taking_in (Radio left networks taken_in) (Network place pushed) =
    Radio left networks (finite.insert taken_in place pushed)
taking_in (Radio left networks taken_in) (Radio out given taken) = Radio left networks taken_in
taking_in (Radio left networks taken_in) Spent = Radio left networks taken_in
taking_in (Network place pushed) other = Network place pushed
taking_in Spent other = Spent

-- the radio's pass, once these passes were taken in, the first of them first
abbrev pub after_taking : Known → List NetPassView → Known
after_taking known [] = known
after_taking known (pass ∷ passes) = after_taking (taking_in known (Network pass.place pass.pushed)) passes

-- ---- what the radio's pass learns

-- each network whose pass was taken in pushed what left of it and then what is queued of it; nothing is there of a
-- place that no network was given
abbrev pub Accounts : Known → List AirItem → Type 0
Accounts (Network place pushed) queued = Unit {0}
Accounts (Radio left networks taken_in) queued =
    All (λ item. item.place < networks) (left ++ queued)
    × ((place : ℕ) (pushed : List (List ℕ))
    → finite.get taken_in place ≡ Some pushed
    → pushed ≡ items_of place (left ++ queued))
Accounts Spent queued = Unit {0}

-- each network's pass was taken in
abbrev pub AllTaken : Known → Type 0
AllTaken known = (place : ℕ) → place < networks_of known → IsSome (finite.get (taken_in_of known) place)
