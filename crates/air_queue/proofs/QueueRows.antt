-- Steps of a queue for two networks, computed: what each pass knows after them.
use Rattle.std.proofs.Common.{◌≡◌, ℕ, [], ◌∷◌, refl}
use Rattle.std.specs.FinMap as finite
use Rattle.events.specs.Items.{items_of}
use Rattle.events.specs.declared.air_item.AirItem.{AirItem}
use Rattle.air_queue.specs.Passes.{QueueName, fresh_pass, fresh_passes}
use Rattle.air_queue.specs.Rule.{fresh, giving, given, pushing, leaving, taking_in}
use Rattle.air_queue.specs.declared.known.Known.TheVariants.{Network, Radio}

-- a frame of one octet
item : ℕ → ℕ → AirItem
item place octet = record { place = place; octets = octet ∷ [] }

-- each network is given the pass of the next place
two_passes : given (giving fresh) ≡ Network 1 []
two_passes = refl

radio_after_two_passes : giving (giving fresh) ≡ Radio [] 2 finite.empty
radio_after_two_passes = refl

passes_in_order_of_place : (name : QueueName) → fresh_passes name 2 ≡ fresh_pass name 0 ∷ fresh_pass name 1 ∷ []
passes_in_order_of_place name = refl

-- a pass knows what was pushed with it, in order
frames_in_order : pushing (pushing (given fresh) (item 0 1)) (item 0 3) ≡ Network 0 ((1 ∷ []) ∷ (3 ∷ []) ∷ [])
unfolding item
frames_in_order = refl

-- what left, in order, whatever network it is of
left_in_order : leaving (leaving (giving (giving fresh)) (item 0 1)) (item 1 2) ≡ Radio (item 0 1 ∷ item 1 2 ∷ []) 2 finite.empty
left_in_order = refl

-- of what left, each network has its own
frames_of_the_first : items_of 0 (item 0 1 ∷ item 1 2 ∷ item 0 3 ∷ []) ≡ (1 ∷ []) ∷ (3 ∷ []) ∷ []
unfolding item
frames_of_the_first = refl

frames_of_the_second : items_of 1 (item 0 1 ∷ item 1 2 ∷ item 0 3 ∷ []) ≡ (2 ∷ []) ∷ []
unfolding item
frames_of_the_second = refl

-- a pass that is taken in leaves its list at its place
first_is_taken_in : taking_in (giving fresh) (pushing (given fresh) (item 0 1)) ≡ Radio [] 1 (finite.insert finite.empty 0 ((1 ∷ []) ∷ []))
unfolding item
first_is_taken_in = refl
