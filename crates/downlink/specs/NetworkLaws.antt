-- What becomes of the frames of a network, over any list of calls: each receiver's are those of a receiver alone.
use Rattle.std.specs.Prelude.{ℕ, ◌≡◌, List, Some, slice_get}
use Rattle.downlink.specs.Receiver.{Queue}
use Rattle.downlink.specs.Calls.{after, answers}
use Rattle.downlink.specs.Parts.{own_answers}
use Rattle.downlink.specs.Networks.{Network, NetworkCall, network_after, network_answers, calls_to}

-- a receiver of a network is, and is answered, what it would be alone by the calls that go to it
abbrev pub IsReceiverAlone : Type 0
IsReceiverAlone = (n : Network) (calls : List NetworkCall) (receiver : ℕ) (q : Queue)
    → slice_get n.receivers receiver ≡ Some q
    → let own = calls_to receiver n calls in
    (slice_get (network_after n calls).receivers receiver ≡ Some (after q own))
    × (own_answers receiver (network_answers n calls) ≡ answers q own)
