-- What is known between two lines, and what a network makes of an event.
use Rattle.std.specs.Prelude.{ℕ, ◌+◌, ◌≡◌, ◌==◌, Bool, false, List, map, Option, Some, None, IsSomeAnd, option_map}
use Rattle.std.specs.Prelude.{if◌then◌else◌}
use Rattle.network.specs.Network.{Network, step}
use Rattle.network.specs.NetworkView.{NetworkState, new_network, took_event}
use Rattle.ap_config.specs.Places.{setting_in}
use Rattle.ap_config.specs.declared.config.RadioConfig.{RadioConfig}
use Rattle.events.specs.declared.event.Event.{Event}
use Rattle.events.specs.declared.event.Event.TheVariants.{Air, Wire, Tick}
use Rattle.network.specs.declared.network.NetworkRefusal.{NetworkRefusal}
use Rattle.network.specs.declared.network.NetworkRefusal.TheVariants.{NoMemory, Clock}

-- A moment, between two lines: how many lines have ended, skipped ones too; and of each network by its place how many
-- events it took, and what these made of it but for the frames that it sent (profile).
pub record Moment : Type 0 where
  pub lines : ℕ
  pub networks : List NetworkState

-- before the first line
abbrev pub first_moment : RadioConfig → Moment
first_moment c = record { lines = 0; networks = map (λ n. new_network (setting_in c n)) c.networks }

-- a line more has ended
abbrev pub one_line_more : Moment → Moment
one_line_more m = record m { lines = m.lines + 1 }

-- the address of a network (IEEE 802.11-2016, 9.2.4.3.4)
abbrev pub bssid_of : NetworkState → List ℕ
bssid_of n = n.setting.network.bssid

-- the addresses of the networks, in order of place
abbrev pub bssids_at : Moment → List (List ℕ)
bssids_at m = map bssid_of m.networks

-- ---- one network

-- What a network replies to an event: the frames that it sends on the air and then those on the wire; or that it
-- refuses the event, and why.
pub data Reply : Type 0 where
  Sends : (air wire : List (List ℕ)) → Reply
  Refuses : NetworkRefusal → Reply

-- A beacon interval is to begin, and as many began as its clock of 32 bits can count (profile).
abbrev pub is_past_clock : NetworkState → Event → Bool
is_past_clock n (Air x) = false
is_past_clock n (Wire y) = false
is_past_clock n Tick = n.network.clock == 4294967295

-- the network with the frames that an event makes it send
abbrev pub sending : NetworkState → Event → Network
sending n e = step n.setting n.network e

-- the reply where memory suffices
abbrev pub reply_of : NetworkState → Event → Reply
reply_of n e = if is_past_clock n e then Refuses Clock else Sends (sending n e).air (sending n e).wire

-- A network may refuse any event for memory, but for one that its clock can't count; and it does nothing else
-- than to reply so.
abbrev pub MayReply : NetworkState → Event → Reply → Type 0
MayReply n e (Refuses NoMemory) = is_past_clock n e ≡ false
MayReply n e (Refuses Clock) = Refuses Clock ≡ reply_of n e
MayReply n e (Sends air wire) = Sends air wire ≡ reply_of n e

-- ---- at most one event of a network

-- its reply to the event, if there is one
abbrev pub reply_if : NetworkState → Option Event → Option Reply
reply_if n event = option_map (reply_of n) event

-- None to no event, and to an event one that it may reply
abbrev pub MayReplyIf : NetworkState → Option Event → Option Reply → Type 0
MayReplyIf n None reply = reply ≡ None
MayReplyIf n (Some e) reply = IsSomeAnd reply (λ r. MayReply n e r)

-- the event that it took: the one that there is, unless it refused it
abbrev pub taken_if : Option Event → Option Reply → Option Event
taken_if (Some e) (Some (Sends air wire)) = Some e
taken_if event reply = None

-- the network after it
abbrev pub after_if : NetworkState → Option Event → NetworkState
after_if n None = n
after_if n (Some e) = took_event e n
