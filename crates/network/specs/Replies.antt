-- What a reply makes of a network (profile).
use Rattle.std.specs.Prelude.{ℕ, ◌+◌, ◌<◌, ◌≡◌, nat_lt, false, ◌&&◌, List, [], ◌∷◌, ◌++◌, Option, Some, None}
use Rattle.std.specs.Prelude.{option_to_list}
use Rattle.powersave.specs.declared.unit.Unit.{Unit as DataUnit}
use Rattle.network.specs.Units.{unit_frame, others_follow}
use Rattle.roster.specs.KeptUnits.{is_too_old}
use Rattle.powersave.specs.Keep.{units_for, without_oldest}
use Rattle.powersave.specs.declared.unit.Whom.TheVariants.{One, Group}
use Rattle.ap_config.specs.declared.setting.Setting.{Setting}
use Rattle.network.specs.Network.{Network, next_sequence, drop_lost}
use Rattle.stations.specs.Stations.{Table, changed, is_dozing, IsAllowed, IsModeAlone}
use Rattle.roster.specs.declared.keeping.Leaving.{Leaving}
use Rattle.roster.specs.declared.keeping.Leaving.TheVariants as leavings
use Rattle.stations.specs.declared.table.Change.TheVariants as changes
use Rattle.network.specs.declared.reply.Reply.{Reply}
use Rattle.roster.specs.Keeping.{IsWithin, kept_after}

-- ---- the reply

-- a network whose next frame has this sequence number does nothing
abbrev pub no_reply : ℕ → Reply
no_reply sequence = record {
  change = changes.Nothing;
  keeping = record { leaving = leavings.Nothing; arriving = None };
  frames = [];
  sequence = sequence;
  wired = None;
  lost = 0;
  unread = 0;
  clock = 0;
  served = None;
  spare = tt;
}

-- one that serves the poll of a station, and does nothing else
abbrev pub serves : List ℕ → ℕ → Reply
serves from sequence = record (no_reply sequence) { served = Some from }

-- the network after a reply, effect by effect
abbrev pub after_reply : Reply → Network → Network
after_reply r n = record {
  stations = changed r.change n.stations;
  kept = kept_after r.keeping n.kept;
  clock = n.clock + r.clock;
  sequence = r.sequence;
  lost = n.lost + r.lost;
  unread = n.unread + r.unread;
  air = n.air ++ r.frames;
  wire = n.wire ++ option_to_list r.wired;
}

-- the reply can be carried out as it stands: it serves no poll
pub record IsFitting (s : Setting) (r : Reply) (n : Network) : Type 0 where
  pub alone : r.served ≡ None
  pub change : IsAllowed s.network.max_stations r.change n.stations
  pub keeping : IsWithin s.network.quota r.change r.keeping.leaving n.stations n.kept r.keeping.arriving

-- the reply that sends a frame too
abbrev pub sending : Reply → (ℕ → List ℕ) → Reply
sending r frame = record r { frames = r.frames ++ frame r.sequence ∷ []; sequence = next_sequence r.sequence }

-- ---- polls (11.2.3.6)

-- the first of these units, which are kept for a station, is sent
abbrev pub serving : Setting → List DataUnit → Reply → Reply
serving s [] r = r
serving s (u ∷ us) r = sending r (unit_frame s.network.bssid (others_follow us) u)

-- ---- outcomes

-- what a network does about an event
pub data Outcome : Type 0 where
  -- what a reply says
  Replied : (reply : Reply) → Outcome
  -- it serves the poll of a station, and nothing else
  Served : (from : List ℕ) → Outcome

-- the outcome, by the station whose poll is served, if one is, and by the reply where none is
abbrev pub outcome_by : Option (List ℕ) → Reply → Outcome
outcome_by None r = Replied r
outcome_by (Some from) r = Served from

-- the outcome of a reply
abbrev pub outcome : Reply → Outcome
outcome r = outcome_by r.served r

-- the reply of an outcome: that to a poll sends the first unit that is kept for the station
abbrev pub reply_of : Setting → Outcome → Network → Reply
reply_of s (Replied r) n = r
reply_of s (Served from) n = serving s (units_for (One from) n.kept) (no_reply n.sequence)

-- the network once the unit that a poll brings was taken out
abbrev pub unit_taken : Outcome → Network → Network
unit_taken (Replied r) n = n
unit_taken (Served from) n = record n { kept = without_oldest (One from) n.kept }

-- the network that the reply of an outcome is carried out on: where a beacon interval begins, units age first
abbrev pub before_outcome : Setting → Outcome → Network → Network
before_outcome s (Replied r) n =
    drop_lost (λ entry. (nat_lt 0 r.clock && s.network.aging) && is_too_old n.clock n.stations entry) n
before_outcome s (Served from) n = unit_taken (Served from) n

-- the network after an outcome
abbrev pub after_outcome : Setting → Outcome → Network → Network
after_outcome s o n = after_reply (reply_of s o n) (before_outcome s o n)

-- the network after the answer to a request, with which no unit ages
abbrev pub after_answer : Setting → Outcome → Network → Network
after_answer s o n = after_reply (reply_of s o n) (unit_taken o n)

-- ---- a reply that sets a mode, to which something is added

-- units of a station leave at most, which is active then
abbrev pub IsAwake : Leaving → Table → Type 0
IsAwake leavings.Nothing table = Unit {0}
IsAwake (leavings.All (One addr)) table = is_dozing addr table ≡ false
IsAwake (leavings.All Group) table = ⊥

-- a reply to which the delivery of a unit can be added: it sets the mode of one station at most, units leave for one
-- that is active then, no unit comes, is lost or goes on the wire, and no poll is served
pub record IsModeReply (r : Reply) (n : Network) : Type 0 where
  pub change : IsModeAlone r.change
  pub awake : IsAwake r.keeping.leaving (changed r.change n.stations)
  pub none_arrives : r.keeping.arriving ≡ None
  pub sequence : r.sequence < 4096
  pub lost : r.lost ≡ 0
  pub wired : r.wired ≡ None
  pub alone : r.served ≡ None
