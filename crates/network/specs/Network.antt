-- A network alone: what it does with its own events. No other network, no queue, no capacity and no thread
-- stands in it.
use Rattle.std.specs.Prelude.{ℕ, ◌+◌, ◌%◌, Bool, true, false, not, ◌||◌, ◌&&◌, ◌==◌, nat_lt, is_some, length, List, []}
use Rattle.std.specs.Prelude.{◌∷◌, ◌++◌, map, filter, Option, Some, None, unwrap_or, Result, Ok, Err, if◌then◌else◌}
use Rattle.std.specs.Str.{bytes_eq}
use Rattle.mac_frame.specs.declared.frame.Unread.{Unread}
use Rattle.beacon.specs.ProbeResponse.{Announced, probe_response}
use Rattle.beacon.specs.Beacon.{beacon, dtim_count}
use Rattle.encapsulation.specs.Ethernet.{Ethernet, ethernet_of}
use Rattle.encapsulation.specs.Encapsulation.{on_wire}
use Rattle.powersave.specs.Keep.{Entry, units_for, without_all, without_oldest}
use Rattle.powersave.specs.declared.unit.Whom.{Whom}
use Rattle.powersave.specs.declared.unit.Whom.TheVariants.{One, Group}
use Rattle.powersave.specs.declared.unit.Unit.{Unit as DataUnit}
use Rattle.association.specs.Request.{Request, Probe, Auth, Assoc, Disassoc, Deauth, Msdu, Null, Poll, sender}
use Rattle.association.specs.Request.{request_of}
use Rattle.association.specs.Asked.{class_of}
use Rattle.association.specs.Status.{success}
use Rattle.association.specs.Authentication.{auth_status, authentication}
use Rattle.association.specs.Joining.{assoc_status, association_response}
use Rattle.association.specs.Leaving.{notice_frame}
use Rattle.station_state.specs.ClassFault.{class_fault}
use Rattle.station_state.specs.declared.class.Notice.{Notice}
use Rattle.elements.specs.Elements.{Pair}
use Rattle.stations.specs.Stations.{Table, state_of, standing_with, standing_of, may_associate, next_aid, authenticate}
use Rattle.stations.specs.Stations.{associate, disassociate, forget, set_mode, is_dozing, aid_with, listen_of, dozes}
use Rattle.network.specs.Units.{unit, unit_of, unit_frame, others_follow, delivery_of, goes_on_wire, may_poll}
use Rattle.roster.specs.KeptUnits.{group_is_kept, is_waited_for, is_too_old}
use Rattle.station_state.specs.declared.state.StationState.{StationState}
use Rattle.network.specs.declared.reply.unit.Delivery.{Delivery}
use Rattle.network.specs.declared.reply.unit.Delivery.TheVariants.{Now, Kept, Nowhere}
pub use Rattle.ap_config.specs.declared.setting.Setting.{Setting}
use Rattle.events.specs.declared.event.Event.{Event}
use Rattle.events.specs.declared.event.Event.TheVariants.{Air, Wire, Tick}
use Rattle.events.specs.declared.section.StationRow.{StationRow}
use Rattle.events.specs.declared.section.Counts.{Counts}

-- what a network is at a moment
pub record Network : Type 0 where
  -- the stations that it knows, in order of first authentication
  pub stations : Table
  -- the units that it keeps, each with whom it is for, in order of arrival
  pub kept : List Entry
  -- the beacon intervals that began
  pub clock : ℕ
  -- the sequence number of its next frame
  pub sequence : ℕ
  -- the units that were lost
  pub lost : ℕ
  -- the events that were no request
  pub unread : ℕ
  -- every frame that it ever sent on the air, and on the wire
  pub air : List (List ℕ)
  pub wire : List (List ℕ)

abbrev pub empty_network : Network
empty_network = record { stations = []; kept = []; clock = 0; sequence = 0; lost = 0; unread = 0; air = []; wire = [] }

-- ---- small changes, each named

-- one counter for each network, modulo 4096 (IEEE Std 802.11-2016, 9.2.4.4.2), moves with each frame
abbrev pub next_sequence : ℕ → ℕ
next_sequence sequence = (sequence + 1) % 4096

-- a frame is sent, with the network's sequence number
abbrev pub send : (ℕ → List ℕ) → Network → Network
send frame n = record n { sequence = next_sequence n.sequence; air = n.air ++ frame n.sequence ∷ [] }

abbrev pub count_unread : Network → Network
count_unread n = record n { unread = n.unread + 1 }

-- the stations change
abbrev pub change_stations : (Table → Table) → Network → Network
change_stations change n = record n { stations = change n.stations }

-- all units for one leave
abbrev pub drop_units : Whom → Network → Network
drop_units whom n = record n { kept = without_all whom n.kept }

-- a station's state changes, and no unit is kept for it any more (profile)
abbrev pub change_state : List ℕ → (Table → Table) → Network → Network
change_state addr change n = drop_units (One addr) (change_stations change n)

-- where its request is served
abbrev pub change_where_served : ℕ → List ℕ → (Table → Table) → Network → Network
change_where_served status addr change n = if status == success then change_state addr change n else n

abbrev pub lose : Network → Network
lose n = record n { lost = n.lost + 1 }

-- a unit is kept for one, or lost where as many are kept as may be, whoever they are for (profile)
abbrev pub keep_or_lose : Setting → Whom → DataUnit → Network → Network
keep_or_lose s whom u n =
    if nat_lt (length n.kept) s.network.quota then record n { kept = n.kept ++ (whom, u) ∷ [] } else lose n

-- a unit is sent, with More Data or without
abbrev pub send_unit : Setting → Bool → DataUnit → Network → Network
send_unit s more u n = send (unit_frame s.network.bssid more u) n

-- units are sent in order; where so asked, More Data tells of all but the last that others follow
abbrev pub send_each : Setting → Bool → List DataUnit → Network → Network
send_each s shows_more [] n = n
send_each s shows_more (u ∷ us) n = send_each s shows_more us (send_unit s (shows_more && others_follow us) u n)

-- where the network is so configured, the units that are too old leave, and are lost (profile)
abbrev pub has_aged : Setting → Network → Entry → Bool
has_aged s n entry = s.network.aging && is_too_old n.clock n.stations entry

abbrev pub drop_lost : (Entry → Bool) → Network → Network
drop_lost leaves n =
    record n { kept = filter (λ entry. not (leaves entry)) n.kept; lost = n.lost + length (filter leaves n.kept) }

abbrev pub age_units : Setting → Network → Network
age_units s n = drop_lost (has_aged s n) n

-- a unit goes on the wire, or is lost where it has no wired form (profile)
abbrev pub put_on_wire : Option (List ℕ) → Network → Network
put_on_wire (Some octets) n = record n { wire = n.wire ++ octets ∷ [] }
put_on_wire None n = lose n

-- ---- answers

-- the network as it announces itself at a clock
abbrev pub announced_at : Setting → ℕ → Announced
announced_at s clock = record {
  bss = s.network.bssid;
  ssid = s.network.ssid;
  rates = s.network.rates;
  channel = s.channel;
  interval = s.interval;
  clock = clock;
}

-- A probe asks for the network where it names an SSID, the wildcard one of no octets or the network's (11.1.4.3.4).
abbrev pub asks_for : List ℕ → Option (List ℕ) → Bool
asks_for ssid None = false
asks_for ssid (Some []) = true
asks_for ssid (Some (octet ∷ octets)) = bytes_eq (octet ∷ octets) ssid

abbrev pub answer_probe : Setting → List ℕ → Option (List ℕ) → Network → Network
answer_probe s from ssid n =
    if asks_for s.network.ssid ssid then send (probe_response (announced_at s n.clock) from) n else n

-- there is room for a station: it is known, or fewer are known than may be (profile)
abbrev pub may_be_known : Setting → List ℕ → Network → Bool
may_be_known s addr n = is_some (state_of addr n.stations) || nat_lt (length n.stations) s.network.max_known

-- a request to authenticate is answered with its status (11.3.4.3)
abbrev pub authentication_status : Setting → List ℕ → ℕ → ℕ → Network → ℕ
authentication_status s from algorithm step n = auth_status algorithm step (may_be_known s from n)

abbrev pub answer_authentication : Setting → List ℕ → ℕ → ℕ → Network → Network
answer_authentication s from algorithm step n =
    send (λ sequence.
    authentication from s.network.bssid sequence algorithm (authentication_status s from algorithm step n))
    (change_where_served (authentication_status s from algorithm step n) from (authenticate from) n)

-- a request to associate is answered with its status, and where it is served with the identifier (11.3.5.3, 11.3.5.5)
abbrev pub association_status : Setting → List ℕ → List Pair → Network → ℕ
association_status s from elements n =
    assoc_status s.network.ssid s.network.rates (may_associate s.network.max_stations from n.stations) elements

abbrev pub answer_association : Setting → List ℕ → Bool → ℕ → List Pair → Network → Network
answer_association s from again listen elements n =
    send (λ sequence.
    association_response from s.network.bssid sequence again (association_status s from elements n)
    (next_aid from n.stations) s.network.rates)
    (change_where_served (association_status s from elements n) from (associate from listen) n)

-- ---- units

-- a unit is delivered on the air (11.2.3.2)
abbrev pub deliver_by : Delivery → Setting → DataUnit → Network → Network
deliver_by Now s u n = send_unit s false u n
deliver_by (Kept whom) s u n = keep_or_lose s whom u n
deliver_by Nowhere s u n = n

abbrev pub deliver : Setting → DataUnit → Network → Network
deliver s u n = deliver_by (delivery_of u.to n.stations n.kept) s u n

-- a station's unit is delivered on the air where the network relays (profile), and nowhere there else
abbrev pub relay : Setting → DataUnit → Network → Network
relay s u n = if s.network.relay then deliver s u n else n

-- it goes on the wire too but where it is relayed to one associated station (4.5.2)
abbrev pub forward_by : Bool → Setting → DataUnit → Network → Network
forward_by true s u n = put_on_wire (on_wire u.to u.source u.body) (relay s u n)
forward_by false s u n = relay s u n

abbrev pub forward : Setting → DataUnit → Network → Network
forward s u n = forward_by (goes_on_wire s.network.relay u.to n.stations) s u n

-- The mode of a station is set (11.2.3.2). One that dozed and is active now is sent all units that were kept for it.
abbrev pub set_power_mode : Setting → List ℕ → Bool → Network → Network
set_power_mode s from doze n =
    if is_dozing from n.stations && not doze
    then send_each s false (units_for (One from) n.kept) (change_state from (set_mode from doze) n)
    else change_stations (set_mode from doze) n

-- the first of these units, which are kept for a station, is sent
abbrev pub serve_poll : Setting → List ℕ → List DataUnit → Network → Network
serve_poll s from [] n = n
serve_poll s from (u ∷ us) n = send_unit s (others_follow us) u (record n { kept = without_oldest (One from) n.kept })

-- a poll of a station that dozes and names its association identifier (11.2.3.6); any other brings nothing (profile)
abbrev pub answer_poll : Setting → List ℕ → ℕ → Network → Network
answer_poll s from aid n =
    if may_poll aid (state_of from n.stations) then serve_poll s from (units_for (One from) n.kept) n else n

-- a frame of the wire (4.5.2.2), which goes to the group, to an associated station or nowhere (profile)
abbrev pub answer_wired : Setting → Result Ethernet Unread → Network → Network
answer_wired s (Ok w) n = deliver s (unit_of n.clock w) n
answer_wired s (Err fault) n = count_unread n

-- the request of a station in a state in which its class is taken
abbrev pub serve : Setting → Request → Network → Network
serve s (Probe from ssid) n = answer_probe s from ssid n
serve s (Auth from algorithm step) n = answer_authentication s from algorithm step n
serve s (Assoc from again listen elements) n = answer_association s from again listen elements n
serve s (Disassoc from) n = change_state from (disassociate from) n
serve s (Deauth from) n = change_state from (forget from) n
serve s (Msdu from doze to body) n = forward s (unit n.clock to from body) (set_power_mode s from doze n)
serve s (Null from doze) n = set_power_mode s from doze n
serve s (Poll from aid) n = answer_poll s from aid n

-- a notice is sent, and nothing else is done (11.3.3)
abbrev pub notify_or_serve : Option Notice → Setting → Request → Network → Network
notify_or_serve (Some notice) s r n = send (λ sequence. notice_frame (sender r) s.network.bssid sequence notice) n
notify_or_serve None s r n = serve s r n

abbrev pub answer : Setting → Result Request Unread → Network → Network
answer s (Ok r) n = notify_or_serve (class_fault (standing_of (sender r) n.stations) (class_of r)) s r n
answer s (Err fault) n = count_unread n

-- ---- beacons (11.1.3.2, 11.2.3.3)

-- the beacon of a network, by its configuration, its clock, its stations and the units that it keeps
abbrev pub beacon_frame : Setting → ℕ → Table → List Entry → ℕ → List ℕ
beacon_frame s clock table kept sequence =
    beacon (announced_at s clock) sequence s.network.dtim (group_is_kept kept) (is_waited_for table kept)

-- at a DTIM all units for the group follow the beacon, and leave
abbrev pub release : Setting → Network → Network
release s n =
    if dtim_count n.clock s.network.dtim == 0 then send_each s true (units_for Group n.kept) (drop_units Group n) else n

-- a beacon interval begins
abbrev pub tick : Setting → Network → Network
tick s n =
    release s (send (beacon_frame s (n.clock + 1) n.stations n.kept) (record n { clock = n.clock + 1 }))

-- ---- events

-- the network after an event; units age before a beacon interval begins
abbrev pub step : Setting → Network → Event → Network
step s n (Air x) = answer s (request_of s.network.bssid x) n
step s n (Wire y) = answer_wired s (ethernet_of y) n
step s n Tick = tick s (age_units s n)

-- the network after events, the first of them first
abbrev pub after : Setting → Network → List Event → Network
after s n [] = n
after s n (e ∷ es) = after s (step s n e) es

-- a network that took these events and no other
unfoldable pub alone : Setting → List Event → Network
alone s es = after s empty_network es

-- ---- what is shown of a network

-- a station with its state; one that is not associated has no identifier and no listen interval, and is active
abbrev pub row_of : List Entry → List ℕ × StationState → StationRow
row_of kept station = record {
  addr = station.0;
  standing = standing_with (Some station.1);
  aid = unwrap_or (aid_with (Some station.1)) 0;
  listen = listen_of station.1;
  doze = dozes station.1;
  kept = length (units_for (One station.0) kept);
}

-- one row for each known station, in their order
abbrev pub table_of : Network → List StationRow
table_of n = map (row_of n.kept) n.stations

abbrev pub counts_of : ℕ → Network → Counts
counts_of events n = record { events = events; clock = n.clock; unread = n.unread; lost = n.lost; kept = length n.kept }
