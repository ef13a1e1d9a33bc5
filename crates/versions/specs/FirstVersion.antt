-- Networks of the first version of the configuration, which has no options (profile): each unit of a station is
-- delivered on the air, and none that is kept grows too old.
--
-- These definitions are never to be changed again, since later versions are measured by them. So they stand by
-- themselves: what a network does is all said here, once more. They share with those of today's networks the formats of
-- frames, which octets are a request, an answer, a beacon or a frame of the wire, and the types of data that these speak
-- of. The gate refuses another text of what stands here or is shared (`.ci/first-version`); comments don't count.
use Rattle.std.specs.Prelude.{ℕ, ◌+◌, ◌-◌, ◌%◌, ◌==◌, nat_eq, nat_lt, nat_le, Bool, true, false, not, ◌&&◌, ◌||◌, is_some}
use Rattle.std.specs.Prelude.{List, [], ◌∷◌, ◌++◌, length, map, filter, find, Option, Some, None, unwrap_or, Result, Ok, Err}
use Rattle.std.specs.Prelude.{if◌then◌else◌}
use Rattle.std.specs.List.{list_any, list_all, range_with_len}
use Rattle.std.specs.Map.{lookup, remove_entry}
use Rattle.std.specs.Str.{bytes_eq}
use Rattle.mac_frame.specs.declared.frame.Unread.{Unread}
use Rattle.mac_frame.specs.Address.{is_group}
use Rattle.mac_frame.specs.Data.{data_header}
use Rattle.elements.specs.Elements.{Pair}
use Rattle.beacon.specs.ProbeResponse.{Announced, probe_response}
use Rattle.beacon.specs.Beacon.{beacon}
use Rattle.encapsulation.specs.Ethernet.{Ethernet, ethernet_of}
use Rattle.encapsulation.specs.Encapsulation.{on_air, on_wire}
use Rattle.association.specs.Request.{Request, Probe, Auth, Assoc, Disassoc, Deauth, Msdu, Null, Poll, sender}
use Rattle.association.specs.Request.{request_of}
use Rattle.association.specs.Authentication.{authentication}
use Rattle.association.specs.Joining.{association_response}
use Rattle.association.specs.Leaving.{notice_frame}
use Rattle.station_state.specs.declared.Standing.{Standing}
use Rattle.station_state.specs.declared.Standing.TheVariants as standings
use Rattle.station_state.specs.declared.class.Notice.{Notice}
use Rattle.station_state.specs.declared.class.Notice.TheVariants.{Deauthenticate, Disassociate}
use Rattle.powersave.specs.declared.unit.Unit.{Unit as DataUnit}
use Rattle.powersave.specs.declared.unit.Whom.{Whom}
use Rattle.powersave.specs.declared.unit.Whom.TheVariants.{One, Group}
use Rattle.station_state.specs.declared.state.StationState.{StationState}
use Rattle.station_state.specs.declared.state.StationState.TheVariants.{Authenticated, Associated}
use Rattle.events.specs.declared.event.Event.{Event}
use Rattle.events.specs.declared.event.Event.TheVariants.{Air, Wire, Tick}
use Rattle.events.specs.declared.section.StationRow.{StationRow}
use Rattle.events.specs.declared.section.Counts.{Counts}

-- ---- what a network is

-- its configuration, with the channel and the beacon interval of its radio
pub record FirstSetting : Type 0 where
  pub channel : ℕ
  pub interval : ℕ
  pub bssid : List ℕ
  pub ssid : List ℕ
  pub rates : List ℕ
  pub dtim : ℕ
  pub max_stations : ℕ
  pub max_known : ℕ
  pub quota : ℕ

-- the stations that it knows, in order of first authentication; the units that it keeps, in order of arrival; the
-- beacon intervals that began; the sequence number of its next frame; what it lost, and what was no request; and every
-- frame that it ever sent on the air and on the wire
pub record FirstNetwork : Type 0 where
  pub stations : List (List ℕ × StationState)
  pub kept : List (Whom × DataUnit)
  pub clock : ℕ
  pub sequence : ℕ
  pub lost : ℕ
  pub unread : ℕ
  pub air : List (List ℕ)
  pub wire : List (List ℕ)

-- ---- the state of a station (IEEE Std 802.11-2016, 11.3.1)

abbrev pub state_of : List ℕ → List (List ℕ × StationState) → Option StationState
state_of addr table = lookup (bytes_eq addr) table

abbrev pub standing_in : StationState → Standing
standing_in Authenticated = standings.Authenticated
standing_in (Associated aid listen doze) = standings.Associated

abbrev pub aid_in : Option StationState → Option ℕ
aid_in None = None
aid_in (Some Authenticated) = None
aid_in (Some (Associated aid listen doze)) = Some aid

abbrev pub listen_in : StationState → ℕ
listen_in Authenticated = 0
listen_in (Associated aid listen doze) = listen

abbrev pub dozes : StationState → Bool
dozes Authenticated = false
dozes (Associated aid listen doze) = doze

abbrev pub dozes_in : Option StationState → Bool
dozes_in None = false
dozes_in (Some state) = dozes state

abbrev pub is_associated : Option StationState → Bool
is_associated None = false
is_associated (Some Authenticated) = false
is_associated (Some (Associated aid listen doze)) = true

-- ---- association identifiers (9.4.1.8)

abbrev pub identifier_in : StationState → List ℕ
identifier_in Authenticated = []
identifier_in (Associated aid listen doze) = aid ∷ []

abbrev pub identifiers : List (List ℕ × StationState) → List ℕ
identifiers [] = []
identifiers (station ∷ stations) = identifier_in station.1 ++ identifiers stations

-- there is room for this station: it has its place, or fewer are associated than may be
abbrev pub may_associate : ℕ → List ℕ → List (List ℕ × StationState) → Bool
may_associate most addr table = is_some (aid_in (state_of addr table)) || nat_lt (length (identifiers table)) most

-- the least number from 1 to 2007 that is not among these
unfoldable pub least_beside : List ℕ → ℕ
least_beside aids = unwrap_or (find (λ n. not (list_any (λ m. nat_eq m n) aids)) (range_with_len 1 2007)) 0

-- the identifier that an association gives: the one that the station has, or the least that is free
abbrev pub next_aid : List ℕ → List (List ℕ × StationState) → ℕ
next_aid addr table = unwrap_or (aid_in (state_of addr table)) (least_beside (identifiers table))

-- ---- changes of one station

-- a known station keeps its place, and an unknown one goes last (profile)
abbrev pub set_state : List ℕ → StationState → List (List ℕ × StationState) → List (List ℕ × StationState)
set_state addr state [] = (addr, state) ∷ []
set_state addr state (station ∷ stations) =
    if bytes_eq addr station.0 then (station.0, state) ∷ stations else station ∷ set_state addr state stations

abbrev pub authenticate : List ℕ → List (List ℕ × StationState) → List (List ℕ × StationState)
authenticate addr table = set_state addr Authenticated table

-- active at first
abbrev pub associate : List ℕ → ℕ → List (List ℕ × StationState) → List (List ℕ × StationState)
associate addr listen table = set_state addr (Associated (next_aid addr table) listen false) table

abbrev pub disassociate : List ℕ → List (List ℕ × StationState) → List (List ℕ × StationState)
disassociate addr table =
    if is_some (aid_in (state_of addr table)) then set_state addr Authenticated table else table

abbrev pub forget : List ℕ → List (List ℕ × StationState) → List (List ℕ × StationState)
forget addr table = remove_entry (bytes_eq addr) table

-- the mode of an associated station: it dozes, or is active (11.2.3.2)
abbrev pub with_mode : Bool → StationState → StationState
with_mode doze Authenticated = Authenticated
with_mode doze (Associated aid listen before) = Associated aid listen doze

abbrev pub set_mode : List ℕ → Bool → List (List ℕ × StationState) → List (List ℕ × StationState)
set_mode addr doze [] = []
set_mode addr doze (station ∷ stations) =
    if bytes_eq addr station.0 then (station.0, with_mode doze station.1) ∷ stations
    else station ∷ set_mode addr doze stations

-- ---- units that are kept (11.2.3)

abbrev pub is_same : Whom → Whom → Bool
is_same (One a) (One b) = bytes_eq a b
is_same (One a) Group = false
is_same Group (One b) = false
is_same Group Group = true

abbrev pub is_for : Whom → Whom × DataUnit → Bool
is_for whom entry = is_same entry.0 whom

abbrev pub units_for : Whom → List (Whom × DataUnit) → List DataUnit
units_for whom kept = map (λ entry. entry.1) (filter (is_for whom) kept)

abbrev pub without_all : Whom → List (Whom × DataUnit) → List (Whom × DataUnit)
without_all whom kept = filter (λ entry. not (is_for whom entry)) kept

abbrev pub without_oldest : Whom → List (Whom × DataUnit) → List (Whom × DataUnit)
without_oldest whom [] = []
without_oldest whom (entry ∷ entries) = if is_for whom entry then entries else entry ∷ without_oldest whom entries

abbrev pub group_is_kept : List (Whom × DataUnit) → Bool
group_is_kept kept = list_any (is_for Group) kept

-- ---- small changes

-- a frame is sent, with the network's sequence number, which is counted modulo 4096 (9.2.4.4.2)
abbrev pub send : (ℕ → List ℕ) → FirstNetwork → FirstNetwork
send frame n = record n { sequence = (n.sequence + 1) % 4096; air = n.air ++ frame n.sequence ∷ [] }

abbrev pub count_unread : FirstNetwork → FirstNetwork
count_unread n = record n { unread = n.unread + 1 }

abbrev pub lose : FirstNetwork → FirstNetwork
lose n = record n { lost = n.lost + 1 }

abbrev pub change_stations :
    (List (List ℕ × StationState) → List (List ℕ × StationState)) → FirstNetwork → FirstNetwork
change_stations change n = record n { stations = change n.stations }

abbrev pub drop_units : Whom → FirstNetwork → FirstNetwork
drop_units whom n = record n { kept = without_all whom n.kept }

-- a station's state changes, and no unit is kept for it any more (profile)
abbrev pub change_state :
    List ℕ → (List (List ℕ × StationState) → List (List ℕ × StationState)) → FirstNetwork → FirstNetwork
change_state addr change n = drop_units (One addr) (change_stations change n)

-- where its request is served
abbrev pub change_where_served :
    ℕ → List ℕ → (List (List ℕ × StationState) → List (List ℕ × StationState)) → FirstNetwork → FirstNetwork
change_where_served status addr change n = if status == 0 then change_state addr change n else n

-- a unit is kept, or lost where as many are kept as may be, whoever they are for (profile)
abbrev pub keep_or_lose : FirstSetting → Whom → DataUnit → FirstNetwork → FirstNetwork
keep_or_lose s whom u n =
    if nat_lt (length n.kept) s.quota then record n { kept = n.kept ++ (whom, u) ∷ [] } else lose n

-- the frame that carries a unit from the network (9.3.2.1), with More Data (9.2.4.1.8) or without
abbrev pub send_unit : FirstSetting → Bool → DataUnit → FirstNetwork → FirstNetwork
send_unit s more u n = send (λ sequence. data_header u.to s.bssid u.source sequence more ++ u.body) n

abbrev pub others_follow : List DataUnit → Bool
others_follow [] = false
others_follow (u ∷ us) = true

-- units are sent in order; where so asked, More Data tells of all but the last that others follow
abbrev pub send_each : FirstSetting → Bool → List DataUnit → FirstNetwork → FirstNetwork
send_each s shows_more [] n = n
send_each s shows_more (u ∷ us) n = send_each s shows_more us (send_unit s (shows_more && others_follow us) u n)

-- a unit goes on the wire, or is lost where it has no wired form (profile)
abbrev pub put_on_wire : Option (List ℕ) → FirstNetwork → FirstNetwork
put_on_wire (Some octets) n = record n { wire = n.wire ++ octets ∷ [] }
put_on_wire None n = lose n

-- ---- answers to requests

abbrev pub announced_at : FirstSetting → ℕ → Announced
announced_at s clock = record {
  bss = s.bssid;
  ssid = s.ssid;
  rates = s.rates;
  channel = s.channel;
  interval = s.interval;
  clock = clock;
}

-- a probe asks for the network where it names the wildcard SSID or the network's (11.1.4.3.4)
abbrev pub asks_for : List ℕ → Option (List ℕ) → Bool
asks_for ssid None = false
asks_for ssid (Some []) = true
asks_for ssid (Some (octet ∷ octets)) = bytes_eq (octet ∷ octets) ssid

abbrev pub answer_probe : FirstSetting → List ℕ → Option (List ℕ) → FirstNetwork → FirstNetwork
answer_probe s from ssid n =
    if asks_for s.ssid ssid then send (probe_response (announced_at s n.clock) from) n else n

-- the status of a request to authenticate (11.3.4.3; 9.4.1.9): the algorithm is Open System, the step is the first, and
-- there is room for the station
abbrev pub authentication_status : FirstSetting → List ℕ → ℕ → ℕ → FirstNetwork → ℕ
authentication_status s from algorithm step n =
    if not (algorithm == 0) then 13
    else if not (step == 1) then 14
    else if not (is_some (state_of from n.stations) || nat_lt (length n.stations) s.max_known) then 1
    else 0

abbrev pub answer_authentication : FirstSetting → List ℕ → ℕ → ℕ → FirstNetwork → FirstNetwork
answer_authentication s from algorithm step n =
    send (λ sequence. authentication from s.bssid sequence algorithm (authentication_status s from algorithm step n))
    (change_where_served (authentication_status s from algorithm step n) from (authenticate from) n)

-- the Information field of the first element with an element ID (9.4.2.1)
abbrev pub first_of : ℕ → List Pair → Option (List ℕ)
first_of id [] = None
first_of id (e ∷ es) = if e.0 == id then Some e.1 else first_of id es

-- it names this SSID (9.4.2.2)
abbrev pub is_ssid : List ℕ → Option (List ℕ) → Bool
is_ssid ssid None = false
is_ssid ssid (Some named) = bytes_eq named ssid

-- a rate has units of 500 kb/s in bits 0 to 6, and bit 7 where each station has to have it (9.4.2.3)
abbrev pub is_basic : ℕ → Bool
is_basic rate = nat_le 128 rate

-- the rate is among those of an element, basic or not, where there is one
abbrev pub is_rate_in : ℕ → Option (List ℕ) → Bool
is_rate_in rate None = false
is_rate_in rate (Some rates) = list_any (λ other. other % 128 == rate % 128) rates

-- the rate is in the first Supported Rates or in the first Extended Supported Rates (9.4.2.3, 9.4.2.13)
abbrev pub has_rate : ℕ → List Pair → Bool
has_rate rate es = is_rate_in rate (first_of 1 es) || is_rate_in rate (first_of 50 es)

-- the status of a request to associate (11.3.5.3, 11.3.5.5; 9.4.1.9): it names the network, it has each basic rate, and
-- there is room for the station
abbrev pub association_status : FirstSetting → List ℕ → List Pair → FirstNetwork → ℕ
association_status s from elements n =
    if not (is_ssid s.ssid (first_of 0 elements)) then 1
    else if not (list_all (λ rate. not (is_basic rate) || has_rate rate elements) s.rates) then 18
    else if not (may_associate s.max_stations from n.stations) then 17
    else 0

abbrev pub answer_association : FirstSetting → List ℕ → Bool → ℕ → List Pair → FirstNetwork → FirstNetwork
answer_association s from again listen elements n =
    send (λ sequence.
    association_response from s.bssid sequence again (association_status s from elements n) (next_aid from n.stations)
    s.rates)
    (change_where_served (association_status s from elements n) from (associate from listen) n)

-- ---- units

-- to one station: at once where it is active, kept where it dozes, and nowhere where it is not associated
abbrev pub deliver_to : Option StationState → FirstSetting → DataUnit → FirstNetwork → FirstNetwork
deliver_to None s u n = n
deliver_to (Some Authenticated) s u n = n
deliver_to (Some (Associated aid listen true)) s u n = keep_or_lose s (One u.to) u n
deliver_to (Some (Associated aid listen false)) s u n = send_unit s false u n

-- to the group: kept where a station dozes or others are kept for it, and else at once (11.2.3.2)
abbrev pub group_waits : FirstNetwork → Bool
group_waits n = list_any (λ station. dozes station.1) n.stations || group_is_kept n.kept

abbrev pub deliver : FirstSetting → DataUnit → FirstNetwork → FirstNetwork
deliver s u n =
    if is_group u.to then (if group_waits n then keep_or_lose s Group u n else send_unit s false u n)
    else deliver_to (state_of u.to n.stations) s u n

-- a station's unit is delivered on the air, and goes on the wire too but for one to one associated station (4.5.2)
abbrev pub forward_by : Bool → FirstSetting → DataUnit → FirstNetwork → FirstNetwork
forward_by true s u n = put_on_wire (on_wire u.to u.source u.body) (deliver s u n)
forward_by false s u n = deliver s u n

abbrev pub forward : FirstSetting → DataUnit → FirstNetwork → FirstNetwork
forward s u n = forward_by (is_group u.to || not (is_associated (state_of u.to n.stations))) s u n

-- The mode of a station is set (11.2.3.2). One that dozed and is active now is sent all units that were kept for it.
abbrev pub set_power_mode : FirstSetting → List ℕ → Bool → FirstNetwork → FirstNetwork
set_power_mode s from doze n =
    if dozes_in (state_of from n.stations) && not doze
    then send_each s false (units_for (One from) n.kept) (change_state from (set_mode from doze) n)
    else change_stations (set_mode from doze) n

-- the first of these units, which are kept for a station, is sent (11.2.3.6)
abbrev pub serve_poll : FirstSetting → List ℕ → List DataUnit → FirstNetwork → FirstNetwork
serve_poll s from [] n = n
serve_poll s from (u ∷ us) n = send_unit s (others_follow us) u (record n { kept = without_oldest (One from) n.kept })

-- a station dozes and has this association identifier
abbrev pub may_poll : ℕ → Option StationState → Bool
may_poll aid None = false
may_poll aid (Some Authenticated) = false
may_poll aid (Some (Associated own listen doze)) = doze && aid == own

abbrev pub answer_poll : FirstSetting → List ℕ → ℕ → FirstNetwork → FirstNetwork
answer_poll s from aid n =
    if may_poll aid (state_of from n.stations) then serve_poll s from (units_for (One from) n.kept) n else n

-- it holds the clock at which it came
abbrev pub unit : (at : ℕ) → (to source body : List ℕ) → DataUnit
unit at to source body = record { to = to; source = source; body = body; at = at }

-- a frame of the wire (4.5.2.2)
abbrev pub answer_wired : FirstSetting → Result Ethernet Unread → FirstNetwork → FirstNetwork
answer_wired s (Ok w) n = deliver s (unit n.clock w.to w.source (on_air w)) n
answer_wired s (Err fault) n = count_unread n

-- ---- requests

abbrev pub serve : FirstSetting → Request → FirstNetwork → FirstNetwork
serve s (Probe from ssid) n = answer_probe s from ssid n
serve s (Auth from algorithm step) n = answer_authentication s from algorithm step n
serve s (Assoc from again listen elements) n = answer_association s from again listen elements n
serve s (Disassoc from) n = change_state from (disassociate from) n
serve s (Deauth from) n = change_state from (forget from) n
serve s (Msdu from doze to body) n = forward s (unit n.clock to from body) (set_power_mode s from doze n)
serve s (Null from doze) n = set_power_mode s from doze n
serve s (Poll from aid) n = answer_poll s from aid n

-- What is sent in place of an answer (11.3.3), with its reason (9.4.1.7): a frame of Class 2 is taken from a station
-- that is authenticated, associated or not, and one of Class 3 from a station that is associated.
abbrev pub notice_2 : Option StationState → Option Notice
notice_2 None = Some (Deauthenticate 6)
notice_2 (Some state) = None

abbrev pub notice_3 : Option StationState → Option Notice
notice_3 None = Some (Deauthenticate 7)
notice_3 (Some Authenticated) = Some (Disassociate 7)
notice_3 (Some (Associated aid listen doze)) = None

abbrev pub notice_for : Option StationState → Request → Option Notice
notice_for state (Probe from ssid) = None
notice_for state (Auth from algorithm step) = None
notice_for state (Assoc from again listen elements) = notice_2 state
notice_for state (Disassoc from) = notice_2 state
notice_for state (Deauth from) = None
notice_for state (Msdu from doze to body) = notice_3 state
notice_for state (Null from doze) = notice_3 state
notice_for state (Poll from aid) = notice_3 state

abbrev pub notify_or_serve : Option Notice → FirstSetting → Request → FirstNetwork → FirstNetwork
notify_or_serve (Some notice) s r n = send (λ sequence. notice_frame (sender r) s.bssid sequence notice) n
notify_or_serve None s r n = serve s r n

abbrev pub answer : FirstSetting → Result Request Unread → FirstNetwork → FirstNetwork
answer s (Ok r) n = notify_or_serve (notice_for (state_of (sender r) n.stations) r) s r n
answer s (Err fault) n = count_unread n

-- ---- beacons (11.1.3.2, 11.2.3.3)

-- a station with this association identifier has units waiting
abbrev pub has_aid : ℕ → StationState → Bool
has_aid aid Authenticated = false
has_aid aid (Associated own listen doze) = aid == own

abbrev pub is_waited_for : FirstNetwork → ℕ → Bool
is_waited_for n aid = list_any (λ station. has_aid aid station.1 && list_any (is_for (One station.0)) n.kept) n.stations

-- how many beacons come before the next DTIM, 0 in a DTIM (9.4.2.6); the beacon at clock 1 is one (profile)
abbrev pub dtim_count : ℕ → ℕ → ℕ
dtim_count clock period = (period - (clock - 1) % period) % period

-- at a DTIM all units for the group follow the beacon, and leave
abbrev pub release : FirstSetting → FirstNetwork → FirstNetwork
release s n =
    if dtim_count n.clock s.dtim == 0 then send_each s true (units_for Group n.kept) (drop_units Group n) else n

-- a beacon interval begins
abbrev pub tick : FirstSetting → FirstNetwork → FirstNetwork
tick s n =
    release s
    (send (λ sequence. beacon (announced_at s (n.clock + 1)) sequence s.dtim (group_is_kept n.kept) (is_waited_for n))
    (record n { clock = n.clock + 1 }))

-- ---- events

abbrev pub step : FirstSetting → FirstNetwork → Event → FirstNetwork
step s n (Air x) = answer s (request_of s.bssid x) n
step s n (Wire y) = answer_wired s (ethernet_of y) n
step s n Tick = tick s n

abbrev pub after : FirstSetting → FirstNetwork → List Event → FirstNetwork
after s n [] = n
after s n (e ∷ es) = after s (step s n e) es

-- a network that took these events and no other
unfoldable pub alone : FirstSetting → List Event → FirstNetwork
alone s es = after s (record {
  stations = [];
  kept = [];
  clock = 0;
  sequence = 0;
  lost = 0;
  unread = 0;
  air = [];
  wire = [];
}) es

-- ---- what is shown of it

-- a station that is not associated has no identifier and no listen interval, and is active
abbrev pub row_of : List (Whom × DataUnit) → List ℕ × StationState → StationRow
row_of kept station = record {
  addr = station.0;
  standing = standing_in station.1;
  aid = unwrap_or (aid_in (Some station.1)) 0;
  listen = listen_in station.1;
  doze = dozes station.1;
  kept = length (units_for (One station.0) kept);
}

abbrev pub table_of : FirstNetwork → List StationRow
table_of n = map (row_of n.kept) n.stations

abbrev pub counts_of : ℕ → FirstNetwork → Counts
counts_of events n = record { events = events; clock = n.clock; unread = n.unread; lost = n.lost; kept = length n.kept }
