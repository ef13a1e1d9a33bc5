-- What a network sent stays as it was, whatever it is: a step adds its frames after those before it.
use Rattle.std.proofs.Common.{◌≡◌, ℕ, ◌+◌, Bool, true, false, not, ◌&&◌, List, [], ◌∷◌, ◌++◌, length, drop, Option, Result, Ok, Err, if◌then◌else◌, refl, sym, ap, ◌∙◌}
use Rattle.std.proofs.lemmas.List.{append-nil, append_assoc}
use Rattle.std.proofs.Math.Seq.{drop-append_seam}
use Rattle.mac_frame.specs.declared.frame.Unread.{Unread}
use Rattle.std.specs.Prelude.{◌==◌, nat_lt, Some, None}
use Rattle.association.specs.Request.{Request, Probe, Auth, Assoc, Disassoc, Deauth, Msdu, Null, Poll, sender, request_of}
use Rattle.association.specs.Asked.{class_of}
use Rattle.association.specs.Status.{success}
use Rattle.association.specs.Authentication.{authentication}
use Rattle.association.specs.Joining.{association_response}
use Rattle.association.specs.Leaving.{notice_frame}
use Rattle.station_state.specs.ClassFault.{class_fault}
use Rattle.station_state.specs.declared.class.Notice.{Notice}
use Rattle.stations.specs.Stations.{Table, state_of, is_dozing, set_mode, standing_of, next_aid, authenticate, associate}
use Rattle.ap_config.specs.declared.setting.Setting.{Setting}
use Rattle.network.specs.Network.{Network, announced_at, asks_for, answer, answer_probe, serve, notify_or_serve, send, change_state, change_where_served, lose, deliver, deliver_by, answer_wired, change_stations, drop_units, send_unit, send_each, put_on_wire, relay, forward, forward_by, age_units, set_power_mode, serve_poll, answer_poll, beacon_frame, release, tick, authentication_status, association_status, step, alone}
use Rattle.network.specs.Units.{unit, unit_of, unit_frame, others_follow, delivery_of, goes_on_wire, may_poll}
use Rattle.encapsulation.specs.Encapsulation.{on_wire}
use Rattle.beacon.specs.Beacon.{dtim_count}
use Rattle.beacon.specs.ProbeResponse.{probe_response}
use Rattle.powersave.specs.Keep.{units_for, without_oldest}
use Rattle.powersave.specs.declared.unit.Whom.TheVariants.{One, Group}
use Rattle.network.specs.declared.reply.unit.Delivery.{Delivery}
use Rattle.network.specs.declared.reply.unit.Delivery.TheVariants.{Now, Kept, Nowhere}
use Rattle.encapsulation.specs.Ethernet.{Ethernet, ethernet_of}
use Rattle.powersave.specs.declared.unit.Unit.{Unit as DataUnit}
use Rattle.network.specs.BssView.{sent_by}
use Rattle.network.specs.NetworkView.{sent_before, unsent}
use Rattle.events.specs.declared.event.Event.{Event}
use Rattle.events.specs.declared.event.Event.TheVariants.{Air, Wire, Tick}
use Rattle.network.proofs.AloneLaws.{alone-push}

-- whatever was sent before
abbrev StaysBehind : (Network → Network) → Type 0
StaysBehind change = (air wire : List (List ℕ)) (n : Network) → change (sent_before air wire n) ≡ sent_before air wire (change n)

-- a choice that doesn't look at what was sent
chosen : (f : Network → Network) (b : Bool) (x y v w : Network) → v ≡ f x → w ≡ f y → (if b then v else w) ≡ f (if b then x else y)
chosen f true x y v w h k = h
chosen f false x y v w h k = k

sends : (frame : ℕ → List ℕ) → StaysBehind (send frame)
sends frame air wire n = ap (λ (fs : List (List ℕ)). record (send frame (sent_before air wire n)) { air = fs }) (append_assoc air n.air (frame n.sequence ∷ []))

probes : (s : Setting) (from : List ℕ) (ssid : Option (List ℕ)) → StaysBehind (answer_probe s from ssid)
probes s from ssid air wire n =
    let frame = probe_response (announced_at s n.clock) from in
    chosen (sent_before air wire) (asks_for s.network.ssid ssid) (send frame n) n _ _ (sends frame air wire n) refl

served : (status : ℕ) (addr : List ℕ) (change : Table → Table) → StaysBehind (change_where_served status addr change)
served status addr change air wire n = chosen (sent_before air wire) (status == success) (change_state addr change n) n _ _ refl refl

delivered_by : (s : Setting) (u : DataUnit) (d : Delivery) → StaysBehind (deliver_by d s u)
delivered_by s u Now air wire n = sends (unit_frame s.network.bssid false u) air wire n
delivered_by s u (Kept whom) air wire n = chosen (sent_before air wire) (nat_lt (length n.kept) s.network.quota) (record n { kept = n.kept ++ (whom, u) ∷ [] }) (lose n) _ _ refl refl
delivered_by s u Nowhere air wire n = refl

delivers : (s : Setting) (u : DataUnit) → StaysBehind (deliver s u)
delivers s u air wire n = delivered_by s u (delivery_of u.to n.stations n.kept) air wire n

each : (s : Setting) (shows_more : Bool) (us : List DataUnit) → StaysBehind (send_each s shows_more us)
each s shows_more [] air wire n = refl
each s shows_more (u ∷ us) air wire n =
    let sent = send_unit s (shows_more && others_follow us) u n in
    ap (send_each s shows_more us) (sends (unit_frame s.network.bssid (shows_more && others_follow us) u) air wire n) ∙ each s shows_more us air wire sent

modes : (s : Setting) (from : List ℕ) (doze : Bool) → StaysBehind (set_power_mode s from doze)
modes s from doze air wire n =
    chosen (sent_before air wire) (is_dozing from n.stations && not doze) (send_each s false (units_for (One from) n.kept) (change_state from (set_mode from doze) n)) (change_stations (set_mode from doze) n) _ _
    (each s false (units_for (One from) n.kept) air wire (change_state from (set_mode from doze) n)) refl

wires : (wired : Option (List ℕ)) → StaysBehind (put_on_wire wired)
wires (Some octets) air wire n = ap (λ (fs : List (List ℕ)). record (put_on_wire (Some octets) (sent_before air wire n)) { wire = fs }) (append_assoc wire n.wire (octets ∷ []))
wires None air wire n = refl

relays : (s : Setting) (u : DataUnit) → StaysBehind (relay s u)
relays s u air wire n = chosen (sent_before air wire) s.network.relay (deliver s u n) n _ _ (delivers s u air wire n) refl

forwarded_by : (s : Setting) (u : DataUnit) (b : Bool) → StaysBehind (forward_by b s u)
forwarded_by s u true air wire n = ap (put_on_wire (on_wire u.to u.source u.body)) (relays s u air wire n) ∙ wires (on_wire u.to u.source u.body) air wire (relay s u n)
forwarded_by s u false air wire n = relays s u air wire n

forwards : (s : Setting) (u : DataUnit) → StaysBehind (forward s u)
forwards s u air wire n = forwarded_by s u (goes_on_wire s.network.relay u.to n.stations) air wire n

polled : (s : Setting) (from : List ℕ) (us : List DataUnit) → StaysBehind (serve_poll s from us)
polled s from [] air wire n = refl
polled s from (u ∷ us) air wire n = sends (unit_frame s.network.bssid (others_follow us) u) air wire (record n { kept = without_oldest (One from) n.kept })

polls : (s : Setting) (from : List ℕ) (aid : ℕ) → StaysBehind (answer_poll s from aid)
polls s from aid air wire n = chosen (sent_before air wire) (may_poll aid (state_of from n.stations)) (serve_poll s from (units_for (One from) n.kept) n) n _ _ (polled s from (units_for (One from) n.kept) air wire n) refl

releases : (s : Setting) → StaysBehind (release s)
releases s air wire n =
    chosen (sent_before air wire) (dtim_count n.clock s.network.dtim == 0) (send_each s true (units_for Group n.kept) (drop_units Group n)) n _ _
    (each s true (units_for Group n.kept) air wire (drop_units Group n)) refl

ticks : (s : Setting) → StaysBehind (tick s)
ticks s air wire n =
    let begun : Network = record n { clock = n.clock + 1 } in
    let frame = beacon_frame s (n.clock + 1) n.stations n.kept in
    ap (release s) (sends frame air wire begun) ∙ releases s air wire (send frame begun)

serves : (s : Setting) (r : Request) → StaysBehind (serve s r)
serves s (Probe from ssid) air wire n = probes s from ssid air wire n
serves s (Auth from algorithm step) air wire n =
    let status = authentication_status s from algorithm step n in
    let frame : ℕ → List ℕ = λ sequence. authentication from s.network.bssid sequence algorithm status in
    ap (send frame) (served status from (authenticate from) air wire n) ∙ sends frame air wire (change_where_served status from (authenticate from) n)
serves s (Assoc from again listen es) air wire n =
    let status = association_status s from es n in
    let frame : ℕ → List ℕ = λ sequence. association_response from s.network.bssid sequence again status (next_aid from n.stations) s.network.rates in
    ap (send frame) (served status from (associate from listen) air wire n) ∙ sends frame air wire (change_where_served status from (associate from listen) n)
serves s (Disassoc from) air wire n = refl
serves s (Deauth from) air wire n = refl
serves s (Msdu from doze to body) air wire n =
    let u : DataUnit = unit n.clock to from body in
    ap (forward s u) (modes s from doze air wire n) ∙ forwards s u air wire (set_power_mode s from doze n)
serves s (Null from doze) air wire n = modes s from doze air wire n
serves s (Poll from aid) air wire n = polls s from aid air wire n

notified : (s : Setting) (fault : Option Notice) (r : Request) → StaysBehind (notify_or_serve fault s r)
notified s (Some notice) r air wire n = sends (λ sequence. notice_frame (sender r) s.network.bssid sequence notice) air wire n
notified s None r air wire n = serves s r air wire n

answers : (s : Setting) (asked : Result Request Unread) → StaysBehind (answer s asked)
answers s (Ok r) air wire n = notified s (class_fault (standing_of (sender r) n.stations) (class_of r)) r air wire n
answers s (Err fault) air wire n = refl

wired : (s : Setting) (read : Result Ethernet Unread) → StaysBehind (answer_wired s read)
wired s (Ok w) air wire n = delivers s (unit_of n.clock w) air wire n
wired s (Err fault) air wire n = refl

-- a step adds its frames to those before it, whatever these are
pub steps : (s : Setting) (n : Network) (e : Event) (air wire : List (List ℕ)) → step s (sent_before air wire n) e ≡ sent_before air wire (step s n e)
steps s n (Air x) air wire = answers s (request_of s.network.bssid x) air wire n
steps s n (Wire y) air wire = wired s (ethernet_of y) air wire n
steps s n Tick air wire = ticks s air wire (age_units s n)

-- it is the step of a network that sent nothing
pub step-unsent : (s : Setting) (n : Network) (e : Event) → step s n e ≡ sent_before n.air n.wire (step s (unsent n) e)
step-unsent s n e =
    let whole : sent_before n.air n.wire (unsent n) ≡ n =
    ap (λ (fs : List (List ℕ)). record n { air = fs; wire = n.wire ++ [] }) (append-nil n.air) ∙ ap (λ (fs : List (List ℕ)). record n { wire = fs }) (append-nil n.wire) in
    ap (λ (m : Network). step s m e) (sym whole) ∙ steps s (unsent n) e n.air n.wire

pub air-push : (s : Setting) (es : List Event) (e : Event) → (alone s (es ++ e ∷ [])).air ≡ (alone s es).air ++ sent_by s es e
air-push s es e =
    let old = (alone s es).air in
    let added = (step s (unsent (alone s es)) e).air in
    let now : (alone s (es ++ e ∷ [])).air ≡ old ++ added = ap (λ (n : Network). n.air) (alone-push s es e ∙ step-unsent s (alone s es) e) in
    let sent : sent_by s es e ≡ added = ap (drop (length old)) now ∙ drop-append_seam old added in
    now ∙ ap (λ (fs : List (List ℕ)). old ++ fs) (sym sent)
