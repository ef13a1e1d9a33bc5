-- The clock of a network moves where a beacon interval begins, and nowhere else.
use Rattle.std.proofs.Common.{◌≡◌, ℕ, Bool, true, false, not, ◌&&◌, List, [], ◌∷◌, ◌++◌, length, Option, Some, None, Result, Ok, Err, if◌then◌else◌, refl, ◌∙◌}
use Rattle.std.specs.Prelude.{◌==◌, nat_lt}
use Rattle.mac_frame.specs.declared.frame.Unread.{Unread}
use Rattle.association.specs.Request.{Request, Probe, Auth, Assoc, Disassoc, Deauth, Msdu, Null, Poll, sender}
use Rattle.association.specs.Asked.{class_of}
use Rattle.association.specs.Status.{success}
use Rattle.encapsulation.specs.Encapsulation.{on_wire}
use Rattle.encapsulation.specs.Ethernet.{Ethernet}
use Rattle.powersave.specs.Keep.{units_for}
use Rattle.powersave.specs.declared.unit.Unit.{Unit as DataUnit}
use Rattle.powersave.specs.declared.unit.Whom.TheVariants.{One}
use Rattle.station_state.specs.ClassFault.{class_fault}
use Rattle.station_state.specs.declared.class.Notice.{Notice}
use Rattle.ap_config.specs.declared.setting.Setting.{Setting}
use Rattle.network.specs.Network.{Network, asks_for, answer, answer_wired, serve, notify_or_serve, change_state, change_where_served, change_stations, lose, deliver, deliver_by, send_unit, send_each, put_on_wire, relay, forward_by, set_power_mode, serve_poll, authentication_status, association_status, step}
use Rattle.stations.specs.Stations.{Table, state_of, is_dozing, set_mode, standing_of, authenticate, associate}
use Rattle.network.specs.Units.{unit, unit_of, delivery_of, goes_on_wire, may_poll, others_follow}
use Rattle.network.specs.declared.reply.unit.Delivery.{Delivery}
use Rattle.network.specs.declared.reply.unit.Delivery.TheVariants.{Now, Kept, Nowhere}

abbrev KeepsClock : (Network → Network) → Type 0
KeepsClock change = (n : Network) → (change n).clock ≡ n.clock

chosen : (b : Bool) (x y n : Network) → x.clock ≡ n.clock → y.clock ≡ n.clock → (if b then x else y).clock ≡ n.clock
chosen true x y n h k = h
chosen false x y n h k = k

served : (status : ℕ) (addr : List ℕ) (change : Table → Table) → KeepsClock (change_where_served status addr change)
served status addr change n = chosen (status == success) (change_state addr change n) n n refl refl

delivered_by : (s : Setting) (u : DataUnit) (d : Delivery) → KeepsClock (deliver_by d s u)
delivered_by s u Now n = refl
delivered_by s u (Kept whom) n = chosen (nat_lt (length n.kept) s.network.quota) (record n { kept = n.kept ++ (whom, u) ∷ [] }) (lose n) n refl refl
delivered_by s u Nowhere n = refl

each : (s : Setting) (shows_more : Bool) (us : List DataUnit) → KeepsClock (send_each s shows_more us)
each s shows_more [] n = refl
each s shows_more (u ∷ us) n = each s shows_more us (send_unit s (shows_more && others_follow us) u n)

pub modes : (s : Setting) (from : List ℕ) (doze : Bool) → KeepsClock (set_power_mode s from doze)
modes s from doze n =
    chosen (is_dozing from n.stations && not doze) (send_each s false (units_for (One from) n.kept) (change_state from (set_mode from doze) n)) (change_stations (set_mode from doze) n) n
    (each s false (units_for (One from) n.kept) (change_state from (set_mode from doze) n)) refl

wires : (wired : Option (List ℕ)) → KeepsClock (put_on_wire wired)
wires (Some octets) n = refl
wires None n = refl

relays : (s : Setting) (u : DataUnit) → KeepsClock (relay s u)
relays s u n = chosen s.network.relay (deliver s u n) n n (delivered_by s u (delivery_of u.to n.stations n.kept) n) refl

forwarded_by : (s : Setting) (u : DataUnit) (b : Bool) → KeepsClock (forward_by b s u)
forwarded_by s u true n = wires (on_wire u.to u.source u.body) (relay s u n) ∙ relays s u n
forwarded_by s u false n = relays s u n

polled : (s : Setting) (from : List ℕ) (us : List DataUnit) → KeepsClock (serve_poll s from us)
polled s from [] n = refl
polled s from (u ∷ us) n = refl

serves : (s : Setting) (r : Request) → KeepsClock (serve s r)
serves s (Probe from ssid) n = chosen (asks_for s.network.ssid ssid) _ n n refl refl
serves s (Auth from algorithm step) n = served (authentication_status s from algorithm step n) from (authenticate from) n
serves s (Assoc from again listen es) n = served (association_status s from es n) from (associate from listen) n
serves s (Disassoc from) n = refl
serves s (Deauth from) n = refl
serves s (Msdu from doze to body) n =
    let moded = set_power_mode s from doze n in
    forwarded_by s (unit n.clock to from body) (goes_on_wire s.network.relay to moded.stations) moded ∙ modes s from doze n
serves s (Null from doze) n = modes s from doze n
serves s (Poll from aid) n = chosen (may_poll aid (state_of from n.stations)) (serve_poll s from (units_for (One from) n.kept) n) n n (polled s from (units_for (One from) n.kept) n) refl

notified : (s : Setting) (fault : Option Notice) (r : Request) → KeepsClock (notify_or_serve fault s r)
notified s (Some notice) r n = refl
notified s None r n = serves s r n

pub answered : (s : Setting) (asked : Result Request Unread) → KeepsClock (answer s asked)
answered s (Ok r) n = notified s (class_fault (standing_of (sender r) n.stations) (class_of r)) r n
answered s (Err fault) n = refl

pub wired : (s : Setting) (read : Result Ethernet Unread) → KeepsClock (answer_wired s read)
wired s (Ok w) n = let u : DataUnit = unit_of n.clock w in delivered_by s u (delivery_of u.to n.stations n.kept) n
wired s (Err fault) n = refl
