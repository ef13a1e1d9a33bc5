-- How long the frames are that a network sends: what each part of one has, and what each named change and step keeps.
use Rattle.std.proofs.Common.{◌≡◌, ◌↔◌, ℕ, ◌+◌, ◌<◌, ◌≤◌, ◌^◌, IsTrue, Bool, true, false, not, ◌&&◌, List, [], ◌∷◌, ◌++◌, length, drop, map, filter, Option, Some, None, Result, Ok, Err, refl, ap, length-append, length-drop, arith}
use Rattle.std.specs.Prelude.{◌==◌, nat_le, nat_lt, option_map, if◌then◌else◌}
use Rattle.std.specs.Int.{w16, to_be_bytes, to_le_bytes}
use Rattle.std.specs.List.{AllByRecursion}
use Rattle.std.proofs.lemmas.Bool.{and_parts, cond_both, eqb-true, leb-true}
use Rattle.std.proofs.lemmas.List.{length-take}
use Rattle.mac_frame.specs.declared.frame.Unread.{Unread}
use Rattle.mac_frame.specs.declared.frame.Unread.TheVariants as faults
use Rattle.mac_frame.specs.declared.frame_control.FrameControl.{FrameControl}
use Rattle.mac_frame.specs.Address.{is_group, broadcast}
use Rattle.mac_frame.specs.FrameControl.{plain}
use Rattle.mac_frame.specs.declared.frame_control.FrameType.TheVariants.{Management}
use Rattle.mac_frame.specs.Header.{header}
use Rattle.mac_frame.specs.Frame.{Frame, IsFrame, frame_of}
use Rattle.mac_frame.specs.Rx as heard
use Rattle.mac_frame.specs.Management.{association_request_subtype, reassociation_request_subtype, probe_request_subtype, disassociation_subtype, authentication_subtype, deauthentication_subtype, probe_response_subtype, beacon_subtype, management_header}
use Rattle.elements.specs.Elements.{Pair}
use Rattle.elements.specs.Rates.{supported_rates, extended_rates, element_if_any, rates_of}
use Rattle.tim.specs.Tim.{ShowsTim, tim_octets}
use Rattle.beacon.specs.Advert.{Announced, timestamp, fixed_fields, network_elements}
use Rattle.beacon.specs.ProbeResponse.{probe_response, probe_response_body}
use Rattle.beacon.specs.Beacon.{beacon, beacon_body, beacon_tim, dtim_count, traffic_indicator}
use Rattle.encapsulation.specs.Ethernet.{Ethernet, IsEthernet, IsOfKind, ethernet_of}
use Rattle.encapsulation.specs.Encapsulation.{on_wire, names_type, type_of, body_of}
use Rattle.encapsulation.specs.Ethernet.{is_length}
use Rattle.encapsulation.specs.declared.ethernet.Kind.{Kind}
use Rattle.encapsulation.specs.declared.ethernet.Kind.TheVariants.{Typed, Sized}
use Rattle.association.specs.Request.{Request, Probe, Auth, Assoc, Disassoc, Deauth, Msdu, Null, Poll, sender, request_of, request_in, request_read, request_on, asked_to_associate, asked_by}
use Rattle.association.specs.Asked.{class_of}
use Rattle.association.specs.Status.{success}
use Rattle.association.specs.Authentication.{authentication, authentication_body, auth_of}
use Rattle.association.specs.Joining.{association_fields, association_response, response_subtype, assoc_of}
use Rattle.association.specs.Leaving.{notice_frame, reason_of}
use Rattle.association.specs.Probe.{probe_of}
use Rattle.station_state.specs.ClassFault.{class_fault}
use Rattle.station_state.specs.declared.class.Notice.{Notice}
use Rattle.station_state.specs.declared.class.Notice.TheVariants.{Deauthenticate, Disassociate}
use Rattle.powersave.specs.Keep.{Entry, is_for, units_for, without_oldest}
use Rattle.powersave.specs.declared.unit.Whom.{Whom}
use Rattle.powersave.specs.declared.unit.Whom.TheVariants.{One, Group}
use Rattle.powersave.specs.declared.unit.Unit.{Unit as DataUnit}
use Rattle.stations.specs.Stations.{Table, state_of, standing_of, is_dozing, set_mode, next_aid, authenticate, associate, disassociate, forget}
use Rattle.ap_config.specs.Configuration.{network_fault, ssid_fits, rates_fit, numbers_fit, is_between}
use Rattle.ap_config.specs.declared.config.NetConfig.{NetConfig}
use Rattle.ap_config.specs.declared.setting.Setting.{Setting}
use Rattle.events.specs.declared.event.Event.{Event}
use Rattle.events.specs.declared.event.Event.TheVariants.{Air, Wire, Tick}
use Rattle.network.specs.declared.reply.unit.Delivery.{Delivery}
use Rattle.network.specs.declared.reply.unit.Delivery.TheVariants.{Now, Kept, Nowhere}
use Rattle.network.specs.Units.{unit, unit_of, unit_frame, others_follow, delivery_of, goes_on_wire, may_poll}
use Rattle.network.specs.Network.{Network, empty_network, send, change_state, change_stations, change_where_served, lose, keep_or_lose, deliver, deliver_by, answer_wired, drop_units, send_unit, send_each, put_on_wire, relay, forward, forward_by, age_units, set_power_mode, serve_poll, answer_poll, beacon_frame, release, tick, authentication_status, answer_authentication, association_status, answer_association, serve, notify_or_serve, announced_at, asks_for, answer, answer_probe, step, after, alone}
use Rattle.network.specs.Sizes.{FitsFrame, AreFitting, IsWithinSizes}

-- ---- lists of which each is so

pub all-push : {A : Type 0} (P : A → Type 0) (xs : List A) (x : A) → AllByRecursion P xs → P x → AllByRecursion P (xs ++ x ∷ [])
all-push P [] x h p = (p, tt)
all-push P (y ∷ ys) x h p = (h.0, all-push P ys x h.1 p)

pub those-fit : (p : Entry → Bool) (es : List Entry) → AreFitting es → AreFitting (filter p es)
those-fit p [] h = tt
those-fit p (e ∷ es) h =
    cond_both (p e) (e ∷ filter p es) (filter p es) AreFitting (λ _. (h.0, those-fit p es h.1)) (λ _. those-fit p es h.1)

units-fit : (es : List Entry) → AreFitting es → AllByRecursion FitsFrame (map (λ e. e.1) es)
units-fit [] h = tt
units-fit (e ∷ es) h = (h.0, units-fit es h.1)

pub others-fit : (whom : Whom) (es : List Entry) → AreFitting es → AreFitting (without_oldest whom es)
others-fit whom [] h = tt
others-fit whom (e ∷ es) h =
    cond_both (is_for whom e) es (e ∷ without_oldest whom es) AreFitting (λ _. h.1) (λ _. (h.0, others-fit whom es h.1))

-- ---- the parts of frames

header-length : (control : FrameControl) (a b c : List ℕ) (sequence : ℕ) → length a ≤ 6 → length b ≤ 6 → length c ≤ 6 → length (header control a b c sequence) ≤ 24
header-length control a b c sequence la lb lc = simp length-append (omega arith)

element-length : (rates : List ℕ) → length (element_if_any rates) ≤ length rates + 2
element-length [] = omega arith
element-length (rate ∷ rates) = omega arith

extended-length : (rates : List ℕ) → length rates ≤ 16 → length (extended_rates rates) ≤ 10
extended-length rates few = omega (arith, element-length (drop 8 rates), length-drop 8 rates)

supported-length : (rates : List ℕ) → length (supported_rates rates) ≤ 10
supported-length rates = omega (arith, length-take 8 rates)

fixed-length : (a : Announced) → length (fixed_fields a) ≡ 12
unfolding fixed_fields timestamp
fixed-length a = refl

elements-length : (a : Announced) → length a.ssid ≤ 32 → length (network_elements a) ≤ 47
unfolding network_elements
elements-length a short = simp length-append (omega (arith, supported-length a.rates, short))

-- ---- management frames

managed : (subtype : ℕ) (to bss : List ℕ) (sequence : ℕ) (body : List ℕ) → length to ≤ 6 → length bss ≤ 6 → length body ≤ 2304 → length (management_header subtype to bss sequence ++ body) ≤ 2328
managed subtype to bss sequence body lt lb short =
    omega (arith, length-append (management_header subtype to bss sequence) body, header-length (plain Management subtype) to bss bss sequence lt lb lb, short)

probe-length : (a : Announced) (to : List ℕ) (sequence : ℕ) → length to ≤ 6 → length a.bss ≤ 6 → length a.ssid ≤ 32 → length a.rates ≤ 16 → length (probe_response a to sequence) ≤ 2328
probe-length a to sequence lt lb ls lr =
    managed probe_response_subtype to a.bss sequence (probe_response_body a) lt lb
    (simp length-append (omega (arith, fixed-length a, elements-length a ls, extended-length a.rates lr)))

authentication-length : (to bss : List ℕ) (sequence algorithm status : ℕ) → length to ≤ 6 → length bss ≤ 6 → length (authentication to bss sequence algorithm status) ≤ 2328
authentication-length to bss sequence algorithm status lt lb =
    managed authentication_subtype to bss sequence (authentication_body algorithm status) lt lb (omega arith)

association-length : (to bss : List ℕ) (sequence : ℕ) (again : Bool) (status aid : ℕ) (rates : List ℕ) → length to ≤ 6 → length bss ≤ 6 → length rates ≤ 16 → length (association_response to bss sequence again status aid rates) ≤ 2328
association-length to bss sequence again status aid rates lt lb lr =
    managed (response_subtype again) to bss sequence (association_fields status aid ++ rates_of rates) lt lb
    (simp length-append (omega (arith, supported-length rates, extended-length rates lr)))

notice-length : (to bss : List ℕ) (sequence : ℕ) (notice : Notice) → length to ≤ 6 → length bss ≤ 6 → length (notice_frame to bss sequence notice) ≤ 2328
notice-length to bss sequence (Deauthenticate reason) lt lb =
    managed deauthentication_subtype to bss sequence (to_le_bytes w16 reason) lt lb (omega arith)
notice-length to bss sequence (Disassociate reason) lt lb =
    managed disassociation_subtype to bss sequence (to_le_bytes w16 reason) lt lb (omega arith)

-- ---- beacons

-- each set has a TIM
abbrev pub HasTims : Type 0
HasTims = (count period : ℕ) (group : Bool) (members : ℕ → Bool) → count < period → period < 2 ^ 8 → (IsTrue group → count ≡ 0) → ShowsTim (tim_octets count period group members) count period group members

count-below : (clock period : ℕ) → 1 ≤ period → dtim_count clock period < period
unfolding dtim_count
count-below clock period some = omega arith

tim-length : HasTims → (clock period : ℕ) (group : Bool) (members : ℕ → Bool) → 1 ≤ period → period ≤ 255 → length (beacon_tim clock period group members) ≤ 256
tim-length shows clock period group members some few =
    let count = dtim_count clock period in
    let t = shows count period (traffic_indicator count group) members (count-below clock period some) (omega arith) (λ is. eqb-true count 0 (and_parts group (count == 0) is).1) in
    omega (arith, ap length t.string, t.within)

beacon-length : HasTims → (a : Announced) (sequence period : ℕ) (group : Bool) (members : ℕ → Bool) → length a.bss ≤ 6 → length a.ssid ≤ 32 → length a.rates ≤ 16 → 1 ≤ period → period ≤ 255 → length (beacon a sequence period group members) ≤ 2328
beacon-length shows a sequence period group members lb ls lr some few =
    managed beacon_subtype broadcast a.bss sequence (beacon_body a period group members) (omega arith) lb
    (simp length-append (omega (arith, fixed-length a, elements-length a ls, tim-length shows a.clock period group members some few, extended-length a.rates lr)))

-- ---- units

unit-length : (bss : List ℕ) (more : Bool) (u : DataUnit) (sequence : ℕ) → length bss ≤ 6 → FitsFrame u → length (unit_frame bss more u sequence) ≤ 2328
unit-length bss more u sequence lb h =
    simp length-append (omega (arith, h.to, h.source, h.body))

abbrev IsShortWired : Option (List ℕ) → Type 0
IsShortWired (Some octets) = length octets ≤ 2310
IsShortWired None = Unit {0}

wired-length : (to source body : List ℕ) → length to ≤ 6 → length source ≤ 6 → length body ≤ 2304 → IsShortWired (on_wire to source body)
wired-length to source body lt ls lb = by (names_type body) (is_length (length body)) refl
  where
    whole : (n : ℕ) (rest : List ℕ) → length rest ≤ 2296 → length (to ++ source ++ to_be_bytes w16 n ++ rest) ≤ 2310
    whole n rest short = simp length-append (omega arith)

    by : (b c : Bool) → is_length (length body) ≡ c → IsShortWired (option_map (λ (p : ℕ × List ℕ). to ++ source ++ to_be_bytes w16 p.0 ++ p.1) (if b then Some (type_of body, drop 8 body) else if c then Some (length body, body) else None))
    by true c is = whole (type_of body) (drop 8 body) (omega (arith, length-drop 8 body))
    by false true is = whole (length body) body (omega (arith, leb-true (length body) 1500 (and_parts (nat_le 3 (length body)) _ is).1))
    by false false is = tt

kind-fits : (at : ℕ) (kind : Kind) (y to source payload : List ℕ) → IsOfKind kind y to source payload → FitsFrame (unit at to source (body_of kind payload))
kind-fits at (Typed type) y to source payload h = record {
  to = omega (arith, h.parts.destination_len);
  source = omega (arith, h.parts.source_len);
  body = omega (arith, h.short);
}
kind-fits at Sized y to source payload h = record {
  to = omega (arith, h.parts.destination_len);
  source = omega (arith, h.parts.source_len);
  body = omega (arith, h.greatest);
}

-- an Ethernet frame is the one that is read
abbrev pub AreEthernet : Type 0
AreEthernet = (y : List ℕ) (w : Ethernet) → (ethernet_of y ≡ Ok w) ↔ IsEthernet y w

pub ethernet-fits : (at : ℕ) (y : List ℕ) (w : Ethernet) → IsEthernet y w → FitsFrame (unit_of at w)
ethernet-fits at y w h = kind-fits at w.kind y w.to w.source w.payload h

-- ---- requests

abbrev pub UnitFits : Request → Type 0
UnitFits (Msdu from doze to body) = (length to ≤ 6) × (length body ≤ 2304)
UnitFits other = Unit {0}

pub record IsShort (r : Request) : Type 0 where
  pub from : length (sender r) ≤ 6
  pub passed : UnitFits r

abbrev pub IsShortRead : Result Request Unread → Type 0
IsShortRead (Ok r) = IsShort r
IsShortRead (Err fault) = Unit {0}

said : {A : Type 0} (request : A → Request) (read : Result A Unread) → ((a : A) → IsShort (request a)) → IsShortRead (request_on request read)
said request (Ok a) h = h a
said request (Err fault) h = tt

asked-short : (subtype : ℕ) (from body : List ℕ) → length from ≤ 6 → IsShortRead (asked_by subtype from body)
asked-short subtype from body short =
    by (subtype == association_request_subtype) (subtype == reassociation_request_subtype) (subtype == probe_request_subtype)
    (subtype == disassociation_subtype) (subtype == authentication_subtype) (subtype == deauthentication_subtype)
  where
    by : (a b c d e f : Bool) → IsShortRead (if a then asked_to_associate from false body else if b then asked_to_associate from true body else if c then request_on (λ ssid. Probe from ssid) (probe_of body) else if d then request_on (λ _. Disassoc from) (reason_of body) else if e then request_on (λ told. Auth from told.0 told.1) (auth_of body) else if f then request_on (λ _. Deauth from) (reason_of body) else Err faults.Kind)
    by true b c d e f = said (λ told. Assoc from false told.0 told.1) (assoc_of false body) (λ told. record { from = short; passed = tt })
    by false true c d e f = said (λ told. Assoc from true told.0 told.1) (assoc_of true body) (λ told. record { from = short; passed = tt })
    by false false true d e f = said (λ ssid. Probe from ssid) (probe_of body) (λ ssid. record { from = short; passed = tt })
    by false false false true e f = said (λ _. Disassoc from) (reason_of body) (λ _. record { from = short; passed = tt })
    by false false false false true f = said (λ told. Auth from told.0 told.1) (auth_of body) (λ told. record { from = short; passed = tt })
    by false false false false false true = said (λ _. Deauth from) (reason_of body) (λ _. record { from = short; passed = tt })
    by false false false false false false = tt

-- a string is the frame that is read of it
abbrev pub AreFrames : Type 0
AreFrames = (bss x : List ℕ) (f : Frame) → (frame_of bss x ≡ Ok f) ↔ IsFrame bss x f

frame-short : (bss x : List ℕ) (f : Frame) → IsFrame bss x f → IsShortRead (request_in f)
frame-short bss x (heard.Mgmt subtype from to_all body) h =
    asked-short subtype from body (omega (arith, ap length h.from_is, h.management.headed.address_2))
frame-short bss x (heard.Msdu from doze to body) h = record {
  from = omega (arith, ap length h.from_is, h.data_frame.headed.address_2);
  passed = (omega (arith, ap length h.to_is, h.data_frame.headed.address_3), omega (arith, ap length h.body_is, h.data_frame.headed.body));
}
frame-short bss x (heard.Null from doze) h = record {
  from = omega (arith, ap length h.from_is, h.data_frame.headed.address_2);
  passed = tt;
}
frame-short bss x (heard.Poll from aid) h = record { from = omega (arith, ap length h.from_is, h.polled.transmitter); passed = tt }

pub request-short : AreFrames → (bss x : List ℕ) → IsShortRead (request_of bss x)
request-short frames bss x = by (frame_of bss x) refl
  where
    by : (read : Result Frame Unread) → frame_of bss x ≡ read → IsShortRead (request_read read)
    by (Ok f) is = frame-short bss x f ((frames bss x f).0 is)
    by (Err fault) is = tt

-- ---- the setting

record IsFitting (s : Setting) : Type 0 where
  pub bss : length s.network.bssid ≤ 6
  pub ssid : length s.network.ssid ≤ 32
  pub rates : length s.network.rates ≤ 16
  pub some : 1 ≤ s.network.dtim
  pub few : s.network.dtim ≤ 255

passed-test : (b : Bool) (code : ℕ) (others : Option ℕ) → (if not b then Some code else others) ≡ None → (b ≡ true) × (others ≡ None)
passed-test true code others h = (refl, h)
passed-test false code others h = absurd (cc)

not-group : (b : Bool) (others : Option ℕ) → (if b then Some 8 else others) ≡ None → others ≡ None
not-group true others h = absurd (cc)
not-group false others h = h

between : (low high n : ℕ) → is_between low high n ≡ true → (low ≤ n) × (n ≤ high)
between low high n h =
    let both = and_parts (nat_le low n) (nat_le n high) h in
    (leb-true low n both.0, leb-true n high both.1)

fitting : (s : Setting) → length s.network.bssid ≡ 6 → network_fault s.network ≡ None → IsFitting s
fitting s six checked =
    let n : NetConfig = s.network in
    let after_group = not-group (is_group n.bssid) _ checked in
    let ssid = passed-test (ssid_fits n.ssid) 9 _ after_group in
    let rates = passed-test (rates_fit n.rates) 10 _ ssid.1 in
    let numbers = passed-test (numbers_fit n) 11 _ rates.1 in
    let ssid_len = between 1 32 (length n.ssid) ssid.0 in
    let rates_len = between 1 16 (length n.rates) (and_parts (is_between 1 16 (length n.rates)) _ (and_parts _ _ rates.0).0).0 in
    let dtim = between 1 255 n.dtim (and_parts (is_between 1 255 n.dtim) _ (and_parts _ _ (and_parts _ _ (and_parts _ _ numbers.0).0).0).0).0 in
    record {
      bss = omega (arith, six);
      ssid = ssid_len.1;
      rates = rates_len.1;
      some = dtim.0;
      few = dtim.1;
    }

-- ---- of a network after each named change

send-within : (frame : ℕ → List ℕ) (n : Network) → length (frame n.sequence) ≤ 2328 → IsWithinSizes n → IsWithinSizes (send frame n)
send-within frame n short h = record { kept = h.kept; air = all-push _ n.air (frame n.sequence) h.air short; wire = h.wire }

state-within : (addr : List ℕ) (change : Table → Table) (n : Network) → IsWithinSizes n → IsWithinSizes (change_state addr change n)
state-within addr change n h = record { kept = those-fit _ n.kept h.kept; air = h.air; wire = h.wire }

served-within : (status : ℕ) (addr : List ℕ) (change : Table → Table) (n : Network) → IsWithinSizes n → IsWithinSizes (change_where_served status addr change n)
served-within status addr change n h =
    cond_both (status == success) (change_state addr change n) n IsWithinSizes (λ _. state-within addr change n h) (λ _. h)

wire-within : (wired : Option (List ℕ)) (n : Network) → IsShortWired wired → IsWithinSizes n → IsWithinSizes (put_on_wire wired n)
wire-within (Some octets) n short h = record { kept = h.kept; air = h.air; wire = all-push _ n.wire octets h.wire short }
wire-within None n short h = record { kept = h.kept; air = h.air; wire = h.wire }

module _ (s : Setting) (fits : IsFitting s) where
  keep-within : (whom : Whom) (u : DataUnit) (n : Network) → FitsFrame u → IsWithinSizes n → IsWithinSizes (keep_or_lose s whom u n)
  keep-within whom u n short h =
      cond_both (nat_lt (length n.kept) s.network.quota) (record n { kept = n.kept ++ (whom, u) ∷ [] }) (lose n) IsWithinSizes
      (λ _. record { kept = all-push _ n.kept (whom, u) h.kept short; air = h.air; wire = h.wire })
      (λ _. record { kept = h.kept; air = h.air; wire = h.wire })

  unit-within : (more : Bool) (u : DataUnit) (n : Network) → FitsFrame u → IsWithinSizes n → IsWithinSizes (send_unit s more u n)
  unit-within more u n short h =
      send-within (unit_frame s.network.bssid more u) n (unit-length s.network.bssid more u n.sequence fits.bss short) h

  each-within : (shows_more : Bool) (us : List DataUnit) (n : Network) → AllByRecursion FitsFrame us → IsWithinSizes n → IsWithinSizes (send_each s shows_more us n)
  each-within shows_more [] n short h = h
  each-within shows_more (u ∷ us) n short h =
      each-within shows_more us (send_unit s (shows_more && others_follow us) u n) short.1 (unit-within (shows_more && others_follow us) u n short.0 h)

  deliver-within : (u : DataUnit) (n : Network) → FitsFrame u → IsWithinSizes n → IsWithinSizes (deliver s u n)
  deliver-within u n short h = by (delivery_of u.to n.stations n.kept)
    where
      by : (d : Delivery) → IsWithinSizes (deliver_by d s u n)
      by Now = unit-within false u n short h
      by (Kept whom) = keep-within whom u n short h
      by Nowhere = h

  relay-within : (u : DataUnit) (n : Network) → FitsFrame u → IsWithinSizes n → IsWithinSizes (relay s u n)
  relay-within u n short h =
      cond_both s.network.relay (deliver s u n) n IsWithinSizes (λ _. deliver-within u n short h) (λ _. h)

  forward-within : (u : DataUnit) (n : Network) → FitsFrame u → IsWithinSizes n → IsWithinSizes (forward s u n)
  forward-within u n short h = by (goes_on_wire s.network.relay u.to n.stations) (relay-within u n short h)
    where
      by : (b : Bool) → IsWithinSizes (relay s u n) → IsWithinSizes (forward_by b s u n)
      by true relayed = wire-within (on_wire u.to u.source u.body) (relay s u n) (wired-length u.to u.source u.body short.to short.source short.body) relayed
      by false relayed = relayed

  mode-within : (from : List ℕ) (doze : Bool) (n : Network) → IsWithinSizes n → IsWithinSizes (set_power_mode s from doze n)
  mode-within from doze n h =
      cond_both (is_dozing from n.stations && not doze) _ (change_stations (set_mode from doze) n) IsWithinSizes
      (λ _. each-within false (units_for (One from) n.kept) (change_state from (set_mode from doze) n)
      (units-fit (filter (is_for (One from)) n.kept) (those-fit (is_for (One from)) n.kept h.kept))
      (state-within from (set_mode from doze) n h))
      (λ _. record { kept = h.kept; air = h.air; wire = h.wire })

  served-poll : (from : List ℕ) (us : List DataUnit) (n : Network) → AllByRecursion FitsFrame us → IsWithinSizes n → IsWithinSizes (serve_poll s from us n)
  served-poll from [] n short h = h
  served-poll from (u ∷ us) n short h =
      unit-within (others_follow us) u (record n { kept = without_oldest (One from) n.kept }) short.0
      (record { kept = others-fit (One from) n.kept h.kept; air = h.air; wire = h.wire })

  poll-within : (from : List ℕ) (aid : ℕ) (n : Network) → IsWithinSizes n → IsWithinSizes (answer_poll s from aid n)
  poll-within from aid n h =
      cond_both (may_poll aid (state_of from n.stations)) _ n IsWithinSizes
      (λ _. served-poll from (units_for (One from) n.kept) n
      (units-fit (filter (is_for (One from)) n.kept) (those-fit (is_for (One from)) n.kept h.kept)) h)
      (λ _. h)

  -- ---- answers

  probe-within : (from : List ℕ) (ssid : Option (List ℕ)) (n : Network) → length from ≤ 6 → IsWithinSizes n → IsWithinSizes (answer_probe s from ssid n)
  probe-within from ssid n short h =
      cond_both (asks_for s.network.ssid ssid) _ n IsWithinSizes
      (λ _. send-within (probe_response (announced_at s n.clock) from) n (probe-length (announced_at s n.clock) from n.sequence short fits.bss fits.ssid fits.rates) h)
      (λ _. h)

  authentication-within : (from : List ℕ) (algorithm step : ℕ) (n : Network) → length from ≤ 6 → IsWithinSizes n → IsWithinSizes (answer_authentication s from algorithm step n)
  authentication-within from algorithm step n short h =
      let status = authentication_status s from algorithm step n in
      let served = change_where_served status from (authenticate from) n in
      send-within (λ sequence. authentication from s.network.bssid sequence algorithm status) served
      (authentication-length from s.network.bssid served.sequence algorithm status short fits.bss)
      (served-within status from (authenticate from) n h)

  association-within : (from : List ℕ) (again : Bool) (listen : ℕ) (elements : List Pair) (n : Network) → length from ≤ 6 → IsWithinSizes n → IsWithinSizes (answer_association s from again listen elements n)
  association-within from again listen elements n short h =
      let status = association_status s from elements n in
      let aid = next_aid from n.stations in
      let served = change_where_served status from (associate from listen) n in
      send-within (λ sequence. association_response from s.network.bssid sequence again status aid s.network.rates) served
      (association-length from s.network.bssid served.sequence again status aid s.network.rates short fits.bss fits.rates)
      (served-within status from (associate from listen) n h)

  serve-within : (r : Request) (n : Network) → IsShort r → IsWithinSizes n → IsWithinSizes (serve s r n)
  serve-within (Probe from ssid) n short h = probe-within from ssid n short.from h
  serve-within (Auth from algorithm step) n short h = authentication-within from algorithm step n short.from h
  serve-within (Assoc from again listen elements) n short h = association-within from again listen elements n short.from h
  serve-within (Disassoc from) n short h = state-within from (disassociate from) n h
  serve-within (Deauth from) n short h = state-within from (forget from) n h
  serve-within (Msdu from doze to body) n short h =
      forward-within (unit n.clock to from body) (set_power_mode s from doze n)
      (record { to = short.passed.0; source = short.from; body = short.passed.1 }) (mode-within from doze n h)
  serve-within (Null from doze) n short h = mode-within from doze n h
  serve-within (Poll from aid) n short h = poll-within from aid n h

  notified-within : (notice : Option Notice) (r : Request) (n : Network) → IsShort r → IsWithinSizes n → IsWithinSizes (notify_or_serve notice s r n)
  notified-within (Some notice) r n short h =
      send-within (λ sequence. notice_frame (sender r) s.network.bssid sequence notice) n
      (notice-length (sender r) s.network.bssid n.sequence notice short.from fits.bss) h
  notified-within None r n short h = serve-within r n short h

  answer-within : (asked : Result Request Unread) (n : Network) → IsShortRead asked → IsWithinSizes n → IsWithinSizes (answer s asked n)
  answer-within (Ok r) n short h = notified-within (class_fault (standing_of (sender r) n.stations) (class_of r)) r n short h
  answer-within (Err fault) n short h = record { kept = h.kept; air = h.air; wire = h.wire }

  wired-within : (y : List ℕ) (n : Network) → ((w : Ethernet) → ethernet_of y ≡ Ok w → IsEthernet y w) → IsWithinSizes n → IsWithinSizes (answer_wired s (ethernet_of y) n)
  wired-within y n read h = by (ethernet_of y) refl
    where
      by : (wired : Result Ethernet Unread) → ethernet_of y ≡ wired → IsWithinSizes (answer_wired s wired n)
      by (Ok w) is = deliver-within (unit_of n.clock w) n (ethernet-fits n.clock y w (read w is)) h
      by (Err fault) is = record { kept = h.kept; air = h.air; wire = h.wire }

  -- ---- beacons

  release-within : (n : Network) → IsWithinSizes n → IsWithinSizes (release s n)
  release-within n h =
      cond_both (dtim_count n.clock s.network.dtim == 0) _ n IsWithinSizes
      (λ _. each-within true (units_for Group n.kept) (drop_units Group n)
      (units-fit (filter (is_for Group) n.kept) (those-fit (is_for Group) n.kept h.kept))
      (record { kept = those-fit _ n.kept h.kept; air = h.air; wire = h.wire }))
      (λ _. h)

  tick-within : HasTims → (n : Network) → IsWithinSizes n → IsWithinSizes (tick s n)
  tick-within tims n h =
      let begun : Network = record n { clock = n.clock + 1 } in
      release-within (send (beacon_frame s (n.clock + 1) n.stations n.kept) begun)
      (send-within (beacon_frame s (n.clock + 1) n.stations n.kept) begun
      (beacon-length tims (announced_at s (n.clock + 1)) n.sequence s.network.dtim _ _ fits.bss fits.ssid fits.rates fits.some fits.few)
      (record { kept = h.kept; air = h.air; wire = h.wire }))

  aged-within : (n : Network) → IsWithinSizes n → IsWithinSizes (age_units s n)
  aged-within n h = record { kept = those-fit _ n.kept h.kept; air = h.air; wire = h.wire }

-- ---- steps

pub step-within : AreFrames → AreEthernet → HasTims → (s : Setting) (n : Network) (e : Event) → length s.network.bssid ≡ 6 → network_fault s.network ≡ None → IsWithinSizes n → IsWithinSizes (step s n e)
step-within frames wired tims s n (Air x) six checked h =
    answer-within s (fitting s six checked) (request_of s.network.bssid x) n (request-short frames s.network.bssid x) h
step-within frames wired tims s n (Wire y) six checked h =
    wired-within s (fitting s six checked) y n (λ w is. (wired y w).0 is) h
step-within frames wired tims s n Tick six checked h =
    tick-within s (fitting s six checked) tims (age_units s n) (aged-within s (fitting s six checked) n h)

pub empty-within : IsWithinSizes empty_network
empty-within = record { kept = tt; air = tt; wire = tt }

pub alone-within : AreFrames → AreEthernet → HasTims → (s : Setting) (es : List Event) → length s.network.bssid ≡ 6 → network_fault s.network ≡ None → IsWithinSizes (alone s es)
unfolding alone
alone-within frames wired tims s es six checked = from empty_network es empty-within
  where
    from : (n : Network) (es : List Event) → IsWithinSizes n → IsWithinSizes (after s n es)
    from n [] h = h
    from n (e ∷ es) h = from (step s n e) es (step-within frames wired tims s n e six checked h)
