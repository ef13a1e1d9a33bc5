-- A network alone, event by event.
use Rattle.std.proofs.Common.{◌≡◌, ℕ, ◌+◌, ◌*◌, ◌<◌, ◌≤◌, ◌&&◌, is_some, Some, inl, inr, ⊎_elim, Bool, true, false, not, List, [], ◌∷◌, ◌++◌, filter, length, Option, None, Result, Ok, Err, refl, sym, subst, arith}
use Rattle.std.proofs.lemmas.Bool.{cond_both, eqb-true, ltb-true, or_cases}
use Rattle.std.proofs.lemmas.List.{length-append}
use Rattle.mac_frame.specs.declared.frame.Unread.{Unread as Fault}
use Rattle.std.specs.Prelude.{nat_lt, ◌==◌}
use Rattle.association.specs.Request.{Request, Probe, Auth, Assoc, Disassoc, Deauth, Msdu, Null, Poll, sender, request_of}
use Rattle.association.specs.Asked.{class_of}
use Rattle.association.specs.Status.{success}
use Rattle.association.specs.Authentication.{authentication}
use Rattle.association.specs.Joining.{association_response}
use Rattle.association.specs.Leaving.{notice_frame}
use Rattle.station_state.specs.ClassFault.{class_fault}
use Rattle.station_state.specs.declared.class.Notice.{Notice}
use Rattle.elements.specs.Elements.{Pair}
use Rattle.std.specs.Str.{bytes_eq}
use Rattle.encapsulation.specs.Ethernet.{Ethernet, ethernet_of}
use Rattle.powersave.specs.Keep.{Entry, is_for, units_for, without_oldest}
use Rattle.powersave.specs.declared.unit.Whom.{Whom}
use Rattle.powersave.specs.declared.unit.Whom.TheVariants.{One, Group}
use Rattle.powersave.specs.declared.unit.Unit.{Unit as DataUnit}
use Rattle.stations.specs.Stations.{Table, state_of, aid_of, standing_of, is_dozing, set_mode, set_state, may_associate, next_aid, authenticate, associate, disassociate, forget}
use Rattle.network.specs.Units.{unit, unit_of, unit_frame, others_follow, delivery_of, goes_on_wire, may_poll}
use Rattle.roster.specs.KeptUnits.{IsKeptFor, AreKeptFor, CameBy}
use Rattle.encapsulation.specs.Encapsulation.{on_wire}
use Rattle.beacon.specs.Beacon.{dtim_count}
use Rattle.network.specs.declared.reply.unit.Delivery.{Delivery}
use Rattle.network.specs.declared.reply.unit.Delivery.TheVariants.{Now, Kept, Nowhere}
use Rattle.station_state.specs.declared.state.StationState.TheVariants.{Authenticated, Associated}
use Rattle.stations.specs.Sound.{AreSound}
use Rattle.network.proofs.Clocks.{modes}
use Rattle.network.proofs.FrameSizes.{AreFrames, AreEthernet, IsShort, IsShortRead, all-push, those-fit, others-fit, ethernet-fits, request-short}
use Rattle.network.specs.Sizes.{FitsFrame, AreFitting}
use Rattle.std.proofs.lemmas.List.Filters.{length-filter_both}
use Rattle.network.proofs.UnitDelivery.{kept-for}
use Rattle.network.proofs.Statuses.{room-authenticated, room-associated, known-where_taken, known-where_associated}
use Rattle.ap_config.specs.declared.setting.Setting.{Setting}
use Rattle.network.specs.Network.{Network, empty_network, next_sequence, send, count_unread, change_state, change_stations, change_where_served, lose, keep_or_lose, deliver, answer_wired, drop_units, send_unit, send_each, put_on_wire, relay, forward, forward_by, has_aged, age_units, set_power_mode, serve_poll, answer_poll, beacon_frame, release, tick, may_be_known, authentication_status, answer_authentication, association_status, answer_association, serve, notify_or_serve, announced_at, asks_for, answer, answer_probe, step, after, alone}
use Rattle.ap_config.specs.Configuration.{network_fault}
use Rattle.network.specs.Sound.{IsSoundNetwork}
use Rattle.stations.specs.Changes.{OthersStay, ModesAlone, StaySound, LengthsAfter}
use Rattle.stations.specs.declared.table.Change.TheVariants as changes
use Rattle.roster.specs.Changes.{KeptForDozing, CameInTurn, KeptCounts}
use Rattle.beacon.specs.ProbeResponse.{probe_response}
use Rattle.events.specs.declared.event.Event.{Event}
use Rattle.events.specs.declared.event.Event.TheVariants.{Air, Wire, Tick}

pub alone-none : (s : Setting) → alone s [] ≡ empty_network
unfolding alone
alone-none s = refl

after-push : (s : Setting) (n : Network) (es : List Event) (e : Event) → after s n (es ++ e ∷ []) ≡ step s (after s n es) e
after-push s n [] e = refl
after-push s n (x ∷ es) e = after-push s (step s n x) es e

-- one more event is one more step
pub alone-push : (s : Setting) (es : List Event) (e : Event) → alone s (es ++ e ∷ []) ≡ step s (alone s es) e
unfolding alone
alone-push s es e = after-push s empty_network es e

-- ---- what holds of every network that can be reached: of the empty one, after each named change

pub empty-sound : (s : Setting) → IsSoundNetwork s 0 0 empty_network
empty-sound s = record {
  stations = record { addresses = tt; aids = tt; associated = omega arith };
  known = omega arith;
  kept = tt;
  came = record { in_order = λ whom. tt; by = tt };
  sizes = tt;
  quota = omega arith;
  sequence = omega arith;
  unread = omega arith;
  clock = omega arith;
  lost = omega arith;
}

-- more events and units are no less
pub more-sound : (s : Setting) (events units more most : ℕ) (n : Network) → events ≤ more → units ≤ most → IsSoundNetwork s events units n → IsSoundNetwork s more most n
more-sound s events units more most n e u h =
    let unread : n.unread ≤ more = omega (arith, e, h.unread) in
    let clock : n.clock ≤ more = omega (arith, e, h.clock) in
    let lost : n.lost + length n.kept ≤ most = omega (arith, u, h.lost) in
    assumption

-- which frames were sent, on the air or on the wire, is nothing to it
pub frames-sound : (s : Setting) (events units : ℕ) (n : Network) (air wire : List (List ℕ)) → IsSoundNetwork s events units n → IsSoundNetwork s events units (record n { air = air; wire = wire })
frames-sound s events units n air wire h = assumption

-- who a unit is kept for dozes
pub delivery-for : (to : List ℕ) (t : Table) (kept : List Entry) (whom : Whom) → delivery_of to t kept ≡ Kept whom → IsKeptFor t whom
delivery-for to t kept whom h =
    ⊎_elim (λ e. subst (IsKeptFor t) e tt) (λ e. subst (IsKeptFor t) e.0 e.1) (kept-for to t kept whom h)

-- what the laws of the crates below say of a table, and of the units that are kept for its stations
pub record LawsBelow : Type 0 where
  pub others : OthersStay
  pub modes : ModesAlone
  pub sound : StaySound
  pub lengths : LengthsAfter
  pub kept : KeptForDozing
  pub came : CameInTurn
  pub counts : KeptCounts

module _ (below : LawsBelow) where
  -- of a network with the same stations and kept units, where its counts stay within their bounds
  counts-sound : (s : Setting) (events units more most : ℕ) (n : Network) (clock sequence lost unread : ℕ) (air : List (List ℕ)) → n.clock ≤ clock → sequence < 4096 → unread ≤ more → clock ≤ more → lost + length n.kept ≤ most → IsSoundNetwork s events units n → IsSoundNetwork s more most (record n { clock = clock; sequence = sequence; lost = lost; unread = unread; air = air })
  counts-sound s events units more most n clock sequence lost unread air later few read begun all h =
      let came = below.came.later n.clock clock n.kept later h.came in
      assumption

  send-sound : (s : Setting) (events units : ℕ) (n : Network) (frame : ℕ → List ℕ) → IsSoundNetwork s events units n → IsSoundNetwork s events units (send frame n)
  send-sound s events units n frame h = counts-sound s events units events units n n.clock (next_sequence n.sequence) n.lost n.unread (n.air ++ frame n.sequence ∷ []) (omega arith) (omega arith) h.unread h.clock h.lost h

  count_unread-sound : (s : Setting) (events units : ℕ) (n : Network) → IsSoundNetwork s events units n → IsSoundNetwork s (events + 1) units (count_unread n)
  count_unread-sound s events units n h = counts-sound s events units (events + 1) units n n.clock n.sequence n.lost (n.unread + 1) n.air (omega arith) h.sequence (omega (arith, h.unread)) (omega (arith, h.clock)) h.lost h

  clock-sound : (s : Setting) (events units : ℕ) (n : Network) → IsSoundNetwork s events units n → IsSoundNetwork s (events + 1) units (record n { clock = n.clock + 1 })
  clock-sound s events units n h = counts-sound s events units (events + 1) units n (n.clock + 1) n.sequence n.lost n.unread n.air (omega arith) h.sequence (omega (arith, h.unread)) (omega (arith, h.clock)) h.lost h

  lose-sound : (s : Setting) (events units : ℕ) (n : Network) → IsSoundNetwork s events units n → IsSoundNetwork s events (units + 1) (lose n)
  lose-sound s events units n h = counts-sound s events units events (units + 1) n n.clock n.sequence (n.lost + 1) n.unread n.air (omega arith) h.sequence h.unread h.clock (omega (arith, h.lost)) h

  -- some units leave
  kept-sound : (s : Setting) (events units : ℕ) (n : Network) (kept : List Entry) → AreKeptFor n.stations kept → CameBy n.clock kept → AreFitting kept → length kept ≤ length n.kept → IsSoundNetwork s events units n → IsSoundNetwork s events units (record n { kept = kept })
  kept-sound s events units n kept for came sizes fewer h =
      let quota : length kept ≤ s.network.quota = omega (arith, fewer, h.quota) in
      let lost : n.lost + length kept ≤ units = omega (arith, fewer, h.lost) in
      assumption

  dropped-sound : (s : Setting) (stay : Entry → Bool) (events units : ℕ) (n : Network) → IsSoundNetwork s events units n → IsSoundNetwork s events units (record n { kept = filter stay n.kept })
  dropped-sound s stay events units n h =
      kept-sound s events units n (filter stay n.kept) (below.kept.some n.stations stay n.kept h.kept) (below.came.some stay n.clock n.kept h.came) (those-fit stay n.kept h.sizes) (below.counts.some stay n.kept) h

  -- the stations change, and stay sound, and whoever units are kept for dozes
  stations-sound : (s : Setting) (events units : ℕ) (n : Network) (table : Table) → AreSound s.network.max_stations table → length table ≤ s.network.max_known → AreKeptFor table n.kept → IsSoundNetwork s events units n → IsSoundNetwork s events units (record n { stations = table })
  stations-sound s events units n table sound few for h = assumption

  -- one of them changes, and the units for it leave
  state-sound : (s : Setting) (addr : List ℕ) (change : Table → Table) (events units : ℕ) (n : Network) → AreSound s.network.max_stations (change n.stations) → length (change n.stations) ≤ s.network.max_known → ((b : List ℕ) → bytes_eq b addr ≡ false → state_of b (change n.stations) ≡ state_of b n.stations) → IsSoundNetwork s events units n → IsSoundNetwork s events units (change_state addr change n)
  state-sound s addr change events units n sound few elsewhere h =
      let stay : Entry → Bool = λ entry. not (is_for (One addr) entry) in
      stations-sound s events units (record n { kept = filter stay n.kept }) (change n.stations) sound few
      (below.kept.beside addr n.stations (change n.stations) elsewhere n.kept h.kept) (dropped-sound s stay events units n h)

  -- ---- units

  keep-sound : (s : Setting) (whom : Whom) (u : DataUnit) (events units : ℕ) (n : Network) → u.at ≡ n.clock → FitsFrame u → IsKeptFor n.stations whom → IsSoundNetwork s events units n → IsSoundNetwork s events (units + 1) (keep_or_lose s whom u n)
  keep-sound s whom u events units n at size for h =
      let len : length (n.kept ++ (whom, u) ∷ []) ≡ length n.kept + 1 = length-append n.kept ((whom, u) ∷ []) in
      cond_both (nat_lt (length n.kept) s.network.quota) (record n { kept = n.kept ++ (whom, u) ∷ [] }) (lose n) (IsSoundNetwork s events (units + 1))
      (λ is.
      let kept = below.kept.one_came n.stations whom u n.kept h.kept for in
      let came = below.came.one_came whom u n.clock n.kept at h.came in
      let sizes = all-push (λ (entry : Entry). FitsFrame entry.1) n.kept (whom, u) h.sizes size in
      let quota : length (n.kept ++ (whom, u) ∷ []) ≤ s.network.quota = omega (arith, ltb-true (length n.kept) s.network.quota is, len) in
      let lost : n.lost + length (n.kept ++ (whom, u) ∷ []) ≤ units + 1 = omega (arith, len, h.lost) in
      assumption)
      (λ _. lose-sound s events units n h)

  deliver-sound : (s : Setting) (u : DataUnit) (events units : ℕ) (n : Network) → u.at ≡ n.clock → FitsFrame u → IsSoundNetwork s events units n → IsSoundNetwork s events (units + 1) (deliver s u n)
  deliver-sound s u events units n at size h = by (delivery_of u.to n.stations n.kept) refl
    where
      by : (d : Delivery) → delivery_of u.to n.stations n.kept ≡ d → IsSoundNetwork s events (units + 1) (deliver s u n)
      by Now is = rw is (more-sound s events units events (units + 1) _ (omega arith) (omega arith) (send-sound s events units n (unit_frame s.network.bssid false u) h))
      by (Kept whom) is = rw is (keep-sound s whom u events units n at size (delivery-for u.to n.stations n.kept whom is) h)
      by Nowhere is = rw is (more-sound s events units events (units + 1) n (omega arith) (omega arith) h)

  send_each-sound : (s : Setting) (shows_more : Bool) (us : List DataUnit) (events units : ℕ) (n : Network) → IsSoundNetwork s events units n → IsSoundNetwork s events units (send_each s shows_more us n)
  send_each-sound s shows_more [] events units n h = h
  send_each-sound s shows_more (u ∷ us) events units n h =
      send_each-sound s shows_more us events units (send_unit s (shows_more && others_follow us) u n) (send-sound s events units n (unit_frame s.network.bssid (shows_more && others_follow us) u) h)

  put_on_wire-sound : (s : Setting) (wired : Option (List ℕ)) (events units : ℕ) (n : Network) → IsSoundNetwork s events units n → IsSoundNetwork s events (units + 1) (put_on_wire wired n)
  put_on_wire-sound s (Some octets) events units n h = more-sound s events units events (units + 1) _ (omega arith) (omega arith) (frames-sound s events units n n.air (n.wire ++ octets ∷ []) h)
  put_on_wire-sound s None events units n h = lose-sound s events units n h

  relay-sound : (s : Setting) (u : DataUnit) (events units : ℕ) (n : Network) → u.at ≡ n.clock → FitsFrame u → IsSoundNetwork s events units n → IsSoundNetwork s events (units + 1) (relay s u n)
  relay-sound s u events units n at size h =
      cond_both s.network.relay (deliver s u n) n (IsSoundNetwork s events (units + 1)) (λ _. deliver-sound s u events units n at size h)
      (λ _. more-sound s events units events (units + 1) n (omega arith) (omega arith) h)

  forward-sound : (s : Setting) (u : DataUnit) (events units : ℕ) (n : Network) → u.at ≡ n.clock → FitsFrame u → IsSoundNetwork s events units n → IsSoundNetwork s events (units + 2) (forward s u n)
  forward-sound s u events units n at size h = by (goes_on_wire s.network.relay u.to n.stations) (relay-sound s u events units n at size h)
    where
      by : (b : Bool) → IsSoundNetwork s events (units + 1) (relay s u n) → IsSoundNetwork s events (units + 2) (forward_by b s u n)
      by true relayed = more-sound s events (units + 1 + 1) events (units + 2) _ (omega arith) (omega arith) (put_on_wire-sound s (on_wire u.to u.source u.body) events (units + 1) (relay s u n) relayed)
      by false relayed = more-sound s events (units + 1) events (units + 2) _ (omega arith) (omega arith) relayed

  mode_set-sound : (s : Setting) (from : List ℕ) (doze : Bool) (events units : ℕ) (n : Network) → s.network.max_stations ≤ 2007 → IsSoundNetwork s events units n → IsSoundNetwork s events units (set_power_mode s from doze n)
  mode_set-sound s from doze events units n limit h =
      let few : length (set_mode from doze n.stations) ≤ s.network.max_known = omega (arith, below.lengths.moded from doze n.stations, h.known) in
      let sound = below.sound s.network.max_stations (changes.SetMode from doze) n.stations limit tt h.stations in
      cond_both (is_dozing from n.stations && not doze) _ (change_stations (set_mode from doze) n) (IsSoundNetwork s events units)
      (λ _. send_each-sound s false (units_for (One from) n.kept) events units (change_state from (set_mode from doze) n)
      (state-sound s from (set_mode from doze) events units n sound few (λ b other. below.others.moded from b doze n.stations other) h))
      (λ is. stations-sound s events units n (set_mode from doze n.stations) sound few
      (below.kept.dozing n.stations (set_mode from doze n.stations) (λ b dozes. below.modes.stays from b doze n.stations is dozes) n.kept h.kept) h)

  poll-sound : (s : Setting) (from : List ℕ) (us : List DataUnit) (events units : ℕ) (n : Network) → IsSoundNetwork s events units n → IsSoundNetwork s events units (serve_poll s from us n)
  poll-sound s from [] events units n h = h
  poll-sound s from (u ∷ us) events units n h =
      send-sound s events units _ (unit_frame s.network.bssid (others_follow us) u)
      (kept-sound s events units n (without_oldest (One from) n.kept) (below.kept.one_left n.stations (is_for (One from)) n.kept h.kept) (below.came.one_left (is_for (One from)) n.clock n.kept h.came) (others-fit (One from) n.kept h.sizes) (below.counts.one_left (is_for (One from)) n.kept) h)

  polled-sound : (s : Setting) (from : List ℕ) (aid events units : ℕ) (n : Network) → IsSoundNetwork s events units n → IsSoundNetwork s events units (answer_poll s from aid n)
  polled-sound s from aid events units n h =
      cond_both (may_poll aid (state_of from n.stations)) _ n (IsSoundNetwork s events units)
      (λ _. poll-sound s from (units_for (One from) n.kept) events units n h) (λ _. h)

  release-sound : (s : Setting) (events units : ℕ) (n : Network) → IsSoundNetwork s events units n → IsSoundNetwork s events units (release s n)
  release-sound s events units n h =
      cond_both (dtim_count n.clock s.network.dtim == 0) _ n (IsSoundNetwork s events units)
      (λ _. send_each-sound s true (units_for Group n.kept) events units (drop_units Group n)
      (dropped-sound s (λ entry. not (is_for Group entry)) events units n h))
      (λ _. h)

  tick-sound : (s : Setting) (events units : ℕ) (n : Network) → IsSoundNetwork s events units n → IsSoundNetwork s (events + 1) units (tick s n)
  tick-sound s events units n h =
      release-sound s (events + 1) units _
      (send-sound s (events + 1) units (record n { clock = n.clock + 1 }) (beacon_frame s (n.clock + 1) n.stations n.kept) (clock-sound s events units n h))

  -- units that leave are lost, and no more are lost or kept than were
  age-sound : (s : Setting) (events units : ℕ) (n : Network) → IsSoundNetwork s events units n → IsSoundNetwork s events units (age_units s n)
  age-sound s events units n h =
      let leaves : Entry → Bool = has_aged s n in
      let stay : Entry → Bool = λ entry. not (leaves entry) in
      let both = length-filter_both leaves stay (λ entry. refl) n.kept in
      let dropped = dropped-sound s stay events units n h in
      let lost : n.lost + length (filter leaves n.kept) + length (filter stay n.kept) ≤ units = omega (arith, both, h.lost) in
      assumption

  -- ---- and so by each answer, step and history

  probe-sound : (s : Setting) (from : List ℕ) (ssid : Option (List ℕ)) (events units : ℕ) (n : Network) → IsSoundNetwork s events units n → IsSoundNetwork s events units (answer_probe s from ssid n)
  probe-sound s from ssid events units n h =
      cond_both (asks_for s.network.ssid ssid) _ n (IsSoundNetwork s events units)
      (λ _. send-sound s events units n (probe_response (announced_at s n.clock) from) h) (λ _. h)

  authenticated-few : (s : Setting) (from : List ℕ) (n : Network) → may_be_known s from n ≡ true → length n.stations ≤ s.network.max_known → length (authenticate from n.stations) ≤ s.network.max_known
  authenticated-few s from n room few =
      let len = below.lengths.set from Authenticated n.stations in
      let known = is_some (state_of from n.stations) in
      elim (or_cases known (nat_lt (length n.stations) s.network.max_known) room) [
        | inl is ↦ let same = rw is at len in omega (arith, few, same)
        | inr fewer ↦ omega (arith, len, ltb-true (length n.stations) s.network.max_known fewer, cond_both known 0 1 (λ k. k ≤ 1) (λ _. omega arith) (λ _. omega arith))
      ]

  served-sound : (s : Setting) (status : ℕ) (addr : List ℕ) (change : Table → Table) (events units : ℕ) (n : Network) → (status ≡ success → IsSoundNetwork s events units (change_state addr change n)) → IsSoundNetwork s events units n → IsSoundNetwork s events units (change_where_served status addr change n)
  served-sound s status addr change events units n served h =
      cond_both (status == success) (change_state addr change n) n (IsSoundNetwork s events units) (λ is. served (eqb-true status success is)) (λ _. h)

  authentication-sound : (s : Setting) (from : List ℕ) (algorithm step events units : ℕ) (n : Network) → s.network.max_stations ≤ 2007 → IsSoundNetwork s events units n → IsSoundNetwork s events units (answer_authentication s from algorithm step n)
  authentication-sound s from algorithm step events units n limit h =
      send-sound s events units _ (λ sequence. authentication from s.network.bssid sequence algorithm (authentication_status s from algorithm step n))
      (served-sound s (authentication_status s from algorithm step n) from (authenticate from) events units n
      (λ served. state-sound s from (authenticate from) events units n (below.sound s.network.max_stations (changes.Authenticate from) n.stations limit tt h.stations)
      (authenticated-few s from n (room-authenticated algorithm step (may_be_known s from n) served) h.known)
      (λ b other. below.others.set from b Authenticated n.stations other) h) h)

  association-sound : (s : Setting) (from : List ℕ) (again : Bool) (listen : ℕ) (es : List Pair) (events units : ℕ) (n : Network) → s.network.max_stations ≤ 2007 → is_some (state_of from n.stations) ≡ true → IsSoundNetwork s events units n → IsSoundNetwork s events units (answer_association s from again listen es n)
  association-sound s from again listen es events units n limit known h =
      send-sound s events units _ (λ sequence. association_response from s.network.bssid sequence again (association_status s from es n) (next_aid from n.stations) s.network.rates)
      (served-sound s (association_status s from es n) from (associate from listen) events units n
      (λ served. state-sound s from (associate from listen) events units n
      (below.sound s.network.max_stations (changes.Associate from listen) n.stations limit (known, room-associated s.network.ssid s.network.rates (may_associate s.network.max_stations from n.stations) es served) h.stations)
      (let len = below.lengths.set from (Associated (next_aid from n.stations) listen false) n.stations in let same = rw known at len in omega (arith, same, h.known))
      (λ b other. below.others.set from b (Associated (next_aid from n.stations) listen false) n.stations other) h) h)

  disassociation-sound : (s : Setting) (from : List ℕ) (events units : ℕ) (n : Network) → s.network.max_stations ≤ 2007 → IsSoundNetwork s events units n → IsSoundNetwork s events units (change_state from (disassociate from) n)
  disassociation-sound s from events units n limit h =
      let t : Table = n.stations in
      let set : Table = set_state from Authenticated t in
      let has : Bool = is_some (aid_of from t) in
      let len = below.lengths.set from Authenticated t in
      state-sound s from (disassociate from) events units n (below.sound s.network.max_stations (changes.Disassociate from) t limit tt h.stations)
      (cond_both has set t (λ (u : Table). length u ≤ s.network.max_known)
      (λ is. let known = known-where_associated (state_of from t) is in let same = rw known at len in omega (arith, same, h.known)) (λ _. h.known))
      (λ b other. cond_both has set t (λ (u : Table). state_of b u ≡ state_of b t) (λ _. below.others.set from b Authenticated t other) (λ _. refl)) h

  serve-sound : (s : Setting) (r : Request) (events units : ℕ) (n : Network) → IsShort r → s.network.max_stations ≤ 2007 → class_fault (standing_of (sender r) n.stations) (class_of r) ≡ None → IsSoundNetwork s events units n → IsSoundNetwork s events (units + 2) (serve s r n)
  serve-sound s (Probe from ssid) events units n short limit taken h = more-sound s events units events (units + 2) _ (omega arith) (omega arith) (probe-sound s from ssid events units n h)
  serve-sound s (Auth from algorithm step) events units n short limit taken h = more-sound s events units events (units + 2) _ (omega arith) (omega arith) (authentication-sound s from algorithm step events units n limit h)
  serve-sound s (Assoc from again listen es) events units n short limit taken h = more-sound s events units events (units + 2) _ (omega arith) (omega arith) (association-sound s from again listen es events units n limit (known-where_taken (state_of from n.stations) taken) h)
  serve-sound s (Disassoc from) events units n short limit taken h = more-sound s events units events (units + 2) _ (omega arith) (omega arith) (disassociation-sound s from events units n limit h)
  serve-sound s (Deauth from) events units n short limit taken h =
      more-sound s events units events (units + 2) _ (omega arith) (omega arith)
      (state-sound s from (forget from) events units n (below.sound s.network.max_stations (changes.Forget from) n.stations limit tt h.stations) (omega (arith, below.lengths.forgotten from n.stations, h.known))
      (λ b other. below.others.forgotten from b n.stations other) h)
  serve-sound s (Msdu from doze to body) events units n short limit taken h =
      forward-sound s (unit n.clock to from body) events units (set_power_mode s from doze n) (sym (modes s from doze n)) (record { to = short.passed.0; source = short.from; body = short.passed.1 }) (mode_set-sound s from doze events units n limit h)
  serve-sound s (Null from doze) events units n short limit taken h = more-sound s events units events (units + 2) _ (omega arith) (omega arith) (mode_set-sound s from doze events units n limit h)
  serve-sound s (Poll from aid) events units n short limit taken h = more-sound s events units events (units + 2) _ (omega arith) (omega arith) (polled-sound s from aid events units n h)

  notified-sound : (s : Setting) (r : Request) (fault : Option Notice) (events units : ℕ) (n : Network) → IsShort r → s.network.max_stations ≤ 2007 → class_fault (standing_of (sender r) n.stations) (class_of r) ≡ fault → IsSoundNetwork s events units n → IsSoundNetwork s events (units + 2) (notify_or_serve fault s r n)
  notified-sound s r (Some notice) events units n short limit is h = more-sound s events units events (units + 2) _ (omega arith) (omega arith) (send-sound s events units n (λ sequence. notice_frame (sender r) s.network.bssid sequence notice) h)
  notified-sound s r None events units n short limit is h = serve-sound s r events units n short limit is h

  answer-sound : (s : Setting) (asked : Result Request Fault) (events units : ℕ) (n : Network) → IsShortRead asked → s.network.max_stations ≤ 2007 → IsSoundNetwork s events units n → IsSoundNetwork s (events + 1) (units + 2) (answer s asked n)
  answer-sound s (Ok r) events units n short limit h = more-sound s events (units + 2) (events + 1) (units + 2) _ (omega arith) (omega arith) (notified-sound s r (class_fault (standing_of (sender r) n.stations) (class_of r)) events units n short limit refl h)
  answer-sound s (Err fault) events units n short limit h = more-sound s (events + 1) units (events + 1) (units + 2) _ (omega arith) (omega arith) (count_unread-sound s events units n h)

  wired-sound : (s : Setting) (read : Result Ethernet Fault) (events units : ℕ) (n : Network) → ((w : Ethernet) → read ≡ Ok w → FitsFrame (unit_of n.clock w)) → IsSoundNetwork s events units n → IsSoundNetwork s (events + 1) (units + 2) (answer_wired s read n)
  wired-sound s (Ok w) events units n size h = more-sound s events (units + 1) (events + 1) (units + 2) _ (omega arith) (omega arith) (deliver-sound s (unit_of n.clock w) events units n refl (size w refl) h)
  wired-sound s (Err fault) events units n size h = more-sound s (events + 1) units (events + 1) (units + 2) _ (omega arith) (omega arith) (count_unread-sound s events units n h)

  pub step-sound : AreFrames → AreEthernet → (s : Setting) (events units : ℕ) (n : Network) (e : Event) → s.network.max_stations ≤ 2007 → IsSoundNetwork s events units n → IsSoundNetwork s (events + 1) (units + 2) (step s n e)
  step-sound frames ethernet s events units n (Air x) limit h = answer-sound s (request_of s.network.bssid x) events units n (request-short frames s.network.bssid x) limit h
  step-sound frames ethernet s events units n (Wire y) limit h =
      wired-sound s (ethernet_of y) events units n (λ w is. ethernet-fits n.clock y w ((ethernet y w).0 is)) h
  step-sound frames ethernet s events units n Tick limit h = more-sound s (events + 1) units (events + 1) (units + 2) _ (omega arith) (omega arith) (tick-sound s events units (age_units s n) (age-sound s events units n h))

-- what holds of a network holds after one event more, and so after any
abbrev pub StaysSound : Type 0
StaysSound = (s : Setting) (events units : ℕ) (n : Network) (e : Event) → network_fault s.network ≡ None → IsSoundNetwork s events units n → IsSoundNetwork s (events + 1) (units + 2) (step s n e)

after-sound : StaysSound → (s : Setting) (events units : ℕ) (n : Network) (es : List Event) → network_fault s.network ≡ None → IsSoundNetwork s events units n → IsSoundNetwork s (events + length es) (units + 2 * length es) (after s n es)
after-sound stays s events units n [] accepted h = more-sound s events units _ _ n (omega arith) (omega arith) h
after-sound stays s events units n (e ∷ es) accepted h =
    more-sound s _ _ _ _ (after s (step s n e) es) (omega arith) (omega arith)
    (after-sound stays s (events + 1) (units + 2) (step s n e) es accepted (stays s events units n e accepted h))

pub alone-sound : StaysSound → (s : Setting) (es : List Event) → network_fault s.network ≡ None → IsSoundNetwork s (length es) (2 * length es) (alone s es)
unfolding alone
alone-sound stays s es accepted =
    more-sound s _ _ _ _ (after s empty_network es) (omega arith) (omega arith) (after-sound stays s 0 0 empty_network es accepted (empty-sound s))
