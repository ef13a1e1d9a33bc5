-- Without options a network is one of the first version.
use Rattle.std.proofs.Common.{◌≡◌, ℕ, ◌+◌, Bool, true, false, not, ◌&&◌, ◌||◌, List, [], ◌∷◌, ◌++◌, length, Option, Some, None, Result, Ok, Err, refl, ap, ◌∙◌, if◌then◌else◌}
use Rattle.std.specs.Prelude.{◌==◌, nat_lt, unwrap_or}
use Rattle.mac_frame.specs.declared.frame.Unread.{Unread}
use Rattle.mac_frame.specs.Address.{is_group}
use Rattle.elements.specs.Elements.{Pair}
use Rattle.association.specs.Request.{Request, Probe, Auth, Assoc, Disassoc, Deauth, Msdu, Null, Poll, sender, request_of}
use Rattle.association.specs.Asked.{class_of}
use Rattle.association.specs.Status.{success}
use Rattle.association.specs.Authentication.{authentication}
use Rattle.association.specs.Joining.{association_response}
use Rattle.beacon.specs.Beacon.{dtim_count}
use Rattle.encapsulation.specs.Ethernet.{Ethernet, ethernet_of}
use Rattle.encapsulation.specs.Encapsulation.{on_wire}
use Rattle.aid_pool.specs.LeastFree.{least_free, is_among}
use Rattle.powersave.specs.Keep.{units_for}
use Rattle.powersave.specs.declared.unit.Whom.{Whom}
use Rattle.powersave.specs.declared.unit.Whom.TheVariants.{One, Group}
use Rattle.powersave.specs.declared.unit.Unit.{Unit as DataUnit}
use Rattle.station_state.specs.declared.class.Class.TheVariants.{One as ClassOne, Two as ClassTwo, Three as ClassThree}
use Rattle.station_state.specs.ClassFault.{class_fault}
use Rattle.station_state.specs.declared.class.Notice.{Notice}
use Rattle.stations.specs.Stations.{Table, state_of, standing_with, aid_with, identifiers, is_associated, next_aid, associate, is_dozing, set_mode}
use Rattle.station_state.specs.declared.state.StationState.{StationState}
use Rattle.station_state.specs.declared.state.StationState.TheVariants.{Authenticated, Associated}
use Rattle.ap_config.specs.declared.setting.Setting.{Setting}
use Rattle.events.specs.declared.event.Event.{Event}
use Rattle.events.specs.declared.event.Event.TheVariants.{Air, Wire, Tick}
use Rattle.network.specs.Network.{Network, empty_network, age_units, asks_for, send, change_state, drop_units, lose, keep_or_lose, send_unit, send_each, put_on_wire, deliver_by, deliver, relay, forward_by, forward, set_power_mode, serve_poll, answer_poll, answer_wired, answer_probe, answer_authentication, answer_association, authentication_status, association_status, serve, notify_or_serve, answer, beacon_frame, release, tick, step, after, alone}
use Rattle.network.specs.Units.{unit, unit_of, others_follow, delivery_with, goes_on_wire, group_waits, may_poll}
use Rattle.network.specs.declared.reply.unit.Delivery.TheVariants.{Now, Kept}
use Rattle.versions.specs.FirstVersion as first
use Rattle.versions.specs.FirstVersion.{FirstSetting, FirstNetwork, least_beside, alone as alone_at_first}
use Rattle.versions.specs.Versions.{first_setting}

-- Both versions define the states of stations, the units that are kept and the elements of a request by the same cases.
-- So what they say of these computes to the same, and needs no lemma.

-- ---- the identifier that an association gives

least : (aids : List ℕ) → least_free (is_among aids) ≡ first.least_beside aids
unfolding least_free least_beside
least aids = refl

next : (addr : List ℕ) (t : Table) → next_aid addr t ≡ first.next_aid addr t
next addr t = ap (unwrap_or (aid_with (state_of addr t))) (least (identifiers t))

-- ---- a network as one of the first version

abbrev shown : Network → FirstNetwork
shown n = record {
  stations = n.stations;
  kept = n.kept;
  clock = n.clock;
  sequence = n.sequence;
  lost = n.lost;
  unread = n.unread;
  air = n.air;
  wire = n.wire;
}

chosen : (b : Bool) (x y : Network) (v w : FirstNetwork) → shown x ≡ v → shown y ≡ w → shown (if b then x else y) ≡ (if b then v else w)
chosen true x y v w h k = h
chosen false x y v w h k = k

wired : (w : Option (List ℕ)) (n : Network) → shown (put_on_wire w n) ≡ first.put_on_wire w (shown n)
wired (Some octets) n = refl
wired None n = refl

-- ---- notices

notice-1 : (o : Option StationState) → class_fault (standing_with o) ClassOne ≡ None
notice-1 (Some Authenticated) = refl
notice-1 other = refl

notice-2 : (o : Option StationState) → class_fault (standing_with o) ClassTwo ≡ first.notice_2 o
notice-2 (Some Authenticated) = refl
notice-2 other = refl

notice-3 : (o : Option StationState) → class_fault (standing_with o) ClassThree ≡ first.notice_3 o
notice-3 (Some Authenticated) = refl
notice-3 other = refl

notices : (o : Option StationState) (r : Request) → class_fault (standing_with o) (class_of r) ≡ first.notice_for o r
notices o (Probe from ssid) = notice-1 o
notices o (Auth from algorithm step) = notice-1 o
notices o (Assoc from again listen elements) = notice-2 o
notices o (Disassoc from) = notice-2 o
notices o (Deauth from) = notice-1 o
notices o (Msdu from doze to body) = notice-3 o
notices o (Null from doze) = notice-3 o
notices o (Poll from aid) = notice-3 o

-- ---- what it does

module _ (s : Setting) where
  abbrev t : FirstSetting
  t = first_setting s

  kept-or-lost : (whom : Whom) (u : DataUnit) (n : Network) → shown (keep_or_lose s whom u n) ≡ first.keep_or_lose t whom u (shown n)
  kept-or-lost whom u n =
      chosen (nat_lt (length n.kept) s.network.quota) (record n { kept = n.kept ++ (whom, u) ∷ [] }) (lose n) _ _ refl refl

  sent-each : (shows_more : Bool) (us : List DataUnit) (n : Network) → shown (send_each s shows_more us n) ≡ first.send_each t shows_more us (shown n)
  sent-each shows_more [] n = refl
  sent-each shows_more (u ∷ us) n = sent-each shows_more us (send_unit s (shows_more && others_follow us) u n)

  delivered : (u : DataUnit) (n : Network) → shown (deliver s u n) ≡ first.deliver t u (shown n)
  delivered u n = by (is_group u.to) (group_waits n.stations n.kept) (state_of u.to n.stations)
    where
      by : (b w : Bool) (o : Option StationState) → shown (deliver_by (if b then (if w then Kept Group else Now) else delivery_with o u.to) s u n) ≡ (if b then (if w then first.keep_or_lose t Group u (shown n) else first.send_unit t false u (shown n)) else first.deliver_to o t u (shown n))
      by true true o = kept-or-lost Group u n
      by true false o = refl
      by false w None = refl
      by false w (Some Authenticated) = refl
      by false w (Some (Associated aid listen true)) = kept-or-lost (One u.to) u n
      by false w (Some (Associated aid listen false)) = refl

  moded : (from : List ℕ) (doze : Bool) (n : Network) → shown (set_power_mode s from doze n) ≡ first.set_power_mode t from doze (shown n)
  moded from doze n =
      let us : List DataUnit = units_for (One from) n.kept in
      let after : Network = change_state from (set_mode from doze) n in
      chosen (is_dozing from n.stations && not doze) (send_each s false us after) (record n { stations = set_mode from doze n.stations }) _ _
      (sent-each false us after) refl

  poll-served : (from : List ℕ) (us : List DataUnit) (n : Network) → shown (serve_poll s from us n) ≡ first.serve_poll t from us (shown n)
  poll-served from [] n = refl
  poll-served from (u ∷ us) n = refl

  polled : (from : List ℕ) (aid : ℕ) (n : Network) → shown (answer_poll s from aid n) ≡ first.answer_poll t from aid (shown n)
  polled from aid n =
      let us : List DataUnit = units_for (One from) n.kept in
      chosen (may_poll aid (state_of from n.stations)) (serve_poll s from us n) n _ _ (poll-served from us n) refl

  from-wire : (read : Result Ethernet Unread) (n : Network) → shown (answer_wired s read n) ≡ first.answer_wired t read (shown n)
  from-wire (Ok w) n = delivered (unit_of n.clock w) n
  from-wire (Err fault) n = refl

  -- ---- requests

  probed : (from : List ℕ) (ssid : Option (List ℕ)) (n : Network) → shown (answer_probe s from ssid n) ≡ first.answer_probe t from ssid (shown n)
  probed from ssid n = chosen (asks_for s.network.ssid ssid) _ n _ _ refl refl

  authenticated : (from : List ℕ) (algorithm step : ℕ) (n : Network) → shown (answer_authentication s from algorithm step n) ≡ first.answer_authentication t from algorithm step (shown n)
  authenticated from algorithm step n =
      let status = authentication_status s from algorithm step n in
      ap (first.send (λ sequence. authentication from s.network.bssid sequence algorithm status)) (chosen (status == success) _ n _ _ refl refl)

  joined : (from : List ℕ) (again : Bool) (listen : ℕ) (elements : List Pair) (n : Network) → shown (answer_association s from again listen elements n) ≡ first.answer_association t from again listen elements (shown n)
  joined from again listen elements n =
      let status = association_status s from elements n in
      let aid = next from n.stations in
      let after = chosen (status == success) (change_state from (associate from listen) n) n (first.change_state from (first.associate from listen) (shown n)) (shown n)
      (λ i. first.change_state from (first.set_state from (Associated (aid i) listen false)) (shown n)) refl in
      λ i. first.send (λ sequence. association_response from s.network.bssid sequence again status (aid i) s.network.rates) (after i)

  module _ (relays : s.network.relay ≡ true) where
    relayed : (u : DataUnit) (n : Network) → shown (relay s u n) ≡ first.deliver t u (shown n)
    relayed u n = ap (λ (b : Bool). shown (if b then deliver s u n else n)) relays ∙ delivered u n

    forwarded-by : (b : Bool) (u : DataUnit) (n : Network) → shown (forward_by b s u n) ≡ first.forward_by b t u (shown n)
    forwarded-by true u n =
        wired (on_wire u.to u.source u.body) (relay s u n) ∙ ap (first.put_on_wire (on_wire u.to u.source u.body)) (relayed u n)
    forwarded-by false u n = relayed u n

    forwarded : (u : DataUnit) (n : Network) → shown (forward s u n) ≡ first.forward t u (shown n)
    forwarded u n =
        ap (λ (b : Bool). shown (forward_by (goes_on_wire b u.to n.stations) s u n)) relays
        ∙ forwarded-by (is_group u.to || not (is_associated (state_of u.to n.stations))) u n

    served : (r : Request) (n : Network) → shown (serve s r n) ≡ first.serve t r (shown n)
    served (Probe from ssid) n = probed from ssid n
    served (Auth from algorithm step) n = authenticated from algorithm step n
    served (Assoc from again listen elements) n = joined from again listen elements n
    served (Disassoc from) n = refl
    served (Deauth from) n = refl
    served (Msdu from doze to body) n =
        let u : DataUnit = unit n.clock to from body in
        forwarded u (set_power_mode s from doze n) ∙ ap (first.forward t u) (moded from doze n)
    served (Null from doze) n = moded from doze n
    served (Poll from aid) n = polled from aid n

    notified : (notice : Option Notice) (r : Request) (n : Network) → shown (notify_or_serve notice s r n) ≡ first.notify_or_serve notice t r (shown n)
    notified (Some notice) r n = refl
    notified None r n = served r n

    answered : (asked : Result Request Unread) (n : Network) → shown (answer s asked n) ≡ first.answer t asked (shown n)
    answered (Ok r) n =
        notified (class_fault (standing_with (state_of (sender r) n.stations)) (class_of r)) r n
        ∙ ap (λ (notice : Option Notice). first.notify_or_serve notice t r (shown n)) (notices (state_of (sender r) n.stations) r)
    answered (Err fault) n = refl

    -- ---- beacons

    released : (n : Network) → shown (release s n) ≡ first.release t (shown n)
    unfolding dtim_count
    released n =
        chosen (dtim_count n.clock s.network.dtim == 0) _ n _ _ (sent-each true (units_for Group n.kept) (drop_units Group n)) refl

    ticked : (n : Network) → shown (tick s n) ≡ first.tick t (shown n)
    ticked n = released (send (beacon_frame s (n.clock + 1) n.stations n.kept) (record n { clock = n.clock + 1 }))

    -- ---- events

    module _ (unaged : (n : Network) → age_units s n ≡ n) where
      stepped : (n : Network) (e : Event) → shown (step s n e) ≡ first.step t (shown n) e
      stepped n (Air x) = answered (request_of s.network.bssid x) n
      stepped n (Wire y) = from-wire (ethernet_of y) n
      stepped n Tick = ap (λ (m : Network). shown (tick s m)) (unaged n) ∙ ticked n

      all-stepped : (n : Network) (es : List Event) → shown (after s n es) ≡ first.after t (shown n) es
      all-stepped n [] = refl
      all-stepped n (e ∷ es) =
          all-stepped (step s n e) es ∙ ap (λ (m : FirstNetwork). first.after t m es) (stepped n e)

      pub first-version : (es : List Event) → shown (alone s es) ≡ alone_at_first t es
      unfolding alone alone_at_first
      first-version es = all-stepped empty_network es
