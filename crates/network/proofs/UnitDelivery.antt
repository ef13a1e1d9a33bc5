-- How a reply goes on: a frame is sent, a unit is delivered.
use Rattle.std.proofs.Common.{◌≡◌, ℕ, zero, suc, ◌+◌, ◌<◌, Bool, true, false, not, ◌||◌, ◌&&◌, List, [], ◌∷◌, ◌++◌, length, drop, slice_get, Option, Some, None, option_map, option_to_list, refl, sym, ap, subst, ◌∙◌, arith, inl, inr, ⊎_elim, rules}
use Rattle.std.specs.Prelude.{◌⊎◌, nat_lt, if◌then◌else◌}
use Rattle.std.specs.Str.{bytes_eq}
use Rattle.std.proofs.lemmas.Bool.{both_ways, cond_both, false_from_ne_true, lt-ltb, le-ltb, ltb-true, ltb-false}
use Rattle.std.proofs.lemmas.List.{append-nil, append_assoc, drop_more}
use Rattle.std.proofs.lemmas.Option.{slice_get_within, get_or_from_slice_get}
use Rattle.std.proofs.lemmas.Slice.Eq.{bytes_eq-Decides}
use Rattle.std.proofs.Math.Bool.{beq, and-not_self}
use Rattle.mac_frame.specs.Address.{is_group}
use Rattle.powersave.specs.Keep.{Entry, units_for, without_all}
use Rattle.powersave.specs.declared.unit.Whom.{Whom}
use Rattle.powersave.specs.declared.unit.Whom.TheVariants.{One, Group}
use Rattle.powersave.specs.declared.unit.Unit.{Unit as DataUnit}
use Rattle.ap_config.specs.declared.setting.Setting.{Setting}
use Rattle.network.specs.Network.{Network, send, send_unit, send_each, change_state, drop_units, serve_poll, answer_poll, set_power_mode, deliver_by, deliver}
use Rattle.network.specs.Replies.{after_reply, no_reply, sending, serving, Served, unit_taken, after_answer, IsAwake, IsFitting}
use Rattle.roster.specs.Keeping.{without, entry_of, aid_at, aid_for, is_leaving}
use Rattle.roster.specs.KeptUnits.{IsKeptFor, group_is_kept}
use Rattle.stations.specs.Stations.{Table, state_of, dozes_with, is_dozing, set_mode, some_station_dozes, changed, IsModeAlone}
use Rattle.stations.specs.declared.table.Change.{Change}
use Rattle.stations.specs.declared.table.Change.TheVariants as changes
use Rattle.station_state.specs.declared.state.StationState.{StationState}
use Rattle.station_state.specs.declared.state.StationState.TheVariants.{Authenticated, Associated}
use Rattle.network.specs.Units.{may_poll, others_follow, group_waits, delivery_of, delivery_with, unit_frame}
use Rattle.roster.specs.declared.keeping.Arriving.{Arriving}
use Rattle.roster.specs.declared.keeping.Leaving.{Leaving}
use Rattle.roster.specs.declared.keeping.Leaving.TheVariants as leavings
use Rattle.network.specs.declared.reply.Reply.{Reply}
use Rattle.network.specs.declared.reply.unit.Delivery.{Delivery}
use Rattle.network.specs.declared.reply.unit.Delivery.TheVariants.{Now, Kept}
use Rattle.stations.specs.Changes.{ModesAlone}
use Rattle.roster.specs.Changes.{KeptCounts, GroupStays, ModesKeepIdentifiers}

-- ---- a frame is sent

pub after-sent : (r : Reply) (n : Network) (frame : ℕ → List ℕ) → send frame (after_reply r n) ≡ after_reply (sending r frame) n
after-sent r n frame =
    ap (λ (air : List (List ℕ)). record (send frame (after_reply r n)) { air = air }) (append_assoc n.air r.frames (frame r.sequence ∷ []))

-- ---- nothing is done

pub nothing-replied : (n : Network) → after_reply (no_reply n.sequence) n ≡ n
nothing-replied n = search rules

pub same-truth : (a b : Bool) → beq a b ≡ true → a ≡ b
same-truth true true h = refl
same-truth true false h = absurd (both_ways false refl h)
same-truth false true h = absurd (both_ways false refl h)
same-truth false false h = refl

-- a mode that stays
pub mode-kept : ModesAlone → (s : Setting) (from : List ℕ) (doze : Bool) (n : Network) → is_dozing from n.stations ≡ doze → set_power_mode s from doze n ≡ n
mode-kept modes s from doze n is =
    let stays : (is_dozing from n.stations && not doze) ≡ false = ap (λ (b : Bool). b && not doze) is ∙ and-not_self doze in
    rw stays (ap (λ (t : Table). record n { stations = t }) (modes.same from doze n.stations is))

-- ---- where a unit goes

-- to one that dozes, while the units of another leave
pub left-apart : (leaving : Leaving) (t : Table) (whom : Whom) → IsAwake leaving t → IsKeptFor t whom → is_leaving leaving whom ≡ false
left-apart leavings.Nothing t whom awake for = refl
left-apart (leavings.All (One a)) t Group awake for = refl
left-apart (leavings.All (One a)) t (One b) awake for =
    false_from_ne_true (bytes_eq b a) (λ is.
    let same : b ≡ a = (bytes_eq-Decides b a).0 is in
    both_ways (is_dozing a t) awake (ap (λ k. is_dozing k t) (sym same) ∙ for))
left-apart (leavings.All Group) t whom awake for = absurd awake

-- the units of a station that leave are nothing to where another goes
delivery-left : GroupStays → (leaving : Leaving) (t : Table) (kept : List Entry) (to : List ℕ) → IsAwake leaving t → delivery_of to t (without leaving kept ++ []) ≡ delivery_of to t kept
delivery-left group leavings.Nothing t kept to awake = ap (delivery_of to t) (append-nil kept)
delivery-left group (leavings.All (One a)) t kept to awake =
    let same : group_is_kept (without_all (One a) kept ++ []) ≡ group_is_kept kept = ap group_is_kept (append-nil (without_all (One a) kept)) ∙ group.beside a kept in
    ap (λ b. if is_group to then (if some_station_dozes t || b then Kept Group else Now) else delivery_with (state_of to t) to) same
delivery-left group (leavings.All Group) t kept to awake = absurd awake

pub delivery-after : GroupStays → (r : Reply) (n : Network) (to : List ℕ) → IsAwake r.keeping.leaving (changed r.change n.stations) → r.keeping.arriving ≡ None → delivery_of to (after_reply r n).stations (after_reply r n).kept ≡ delivery_of to (changed r.change n.stations) n.kept
delivery-after group r n to awake none =
    ap (λ (a : Option Arriving). delivery_of to (changed r.change n.stations) (without r.keeping.leaving n.kept ++ option_to_list (option_map entry_of a))) none
    ∙ delivery-left group r.keeping.leaving (changed r.change n.stations) n.kept to awake

-- a unit is delivered so
pub delivered : GroupStays → (s : Setting) (u : DataUnit) (r : Reply) (n : Network) (d : Delivery) → IsAwake r.keeping.leaving (changed r.change n.stations) → r.keeping.arriving ≡ None → d ≡ delivery_of u.to (changed r.change n.stations) n.kept → deliver s u (after_reply r n) ≡ deliver_by d s u (after_reply r n)
delivered group s u r n d awake none is =
    ap (λ (e : Delivery). deliver_by e s u (after_reply r n)) (delivery-after group r n u.to awake none ∙ sym is)

-- it is kept for the group, or for the one that it goes to, who dozes
abbrev IsKeptSo : List ℕ → Option StationState → Whom → Delivery → Type 0
IsKeptSo to state whom goes = goes ≡ Kept whom → (Group ≡ whom) ⊎ ((One to ≡ whom) × (dozes_with state ≡ true))

one-kept : (to : List ℕ) (state : Option StationState) (whom : Whom) → IsKeptSo to state whom (delivery_with state to)
one-kept to None whom e = absurd (cc)
one-kept to (Some Authenticated) whom e = absurd (cc)
one-kept to (Some (Associated aid listen true)) whom e = inr (cc, refl)
one-kept to (Some (Associated aid listen false)) whom e = absurd (cc)

pub kept-for : (to : List ℕ) (t : Table) (kept : List Entry) (whom : Whom) → IsKeptSo to (state_of to t) whom (delivery_of to t kept)
kept-for to t kept whom =
    cond_both (is_group to) _ _ (IsKeptSo to (state_of to t) whom)
    (λ _. cond_both (group_waits t kept) (Kept Group) Now (IsKeptSo to (state_of to t) whom) (λ _ e. inl (cc)) (λ _ e. absurd (cc)))
    (λ _. one-kept to (state_of to t) whom)

-- the identifier of the state that a kept unit goes by is that of its station
identifier-of_kept : (to : List ℕ) (t : Table) (kept : List Entry) (whom : Whom) → delivery_of to t kept ≡ Kept whom → aid_at whom (state_of to t) ≡ aid_for whom t
identifier-of_kept to t kept whom h =
    let P : Whom → Type 0 = λ w. aid_at w (state_of to t) ≡ aid_for w t in
    ⊎_elim (λ e. subst P e refl) (λ e. subst P e.0 refl) (kept-for to t kept whom h)

-- and so it was before a mode was set
pub identifier-told : ModesKeepIdentifiers → (change : Change) (to : List ℕ) (t : Table) (kept : List Entry) (whom : Whom) (state : Option StationState) → IsModeAlone change → state ≡ state_of to (changed change t) → delivery_of to (changed change t) kept ≡ Kept whom → aid_at whom state ≡ aid_for whom t
identifier-told keep change to t kept whom state alone is goes =
    ap (aid_at whom) is ∙ identifier-of_kept to (changed change t) kept whom goes ∙ keep change whom t alone

-- ---- units in order

pub others_follow-after : (us : List DataUnit) (k : ℕ) → others_follow (drop k us) ≡ nat_lt k (length us)
others_follow-after [] zero = refl
others_follow-after [] (suc k) = sym (le-ltb (suc k) 0 (omega arith))
others_follow-after (u ∷ us) zero = sym (lt-ltb 0 (length (u ∷ us)) (omega arith))
others_follow-after (u ∷ us) (suc k) = others_follow-after us k ∙ shifted (nat_lt k (length us)) refl
  where
    shifted : (b : Bool) → nat_lt k (length us) ≡ b → nat_lt k (length us) ≡ nat_lt (suc k) (suc (length us))
    shifted true is = is ∙ sym (lt-ltb (suc k) (suc (length us)) (omega (arith, ltb-true k (length us) is)))
    shifted false is = is ∙ sym (le-ltb (suc k) (suc (length us)) (omega (arith, ltb-false k (length us) is)))

-- one more of them is sent
pub one-more : (s : Setting) (shows_more : Bool) (us : List DataUnit) (k : ℕ) (u : DataUnit) (r : Reply) (n : Network) → slice_get us k ≡ Some u
    → send_each s shows_more (drop k us) (after_reply r n) ≡ send_each s shows_more (drop (k + 1) us) (after_reply (sending r (unit_frame s.network.bssid (shows_more && nat_lt (k + 1) (length us)) u)) n)
one-more s shows_more us k u r n here =
    let rest : List DataUnit = drop (k + 1) us in
    let first : drop k us ≡ u ∷ rest = drop_more us k u (slice_get_within us k u here) ∙ ap (λ (x : DataUnit). x ∷ rest) (get_or_from_slice_get us k u u here) in
    let more : others_follow rest ≡ nat_lt (k + 1) (length us) = others_follow-after us (k + 1) in
    ap (λ (vs : List DataUnit). send_each s shows_more vs (after_reply r n)) first
    ∙ ap (λ (b : Bool). send_each s shows_more rest (send_unit s (shows_more && b) u (after_reply r n))) more
    ∙ ap (send_each s shows_more rest) (after-sent r n (unit_frame s.network.bssid (shows_more && nat_lt (k + 1) (length us)) u))

-- one stands at each place
pub some-at : (us : List DataUnit) (k : ℕ) → k < length us → (u : DataUnit) × (slice_get us k ≡ Some u)
some-at [] k h = absurd (omega (arith, h))
some-at (u ∷ us) zero h = (u, refl)
some-at (u ∷ us) (suc k) h = some-at us k (omega (arith, h))

-- ---- polls

-- the first of these units, where there is one, is sent and leaves
poll-carried : KeptCounts → (s : Setting) (from : List ℕ) (us : List DataUnit) (n : Network) → units_for (One from) n.kept ≡ us → serve_poll s from us n ≡ after_reply (serving s us (no_reply n.sequence)) (unit_taken (Served from) n)
poll-carried counts s from [] n none =
    sym (nothing-replied (unit_taken (Served from) n) ∙ ap (λ (es : List Entry). record n { kept = es }) (counts.none (One from) n.kept none))
poll-carried counts s from (u ∷ us) n is =
    let left : Network = unit_taken (Served from) n in
    ap (send (unit_frame s.network.bssid (others_follow us) u)) (sym (nothing-replied left))
    ∙ after-sent (no_reply n.sequence) left (unit_frame s.network.bssid (others_follow us) u)

pub poll-served : KeptCounts → (s : Setting) (from : List ℕ) (aid : ℕ) (n : Network) → may_poll aid (state_of from n.stations) ≡ true → answer_poll s from aid n ≡ after_answer s (Served from) n
poll-served counts s from aid n may = rw may (poll-carried counts s from (units_for (One from) n.kept) n refl)

pub poll-refused : (s : Setting) (from : List ℕ) (aid : ℕ) (n : Network) → may_poll aid (state_of from n.stations) ≡ false → answer_poll s from aid n ≡ after_reply (no_reply n.sequence) n
poll-refused s from aid n not = rw not (sym (nothing-replied n))

-- such a reply can be carried out
pub poll-fits : (s : Setting) (us : List DataUnit) (sequence : ℕ) (n : Network) → IsFitting s (serving s us (no_reply sequence)) n
poll-fits s [] sequence n = record { alone = refl; change = tt; keeping = tt }
poll-fits s (u ∷ us) sequence n = record { alone = refl; change = tt; keeping = tt }

-- ---- units that leave with a change

pub woken-replied : (from : List ℕ) (n : Network) → after_reply (record (no_reply n.sequence) { change = changes.SetMode from false; keeping = record { leaving = leavings.All (One from); arriving = None } }) n ≡ change_state from (set_mode from false) n
woken-replied from n = search rules

pub dtim-replied : (frame : ℕ → List ℕ) (n : Network) → after_reply (record (sending (record (no_reply n.sequence) { clock = 1 }) frame) { keeping = record { leaving = leavings.All Group; arriving = None } }) n ≡ drop_units Group (send frame (record n { clock = n.clock + 1 }))
dtim-replied frame n = search rules

-- with the poll of a station no beacon interval begins
pub poll-clock : (s : Setting) (us : List DataUnit) (sequence : ℕ) → (serving s us (no_reply sequence)).clock ≡ 0
poll-clock s [] sequence = refl
poll-clock s (u ∷ us) sequence = refl
