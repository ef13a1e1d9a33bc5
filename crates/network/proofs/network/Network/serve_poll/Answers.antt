use Rattle.std.proofs.Common.{◌≡◌, ℕ, ◌+◌, ◌*◌, List, [], ◌∷◌, Some, None, sym, ap, subst, ◌∙◌, arith}
use Rattle.std.specs.Prelude.{option_map}
use Rattle.std.proofs.lemmas.Option.{none-some}
use Rattle.powersave.specs.Keep.{units_for, first_frame}
use Rattle.powersave.specs.declared.unit.Unit.{Unit as DataUnit}
use Rattle.powersave.specs.declared.unit.Whom.TheVariants.{One}
use Rattle.ap_config.specs.declared.setting.Setting.{Setting}
use Rattle.network.specs.Network.{Network, next_sequence, send}
use Rattle.network.specs.NetworkView.{NetworkState, network_with, carried_out, unsent}
use Rattle.network.specs.Replies.{after_reply, no_reply, Served, serving, unit_taken}
use Rattle.network.specs.Sound.{IsSoundNetwork}
use Rattle.network.specs.Units.{others_follow, unit_frame}
use Rattle.stations.specs.Stations.{StationTable}
use Rattle.network.proofs.UnitDelivery.{after-sent, nothing-replied}
use Rattle.network.proofs.network.Network.serve_poll.Goals as goal

-- where a unit is sent, it leaves, and its frame takes a sequence number
sent-one : (s : Setting) (from bss frame : List ℕ) (us : List DataUnit) (n : Network) → option_map (λ first. first.0) (first_frame bss n.sequence us) ≡ Some frame
    → unsent (after_reply (serving s us (no_reply n.sequence)) (unit_taken (Served from) n)) ≡ unsent (record (unit_taken (Served from) n) { sequence = next_sequence n.sequence })
sent-one s from bss frame [] n is = absurd (none-some frame is)
sent-one s from bss frame (u ∷ us) n is =
    let left : Network = unit_taken (Served from) n in
    let sent = unit_frame s.network.bssid (others_follow us) u in
    ap unsent (sym (ap (send sent) (sym (nothing-replied left)) ∙ after-sent (no_reply n.sequence) left sent))

-- where none is, nothing else changes
sent-none : (s : Setting) (from bss : List ℕ) (us : List DataUnit) (n : Network) → option_map (λ first. first.0) (first_frame bss n.sequence us) ≡ None
    → unsent (after_reply (serving s us (no_reply n.sequence)) (unit_taken (Served from) n)) ≡ unsent (unit_taken (Served from) n)
sent-none s from bss [] n is = ap unsent (nothing-replied (unit_taken (Served from) n))
sent-none s from bss (u ∷ us) n is = absurd (none-some _ (sym is))

pub invariant_of-self-in_default : goal.invariant_of-self-in_default
invariant_of-self-in_default c =
    let n : NetworkState = record { setting = c.self.inside.setting; events = c.self.inside.events; network = network_with c.self.inside.roster c.self.inside.clock c.self.inside.sequence c.self.inside.lost c.self.inside.unread } in
    let us : List DataUnit = units_for (One c.args.from) n.network.kept in
    let told = c.in_ok-sent.ensures in
    let sound : IsSoundNetwork n.setting (n.events + 1) (2 * (n.events + 1)) (carried_out (Served c.args.from) n).network =
    subst (λ (k : NetworkState). IsSoundNetwork k.setting (k.events + 1) (2 * (k.events + 1)) (carried_out (Served c.args.from) k).network) (sym c.self.view_is) c.requires.sound in
    let is : network_with c.send_oldest.new.self n.network.clock n.network.sequence n.network.lost n.network.unread ≡ unsent (unit_taken (Served c.args.from) n.network) =
    λ i. record n.network { stations = ap (λ (k : StationTable). k.table) told.stations i; kept = told.entries i } in
    record {
      accepted = c.self.invariant.accepted;
      sound = subst (IsSoundNetwork n.setting (n.events + 1) (2 * (n.events + 1))) (sym (is ∙ sym (sent-none n.setting c.args.from _ us n.network (sym told.sent ∙ c.in_default.is)))) sound;
      most = ap (λ (k : StationTable). k.most) told.stations ∙ c.self.invariant.most;
      quota = told.quota ∙ c.self.invariant.quota;
      puts = omega (arith, told.puts, c.self.invariant.puts);
      clock = c.self.invariant.clock;
    }

pub invariant_of-self-2 : goal.invariant_of-self-2
invariant_of-self-2 c =
    let n : NetworkState = record { setting = c.self.inside.setting; events = c.self.inside.events; network = network_with c.self.inside.roster c.self.inside.clock c.self.inside.sequence c.self.inside.lost c.self.inside.unread } in
    let us : List DataUnit = units_for (One c.args.from) n.network.kept in
    let told = c.in_ok-sent.ensures in
    let sound : IsSoundNetwork n.setting (n.events + 1) (2 * (n.events + 1)) (carried_out (Served c.args.from) n).network =
    subst (λ (k : NetworkState). IsSoundNetwork k.setting (k.events + 1) (2 * (k.events + 1)) (carried_out (Served c.args.from) k).network) (sym c.self.view_is) c.requires.sound in
    let is : network_with c.send_oldest.new.self n.network.clock (next_sequence n.network.sequence) n.network.lost n.network.unread ≡ unsent (record (unit_taken (Served c.args.from) n.network) { sequence = next_sequence n.network.sequence }) =
    λ i. record n.network { stations = ap (λ (k : StationTable). k.table) told.stations i; kept = told.entries i; sequence = next_sequence n.network.sequence } in
    record {
      accepted = c.self.invariant.accepted;
      sound = subst (IsSoundNetwork n.setting (n.events + 1) (2 * (n.events + 1))) (sym (is ∙ sym (sent-one n.setting c.args.from _ c.in-Some.frame us n.network (sym told.sent ∙ c.in-Some.is)))) sound;
      most = ap (λ (k : StationTable). k.most) told.stations ∙ c.self.invariant.most;
      quota = told.quota ∙ c.self.invariant.quota;
      puts = omega (arith, told.puts, c.self.invariant.puts);
      clock = c.self.invariant.clock;
    }
