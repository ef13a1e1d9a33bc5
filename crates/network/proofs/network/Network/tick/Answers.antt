use Rattle.std.proofs.Common.{◌≡◌, ◌∙◌, ℕ, ◌+◌, Bool, true, List, if◌then◌else◌, sym, ap}
use Rattle.std.specs.Prelude.{◌==◌}
use Rattle.beacon.specs.Beacon.{dtim_count}
use Rattle.powersave.specs.Keep.{units_for}
use Rattle.powersave.specs.declared.unit.Unit.{Unit as DataUnit}
use Rattle.powersave.specs.declared.unit.Whom.TheVariants.{Group}
use Rattle.ap_config.specs.declared.setting.Setting.{Setting}
use Rattle.network.specs.Network.{Network, send, send_each, drop_units, beacon_frame, has_aged, age_units}
use Rattle.network.specs.Replies.{after_reply, no_reply, sending}
use Rattle.roster.specs.declared.keeping.Leaving.TheVariants as leavings
use Rattle.network.specs.declared.reply.Reply.{Reply}
use Rattle.network.proofs.Aging.{group-stays_young, group-units}
use Rattle.network.proofs.UnitDelivery.{dtim-replied}
use Rattle.network.proofs.network.Network.tick.Goals as goal

pub dtim_count-requires-clause-period : goal.dtim_count-requires-clause-period
dtim_count-requires-clause-period c = c.checked_numbers.ensures.dtim c.setting.result.now.network c.setting.ensures.sound

pub returns-in_ok-send_kept-clause-answer : goal.returns-in_ok-send_kept-clause-answer
returns-in_ok-send_kept-clause-answer c =
    let s : Setting = c.args.self.now.setting in
    let n : Network = c.args.self.now.network in
    let aged : Network = age_units s n in
    let us : List DataUnit = units_for Group n.kept in
    let frame : ℕ → ℕ → List ℕ = λ clock. beacon_frame s clock n.stations aged.kept in
    let sent : Network = send (frame (n.clock + 1)) (record aged { clock = n.clock + 1 }) in
    let clock : c.clock-clock.result + 1 ≡ n.clock + 1 = ap (λ (k : ℕ). k + 1) c.clock-clock.ensures in
    let period : c.setting.result.now.network.dtim ≡ s.network.dtim = ap (λ (t : Setting). t.network.dtim) c.setting.ensures.setting in
    let dtim : (dtim_count (n.clock + 1) s.network.dtim == 0) ≡ true =
    sym (ap (λ (k : ℕ). k == 0) (c.dtim_count.ensures.count ∙ ap (λ (k : ℕ). dtim_count k c.setting.result.now.network.dtim) clock ∙ ap (dtim_count (n.clock + 1)) period)) ∙ ap (λ (k : ℕ). k == 0) c.if-dtim_count-eq0.true in
    let begun = c.in_ok-announce.ensures.ok ∙ ap (λ (r : Reply). sending (record r { clock = 1 }) (frame (c.clock-clock.result + 1))) c.requires.nothing
    ∙ ap (λ (k : ℕ). sending (record (no_reply n.sequence) { clock = 1 }) (frame k)) clock in
    let is = ap (λ (q : Reply). record q { keeping = record q.keeping { leaving = leavings.All Group } }) begun in
    ap (λ (b : Bool). if b then send_each s true (units_for Group aged.kept) (drop_units Group sent) else sent) dtim
    ∙ ap (λ (vs : List DataUnit). send_each s true vs (drop_units Group sent)) (group-units (has_aged s n) (group-stays_young c.group_stays.ensures s n) n.kept)
    ∙ ap (send_each s true us) (sym (ap (λ (q : Reply). after_reply q aged) is ∙ dtim-replied (frame (n.clock + 1)) aged))
    ∙ c.in_ok-send_kept.ensures.ok aged
