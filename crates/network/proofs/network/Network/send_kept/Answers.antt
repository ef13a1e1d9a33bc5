use Rattle.std.proofs.Common.{◌≡◌, ◌∙◌, ℕ, ◌+◌, ◌&&◌, Bool, List, length, drop, sym, ap, arith}
use Rattle.std.specs.Prelude.{nat_lt}
use Rattle.powersave.specs.Keep.{Entry, units_for}
use Rattle.powersave.specs.declared.unit.Unit.{Unit as DataUnit}
use Rattle.ap_config.specs.declared.setting.Setting.{Setting}
use Rattle.network.specs.Network.{send_each}
use Rattle.network.specs.Replies.{after_reply, sending}
use Rattle.network.specs.Units.{unit_frame}
use Rattle.network.specs.declared.reply.Reply.{Reply}
use Rattle.network.proofs.UnitDelivery.{one-more, some-at}
use Rattle.network.proofs.network.Network.send_kept.Goals as goal

pub loop-n-preserved : goal.loop-n-preserved
loop-n-preserved c =
    let s : Setting = c.args.self.now.setting in
    let n = c.args.self.now.network in
    let us : List DataUnit = units_for c.args.whom.now n.kept in
    let k : ℕ = c.loop-n.n in
    let count : c.count_for-count.result ≡ length us = c.count_for-count.ensures ∙ ap (λ (es : List Entry). length (units_for c.args.whom.now es)) c.kept.ensures.entries in
    let here = some-at us k (omega (arith, count, c.loop-n-test.true)) in
    let told : c.more_data.result ≡ (c.args.shows_more && nat_lt (k + 1) (length us)) = c.more_data.ensures ∙ ap (λ (m : ℕ). c.args.shows_more && nat_lt (k + 1) m) count in
    let now : c.send_nth.new.reply ≡ sending c.loop-n.reply (unit_frame s.network.bssid (c.args.shows_more && nat_lt (k + 1) (length us)) here.0) =
    c.in_ok-send_nth.ensures.ok here.0 here.1 ∙ ap (λ (b : Bool). sending c.loop-n.reply (unit_frame s.network.bssid b here.0)) told in
    record {
      sent = λ m. c.loop-n.invariant.sent m ∙ one-more s c.args.shows_more us k here.0 c.loop-n.reply m here.1
          ∙ ap (λ (q : Reply). send_each s c.args.shows_more (drop (k + 1) us) (after_reply q m)) (sym now);
      same = rw now (ap (λ (q : Reply). sending q (unit_frame s.network.bssid (c.args.shows_more && nat_lt (k + 1) (length us)) here.0)) c.loop-n.invariant.same);
      sequence = rw now (omega arith);
    }
