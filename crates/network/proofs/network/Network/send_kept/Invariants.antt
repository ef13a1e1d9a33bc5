use Rattle.std.proofs.Common.{◌≡◌, ◌<◌, drop}
use Rattle.powersave.specs.Keep.{units_for}
use Rattle.network.specs.Network.{Network, send_each}
use Rattle.network.specs.Replies.{after_reply}
use Rattle.network.proofs.network.Network.send_kept.Given as goal

abbrev pub invariant-loop-n : goal.invariant-loop-n
invariant-loop-n l = record {
  sent : (m : Network) → send_each l.self.setting l.shows_more (units_for l.whom l.self.network.kept) (after_reply l.fn.reply m) ≡ send_each l.self.setting l.shows_more (drop l.n (units_for l.whom l.self.network.kept)) (after_reply l.reply m);
  same : l.reply ≡ record l.fn.reply { frames = l.reply.frames; sequence = l.reply.sequence };
  sequence : l.reply.sequence < 4096;
}
