use Rattle.std.proofs.Common.{◌≡◌, ◌<◌, ℕ, false, get_or}
use Rattle.downlink.specs.declared.frame.Sent.{Sent}
use Rattle.downlink.specs.Receiver.{has_ticket}
use Rattle.downlink.proofs.waiting.place_of_ticket.Given as goal

abbrev pub invariant-loop-place : goal.invariant-loop-place
invariant-loop-place l = (k : ℕ) (d : Sent) → k < l.place → has_ticket l.ticket (get_or l.sent k d) ≡ false
