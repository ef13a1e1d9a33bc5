use Rattle.std.proofs.Common.{◌≡◌, drop, length, vec_len}
use Rattle.workers.specs.Receipts.{histories, limits, IsFullLast}
use Rattle.workers.proofs.Receiving.{IsRest}
use Rattle.workers.proofs.receipts.check_full.Given as goal

-- where the rest of the entries is as it should be, all are
abbrev pub invariant-loop-entry : goal.invariant-loop-entry
invariant-loop-entry l = record {
  all : IsRest l.networks l.full.items (drop l.entry-index l.entries) → IsFullLast (limits l.networks) (histories l.networks) l.entries;
  long : vec_len l.full ≡ length l.networks;
}
