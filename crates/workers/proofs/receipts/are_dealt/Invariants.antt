use Rattle.std.proofs.Common.{◌≡◌, drop}
use Rattle.std.specs.List.{enumerate_from}
use Rattle.play.specs.Givers.{dealt}
use Rattle.workers.specs.Receipts.{numbered, receipts_of}
use Rattle.workers.proofs.receipts.are_dealt.Given as goal

-- where the rest of the receipts are what is dealt of the rest of the events, all are
abbrev pub invariant-loop-number : goal.invariant-loop-number
invariant-loop-number l =
    receipts_of l.place l.rest ≡ dealt (drop l.number l.givers) (enumerate_from l.number (drop l.number l.history)) l.caller
    → receipts_of l.place l.entries ≡ dealt l.givers (numbered l.history) l.caller
