use Rattle.std.proofs.Common.{◌≡◌, take}
use Rattle.network.specs.Network.{table_of}
use Rattle.play.proofs.ending.rows_of.Given as goal

abbrev pub invariant-loop-place : goal.invariant-loop-place
invariant-loop-place l = l.rows.items ≡ take l.place (table_of l.network.network)
