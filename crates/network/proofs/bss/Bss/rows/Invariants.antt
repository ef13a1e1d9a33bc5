use Rattle.std.proofs.Common.{◌≡◌, ◌≤◌, take, length, vec_len}
use Rattle.std.specs.Prelude.{vec_capacity}
use Rattle.network.specs.Network.{table_of}
use Rattle.network.specs.BssView.{network_of}
use Rattle.network.proofs.bss.Bss.rows.Given as goal

abbrev pub invariant-loop-place : goal.invariant-loop-place
invariant-loop-place l = record {
  rows : l.rows.items ≡ take l.place (table_of (network_of l.self));
  len : vec_len l.rows ≡ l.place;
  room : length (table_of (network_of l.self)) ≤ vec_capacity l.rows;
}
