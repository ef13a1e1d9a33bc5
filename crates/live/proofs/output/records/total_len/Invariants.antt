-- The octets of the parts so far are counted.
use Rattle.std.proofs.Common.{◌≡◌, ◌^◌, ◌-◌, length, take}
use Rattle.std.specs.Prelude.{flat_map, min}
use Rattle.live.proofs.output.records.total_len.Given as goal

abbrev pub invariant-loop-part : goal.invariant-loop-part
invariant-loop-part l = l.len ≡ min (length (flat_map (λ part. part.now) (take l.part-index l.parts))) (2 ^ 64 - 1)
