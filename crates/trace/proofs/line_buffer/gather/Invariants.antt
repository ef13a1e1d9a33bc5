-- The digits before the rest stand in the memory.
use Rattle.std.proofs.Common.{◌≡◌, ◌≤◌, ◌++◌, length, take}
use Rattle.trace.specs.TraceText.{digits_of}
use Rattle.trace.proofs.line_buffer.gather.Given as goal

abbrev pub invariant-loop-rest : goal.invariant-loop-rest
invariant-loop-rest l = record {
  whole : length l.memory ≡ 8192;
  room : l.len ≤ 8192;
  reads : digits_of l.text ≡ take l.len l.memory ++ digits_of l.rest;
}

abbrev pub decreases-loop-rest : goal.decreases-loop-rest
decreases-loop-rest l = length l.rest
