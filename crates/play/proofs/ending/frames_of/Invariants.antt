use Rattle.std.proofs.Common.{◌≡◌, ◌++◌, drop, length}
use Rattle.std.specs.Prelude.{sum}
use Rattle.networks.specs.SentFrames.{cut_by}
use Rattle.play.proofs.ending.frames_of.Given as goal

-- the frames so far, and those that the octets are cut into which are left
abbrev pub invariant-loop-len : goal.invariant-loop-len
invariant-loop-len l = record {
  frames : l.frames.items ++ cut_by (drop l.len-index l.lengths) l.rest ≡ l.log;
  whole : sum (drop l.len-index l.lengths) ≡ length l.rest;
}
