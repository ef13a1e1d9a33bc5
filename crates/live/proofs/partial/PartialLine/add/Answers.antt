-- What came of the line is what the piece makes of it, in which no line ends.
use Rattle.std.proofs.Common.{arith, ◌≡◌, ◌++◌}
use Rattle.live.proofs.PartialSteps.{add-long, add-over, add-on, kept-unended}
use Rattle.live.proofs.partial.PartialLine.add.Goals as goal

pub returns-then-self : goal.returns-then-self
returns-then-self c = record {
  after =
      add-long c.self.inside.too_long c.self.inside.octets.items _ _ c.self.view_is c.if-self.true c.requires;
  unended = kept-unended c.self.inside.too_long c.self.inside.octets.items _ c.self.view_is c.self.invariant.0;
}

pub returns-then-octets-len : goal.returns-then-octets-len
returns-then-octets-len c = record {
  after =
      add-over c.self.inside.too_long c.self.inside.octets.items _ _ c.self.view_is c.if-self.false
      c.self.invariant.0
      c.requires
      (omega (arith, c.if-octets-len.true, c.len.ensures));
  unended = kept-unended c.self.inside.too_long c.self.inside.octets.items _ c.self.view_is c.self.invariant.0;
}

pub returns : goal.returns
returns c =
    let grown : c.extend_from_slice.new.self.items ≡ c.self.inside.octets.items ++ c.args.octets.now =
    rw c.unwrap.ensures at c.extend_from_slice.ensures.items in
    record {
      after =
          add-on c.self.inside.too_long c.self.inside.octets.items _ c.extend_from_slice.new.self.items _ c.self.view_is
          c.if-self.false
          c.self.invariant.0
          c.requires
          (omega (arith, c.if-octets-len.false, c.len.ensures, c.self.invariant.1))
          grown;
      unended = kept-unended c.self.inside.too_long c.self.inside.octets.items _ c.self.view_is c.self.invariant.0;
    }
