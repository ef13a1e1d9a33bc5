-- What the sink took is a prefix of what was left.
use Rattle.std.proofs.Common.{arith, take}
use Rattle.text_io.specs.DeliveryLaws.{Delivers-prefix, prefix_and_rest}
use Rattle.text_io.proofs.sink.write_all.Goals as goal

pub loop-rest-preserved : goal.loop-rest-preserved
loop-rest-preserved g c =
    let rest = c.loop-rest.rest.now in
    let count = c.in_ok-count.count in (
      Delivers-prefix (take count rest) _ c.loop-rest.invariant.0 (prefix_and_rest rest count)
          c.in_ok-count.ensures.prefix.2,
      omega (arith, c.in_ok-count.ensures.failures, c.loop-rest.invariant.1),
    )
