use Rattle.std.proofs.Common.{arith, sym, ◌∙◌}
use Rattle.std.proofs.lemmas.Bool.{eqb-true}
use Rattle.live.proofs.RecordSteps.{records-none, records-then, records-all}
use Rattle.live.proofs.records.answer_records.Goals as goal

pub loop-rest-init : goal.loop-rest-init
loop-rest-init g c = records-none _ _ c.args.networks.now _ c.args.partial.now c.args.piece.now c.requires.can_write c.requires.partial

pub answer_next-rest-requires-clause-countable : goal.answer_next-rest-requires-clause-countable
answer_next-rest-requires-clause-countable g c = omega (arith, c.loop-rest.invariant.few, c.requires.countable)

pub answer_next-rest-requires-clause-partial : goal.answer_next-rest-requires-clause-partial
answer_next-rest-requires-clause-partial g c = c.loop-rest.invariant.is_partial

pub answer_next-rest-requires-clause-can_write : goal.answer_next-rest-requires-clause-can_write
answer_next-rest-requires-clause-can_write g c = c.loop-rest.invariant.answered.puts.can_write

pub loop-rest-preserved : goal.loop-rest-preserved
loop-rest-preserved g c =
    records-then c.answers_to_more.ensures _ _ c.args.networks.now c.loop-rest.networks c.answer_next-rest.new.networks _ _ _ c.args.partial.now _ _ _ _ _
    c.loop-rest.invariant c.answer_next-rest.ensures.answers

pub returns : goal.returns
returns g c = record {
  answers =
      records-all _ _ c.args.networks.now _ _ _ c.args.partial.now _ _ c.loop-rest.rest.now
      (eqb-true _ _ (sym c.is_empty.ensures ∙ c.loop-rest-test.false)) c.loop-rest.invariant;
}
