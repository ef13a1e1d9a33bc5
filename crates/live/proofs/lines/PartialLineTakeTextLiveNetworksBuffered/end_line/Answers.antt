use Rattle.std.proofs.Common.{length-append, ◌∷◌, [], arith}
use Rattle.text_io.specs.Texts.{ended}
use Rattle.live.proofs.FeedSteps.{feed-more}
use Rattle.live.proofs.lines.PartialLineTakeTextLiveNetworksBuffered.end_line.Goals as goal

pub answer_ended-requires-clause-countable : goal.answer_ended-requires-clause-countable
answer_ended-requires-clause-countable g c =
    let s = c.requires.some.5 in
    let few = s.few in
    let count = s.countable in
    omega (arith, few, count, length-append (ended c.args.octets.now) c.requires.some.4, length-append c.args.octets.now (10 ∷ []))

pub answer_ended-requires-clause-can_write : goal.answer_ended-requires-clause-can_write
answer_ended-requires-clause-can_write g c = c.requires.some.5.can_write

pub returns : goal.returns
returns g c first was held piece later s =
    feed-more c.answers_to_more.ensures _ _ was c.args.networks.now c.answer_ended.new.networks held c.args.out.now
    c.answer_ended.new.out first c.args.self.now c.answer_ended.new.partial piece c.args.octets.now later s
    c.answer_ended.ensures.unended c.requires.lacks c.answer_ended.ensures.partial c.answer_ended.ensures.answered
