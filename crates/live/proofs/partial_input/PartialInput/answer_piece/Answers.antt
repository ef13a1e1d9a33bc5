use Rattle.live.proofs.FeedSteps.{feed-none, piece-answered}
use Rattle.live.proofs.partial_input.PartialInput.answer_piece.Goals as goal

pub cut_text-requires : goal.cut_text-requires
cut_text-requires g c = (
  c.in-Line.line,
  c.args.networks.now,
  c.args.out.now,
  c.args.piece.now,
  feed-none _ _ c.args.networks.now c.args.out.now c.in-Line.line c.args.piece.now c.requires.countable
      c.requires.can_write,
)

pub returns-in-Ok-clause-answers : goal.returns-in-Ok-clause-answers
returns-in-Ok-clause-answers g c =
    piece-answered g.W.Sink.taken g.W.Sink.failed c.args.self.now c.args.networks.now c.cut_text.new.lines c.args.out.now
    c.cut_text.new.out c.in-Line.line c.cut_text.new.part c.args.piece.now c.in-Line.is
    (c.cut_text.ensures c.in-Line.line c.args.networks.now c.args.out.now c.args.piece.now
    (feed-none _ _ c.args.networks.now c.args.out.now c.in-Line.line c.args.piece.now c.requires.countable
    c.requires.can_write))

pub returns-in-Ok-clause-lines : goal.returns-in-Ok-clause-lines
returns-in-Ok-clause-lines g c =
    (c.cut_text.ensures c.in-Line.line c.args.networks.now c.args.out.now c.args.piece.now
    (feed-none _ _ c.args.networks.now c.args.out.now c.in-Line.line c.args.piece.now c.requires.countable
    c.requires.can_write)).few
