use Rattle.live.proofs.FeedSteps.{feed-all}
use Rattle.live.proofs.lines.PartialLineTakeTextLiveNetworksBuffered.hold_on.Goals as goal

pub returns : goal.returns
returns g c first was is held to piece s =
    feed-all _ _ was is held to first c.args.self.now c.add.new.self piece c.args.octets.now s c.add.ensures.unended
    c.requires.lacks c.add.ensures.after
