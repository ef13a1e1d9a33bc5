use Rattle.std.proofs.Common.{◌∙◌, sym, ap}
use Rattle.powersave.specs.Keep.{units_for}
use Rattle.powersave.specs.declared.unit.Whom.TheVariants.{One}
use Rattle.network.specs.Replies.{after_answer, outcome}
use Rattle.network.specs.Units.{may_poll}
use Rattle.network.specs.declared.reply.Reply.{Reply}
use Rattle.network.proofs.UnitDelivery.{poll-served, poll-refused, poll-fits}
use Rattle.network.proofs.network.Network.answer_poll.Goals as goal

pub returns-then-may_poll-clause-fitting : goal.returns-then-may_poll-clause-fitting
returns-then-may_poll-clause-fitting c =
    let n = c.args.self.now.network in
    poll-fits c.args.self.now.setting (units_for (One c.args.from) n.kept) n.sequence _

pub returns-then-may_poll-clause-answer : goal.returns-then-may_poll-clause-answer
returns-then-may_poll-clause-answer c =
    poll-served c.kept_counts.ensures c.args.self.now.setting c.args.from c.args.aid c.args.self.now.network
    (ap (may_poll c.args.aid) (sym c.requires.state) ∙ sym c.may_poll.ensures ∙ c.if-may_poll.true)

pub returns-else-may_poll-clause-answer : goal.returns-else-may_poll-clause-answer
returns-else-may_poll-clause-answer c =
    let n = c.args.self.now.network in
    poll-refused c.args.self.now.setting c.args.from c.args.aid n
    (ap (may_poll c.args.aid) (sym c.requires.state) ∙ sym c.may_poll.ensures ∙ c.if-may_poll.false)
    ∙ ap (λ (r : Reply). after_answer c.args.self.now.setting (outcome r) n) (sym c.requires.nothing)
