use Rattle.std.proofs.Common.{◌≡◌, ◌∙◌, sym, ap}
use Rattle.network.specs.Replies.{after_reply}
use Rattle.stations.specs.Stations.{dozes_with, is_dozing}
use Rattle.network.specs.declared.reply.Reply.{Reply}
use Rattle.network.proofs.UnitDelivery.{nothing-replied, mode-kept, same-truth}
use Rattle.network.proofs.network.Network.set_power_mode.Goals as goal

pub returns-then-dozed-doze-clause-answer : goal.returns-then-dozed-doze-clause-answer
returns-then-dozed-doze-clause-answer c =
    let n = c.args.self.now.network in
    let is : is_dozing c.args.from n.stations ≡ c.args.doze =
    sym (c.dozes_with-dozed.ensures ∙ ap dozes_with c.requires.state) ∙ same-truth _ _ c.if-dozed-doze.true in
    mode-kept c.modes_alone.ensures c.args.self.now.setting c.args.from c.args.doze n is
    ∙ sym (ap (λ (r : Reply). after_reply r n) c.requires.nothing ∙ nothing-replied n)
