use Rattle.std.proofs.Common.{◌∙◌, sym, ap}
use Rattle.ap_config.specs.declared.setting.Setting.{Setting}
use Rattle.network.specs.Network.{Network}
use Rattle.roster.specs.KeptUnits.{is_waited_for}
use Rattle.network.proofs.Aging.{unaged}
use Rattle.network.proofs.network.Network.announce.Goals as goal

pub announce_for-requires-else-setting-clause-waited_for : goal.announce_for-requires-else-setting-clause-waited_for
announce_for-requires-else-setting-clause-waited_for c n aid =
    let off = sym (ap (λ (t : Setting). t.network.aging) c.setting.ensures.setting) ∙ c.if-setting.false in
    c.traffic.ensures n aid ∙ ap (λ (m : Network). is_waited_for m.stations m.kept n) (sym (unaged c.args.self.now.setting c.args.self.now.network off))
