use Rattle.std.proofs.Common.{◌<◌, List, length, arith, ap, ◌∙◌}
use Rattle.std.proofs.lemmas.List.{length-map}
use Rattle.ap_config.specs.Places.{setting_at}
use Rattle.bss_core.specs.RadioView.{RadioView}
use Rattle.network.specs.BssView.{BssView}
use Rattle.bss_core.proofs.RadioChanges.{setting-is}
use Rattle.bss_core.proofs.radio.Radio.bss.Goals as goal

pub returns-clause-setting : goal.returns-clause-setting
returns-clause-setting c =
    let r = c.self.inside in
    let states : List BssView = r.networks.items in
    let within : c.args.place < length states = omega (arith, length-map states (λ (s : BssView). s.setting.network), ap (λ (v : RadioView). length v.config.networks) c.self.view_is, c.requires) in
    setting-is r.channel r.interval r.capacity states c.args.place c.index.result.now c.self.invariant.1 within c.index.ensures
    ∙ ap (λ (v : RadioView). setting_at v.config c.args.place) c.self.view_is
