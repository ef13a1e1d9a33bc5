use Rattle.std.proofs.Common.{◌∙◌, ap}
use Rattle.beacon.specs.Advert.{network_elements}
use Rattle.beacon.specs.ProbeResponse.{response_elements}
use Rattle.ap_config.specs.declared.setting.Setting.{Setting}
use Rattle.network.specs.Network.{announced_at}
use Rattle.network.proofs.announced_setting.AnnouncedSetting.response_elements.Goals as goal

pub returns : goal.returns
unfolding network_elements
returns c = λ clock. c.self.invariant ∙ ap (λ (s : Setting). response_elements (announced_at s clock)) c.self.view_is
