use Rattle.std.proofs.Common.{◌≡◌, length, subst}
use Rattle.ap_config.specs.declared.setting.Setting.{Setting}
use Rattle.network.specs.Network.{step}
use Rattle.network.specs.NetworkView.{NetworkState, network_with}
use Rattle.network.specs.Sizes.{IsWithinSizes}
use Rattle.network.proofs.network.Network.frames_fit.Goals as goal

-- of a network without the frames that it sent
pub returns : goal.returns
returns c e =
    let n : NetworkState = record { setting = c.self.inside.setting; events = c.self.inside.events; network = network_with c.self.inside.roster c.self.inside.clock c.self.inside.sequence c.self.inside.lost c.self.inside.unread } in
    let six : length n.setting.network.bssid ≡ 6 = subst (λ (s : Setting). length s.network.bssid ≡ 6) c.get.ensures c.octets.ensures.address.six in
    subst (λ (k : NetworkState). IsWithinSizes (step k.setting k.network e)) c.self.view_is
    (c.frame_sizes.ensures.step n.setting n.network e six c.self.invariant.accepted (record { kept = c.self.invariant.sound.sizes; air = tt; wire = tt }))
