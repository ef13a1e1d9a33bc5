use Rattle.std.proofs.Common.{◌≡◌, None, ap, subst, ◌∙◌, arith}
use Rattle.ap_config.specs.Configuration.{network_fault}
use Rattle.ap_config.specs.declared.setting.Setting.{Setting}
use Rattle.network.specs.NetworkView.{NetworkState}
use Rattle.play.proofs.ending.counted.Goals as goal

pub returns : goal.returns
returns c s es is few =
    let at : c.setting.result.now ≡ s = c.setting.ensures.setting ∙ ap (λ (n : NetworkState). n.setting) is in
    let sound : network_fault s.network ≡ None =
    subst (λ (t : Setting). network_fault t.network ≡ None) at c.setting.ensures.sound in
    let limit = c.checked_numbers.ensures.events s.network sound in
    let all = c.reachable.ensures s es sound in
    let unread = all.unread in
    let lost = all.lost in
    let events = ap (λ (n : NetworkState). n.events) is in
    let un = ap (λ (n : NetworkState). n.network.unread) is in
    let lo = ap (λ (n : NetworkState). n.network.lost) is in
    record {
      events = omega (arith, events, few, limit);
      unread = omega (arith, un, unread, few, limit);
      lost = omega (arith, lo, lost, few, limit);
    }
