use Rattle.std.proofs.Common.{◌≡◌, None, arith, rules, sym, subst}
use Rattle.ap_config.specs.Configuration.{fault_of}
use Rattle.bss_core.specs.RadioView.{IsSoundRadio}
use Rattle.bss_core.proofs.RadioViews.{radio-opened, settings-fresh, sound-fresh}
use Rattle.bss_core.proofs.radio.Radio.of_checked.Goals as goal

pub invariant_of-result : goal.invariant_of-result
invariant_of-result c =
    let config = c.args.config in
    let accepted : fault_of config ≡ None = search rules in
    let fresh = radio-opened config c.in_ok-networks.networks.items c.in_ok-queue.queue.items c.in_ok-networks.ensures c.in_ok-queue.ensures.items in
    (subst IsSoundRadio (sym fresh) (sound-fresh config accepted), settings-fresh config c.in_ok-networks.networks.items c.in_ok-networks.ensures, omega (arith, c.from.ensures, c.in_ok-queue.ensures.capacity))

pub returns : goal.returns
returns c = record {
  opened =
      radio-opened c.args.config c.in_ok-networks.networks.items c.in_ok-queue.queue.items c.in_ok-networks.ensures c.in_ok-queue.ensures.items;
}
