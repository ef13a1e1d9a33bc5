-- A radio of which no network took an event, and no frame that left.
use Rattle.std.proofs.Common.{◌≡◌, length, ap, ◌∙◌}
use Rattle.bss_core.specs.RadioView.{RadioView, fresh_radio}
use Rattle.ap_config.specs.declared.config.RadioConfig.{RadioConfig}
use Rattle.replay.specs.Frames.{none_sent}
use Rattle.replay.proofs.SectionSteps.{fresh_drained}
use Rattle.replay.proofs.model.drained_radio.DrainedRadio.new.Goals as goal

pub returns : goal.returns
returns c =
    let config : RadioConfig = c.args.config in
    let radio : c.in_ok-radio.radio ≡ fresh_radio config = c.in_ok-radio.ensures.opened in
    let count : c.networks.result ≡ length config.networks =
    c.networks.ensures.count ∙ ap (λ (r : RadioView). length r.config.networks) radio in
    let sent : c.in_ok-sent.sent ≡ none_sent (length config.networks) = c.in_ok-sent.ensures ∙ ap none_sent count in
    (radio, fresh_drained config c.in_ok-radio.radio c.in_ok-sent.sent c.requires radio sent)
