use Rattle.std.proofs.Common.{◌≡◌, ◌+◌, ◌++◌, ◌∷◌, [], List, ℕ, take, Err, sym, ap, subst, ◌∙◌}
use Rattle.std.proofs.lemmas.List.{take_more, take_all}
use Rattle.std.proofs.lemmas.Result.{err_from_is_err_and}
use Rattle.bss_core.specs.Radio.{RadioState, after_steps, sections_after, waiting_at}
use Rattle.events.specs.Items.{items_of}
use Rattle.bss_core.specs.RadioView.{RadioView}
use Rattle.bss_core.specs.Running.{IsAt, sections_with}
use Rattle.network.specs.BssView.{BssView}
use Rattle.ap_config.specs.declared.config.RadioConfig.{RadioConfig}
use Rattle.ap_config.specs.declared.open_fault.OpenFault.{OpenFault}
use Rattle.ap_config.specs.declared.open_fault.OpenFault.TheVariants.{Config}
use Rattle.events.specs.declared.air_item.AirItem.{AirItem}
use Rattle.bss_core.specs.declared.radio.step.Step.{Step}
use Rattle.bss_core.proofs.RadioFrames.{frames-alone}
use Rattle.bss_core.proofs.RunSections.{ended-sections}
use Rattle.bss_core.proofs.RunSteps.{is_at-first}
use Rattle.bss_core.proofs.radio.running.run.Goals as goal

pub returns-in_err-radio-clause-fault : goal.returns-in_err-radio-clause-fault
returns-in_err-radio-clause-fault c fault =
    let p = err_from_is_err_and c.from_residual.result c.from_residual.ensures.1 in
    let met : OpenFault = c.in_err-radio.field-0.0 in
    let says = c.in_err-radio.ensures.fault fault in
    rw (p.1, p.2)
    (λ same. says.0 (let e : met ≡ Config fault = cc in ap Err e), λ is. (let e : met ≡ Config fault = (let q = says.1 is in cc) in ap Err e))

pub loop-step-init : goal.loop-step-init
loop-step-init c =
    let radio : RadioView = c.in_ok-radio.radio in
    record {
      config = ap (λ (r : RadioView). r.config) c.in_ok-radio.ensures.opened;
      at = subst (λ (items : List AirItem). IsAt (after_steps radio.config []) radio items) (sym c.new-left.ensures.items)
          (subst (λ (r : RadioView). IsAt (after_steps r.config []) r []) (sym c.in_ok-radio.ensures.opened) (is_at-first c.args.config));
    }

pub loop-step-preserved : goal.loop-step-preserved
loop-step-preserved c =
    let steps : List Step = c.args.steps.now in
    let i : ℕ = c.loop-step.step-index in
    let step : Step = c.step-item.result in
    let before : RadioConfig = c.loop-step.radio.config in
    let radio : RadioView = c.make_step.new.radio in
    let left : List AirItem = c.make_step.new.left.items in
    let more : take (i + 1) steps ≡ take i steps ++ step ∷ [] = take_more steps i step c.loop-step-test.true ∙ ap (λ (x : Step). take i steps ++ x ∷ []) (sym c.step-item.is) in
    let at = c.in_ok-make_step.ensures.made (take i steps) c.loop-step.invariant.at in
    record {
      config = c.in_ok-make_step.ensures.config ∙ c.loop-step.invariant.config;
      at = subst (λ (d : RadioConfig). IsAt (after_steps d (take (i + 1) steps)) radio left) (sym c.in_ok-make_step.ensures.config)
          (subst (λ (xs : List Step). IsAt (after_steps before xs) radio left) (sym more) at);
    }

pub returns-clause-sections : goal.returns-clause-sections
returns-clause-sections c =
    let steps : List Step = c.args.steps.now in
    let radio : RadioView = c.loop-step.radio in
    let left : List AirItem = c.loop-step.left.items in
    let networks : List BssView = c.into_parts-networks.result.0 in
    let parts = c.into_parts-networks.ensures in
    let all : take c.loop-step.step-index steps ≡ steps = take_all c.loop-step.step-index steps c.loop-step-test.false in
    let at = subst (λ (xs : List Step). IsAt (after_steps radio.config xs) radio left) all c.loop-step.invariant.at in
    c.in_ok-sections.ensures
    ∙ ap (λ (items : List AirItem). sections_with items c.as_slice-2.result.now networks) c.as_slice.ensures.value
    ∙ ap (λ (items : List AirItem). sections_with left items networks) (c.as_slice-2.ensures ∙ parts.queue)
    ∙ ended-sections (record { append = c.own_frames.ensures.append; same = c.own_frames.ensures.same; other = c.own_frames.ensures.other; sent = c.sent_frames.ensures }) radio steps left networks at parts.settings parts.networks
    ∙ ap (λ (d : RadioConfig). sections_after d steps) c.loop-step.invariant.config

pub returns-clause-frames : goal.returns-clause-frames
returns-clause-frames c place within =
    let steps : List Step = c.args.steps.now in
    let config : RadioConfig = c.args.config in
    let radio : RadioView = c.loop-step.radio in
    let left : List AirItem = c.loop-step.left.items in
    let end : RadioState = after_steps config steps in
    let waiting : List (List ℕ) = waiting_at config end place in
    let all : take c.loop-step.step-index steps ≡ steps = take_all c.loop-step.step-index steps c.loop-step-test.false in
    let at = subst (λ (d : RadioConfig). IsAt (after_steps d steps) radio left) c.loop-step.invariant.config (subst (λ (xs : List Step). IsAt (after_steps radio.config xs) radio left) all c.loop-step.invariant.at) in
    let gone : c.from_vec.result ≡ end.left = c.from_vec.ensures ∙ at.left in
    let queued : c.into_parts-networks.result.1 ≡ end.queue = c.into_parts-networks.ensures.queue ∙ at.queue in
    ap (λ (items : List AirItem). items_of place items ++ items_of place c.into_parts-networks.result.1 ++ waiting) gone
    ∙ ap (λ (items : List AirItem). items_of place end.left ++ items_of place items ++ waiting) queued
    ∙ frames-alone (record { append = c.own_frames.ensures.append; same = c.own_frames.ensures.same; other = c.own_frames.ensures.other; sent = c.sent_frames.ensures }) config steps place within
