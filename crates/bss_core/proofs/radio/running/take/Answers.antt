use Rattle.std.proofs.Common.{◌≡◌, ◌≢◌, ◌++◌, ◌∷◌, [], ℕ, length, Err, arith, sym, ap, subst, ◌∙◌}
use Rattle.bss_core.specs.Radio.{RadioState, after_steps}
use Rattle.ap_config.specs.Places.{network_at}
use Rattle.bss_core.specs.RadioView.{RadioView, view_at, took}
use Rattle.bss_core.specs.Running.{IsAt}
use Rattle.events.specs.declared.event.Event.{Event}
use Rattle.bss_core.specs.declared.radio.step.Step.TheVariants.{Take}
use Rattle.bss_core.proofs.RunSteps.{is_at-took, is_at-full, is_at-nowhere}
use Rattle.bss_core.proofs.radio.running.take.Goals as goal

pub returns-then-place-networks-clause-made : goal.returns-then-place-networks-clause-made
returns-then-place-networks-clause-made c before left h =
    is_at-nowhere c.args.radio.now before left c.args.place c.args.event.now (omega (arith, c.networks.ensures.count)) h

pub returns-in-Ok-clause-made : goal.returns-in-Ok-clause-made
returns-in-Ok-clause-made c before left h =
    let r : RadioView = c.args.radio.now in
    let place : ℕ = c.args.place in
    let not_full : length (view_at r place).history ≢ (network_at r.config place).max_events = λ full. (let wrong = c.in-Ok.ensures.full.1 full in cc) in
    let next : RadioState = after_steps r.config (before ++ Take place c.args.event.now ∷ []) in
    let taken : c.take.new.self ≡ took place c.args.event.now r = c.in-Ok.ensures.after ∙ ap (λ (e : Event). took place e r) (c.in_ok-copy.ensures ∙ c.lend.ensures) in
    subst (λ (v : RadioView). IsAt next v left) (sym taken)
    (is_at-took (record { append = c.own_frames.ensures.append; same = c.own_frames.ensures.same; other = c.own_frames.ensures.other; sent = c.sent_frames.ensures }) r before left place c.args.event.now c.networks.ensures.sound (omega (arith, c.networks.ensures.count)) not_full h)

pub returns-in-Err-HistoryFull-clause-made : goal.returns-in-Err-HistoryFull-clause-made
returns-in-Err-HistoryFull-clause-made c before left h =
    let r : RadioView = c.args.radio.now in
    let place : ℕ = c.args.place in
    let full = c.in-Err-HistoryFull.ensures.full.0 (ap Err c.in-Err-HistoryFull.field-0-is) in
    let next : RadioState = after_steps r.config (before ++ Take place c.args.event.now ∷ []) in
    subst (λ (v : RadioView). IsAt next v left) (sym c.in-Err-HistoryFull.ensures.err)
    (is_at-full r before left place c.args.event.now (omega (arith, c.networks.ensures.count)) full h)
