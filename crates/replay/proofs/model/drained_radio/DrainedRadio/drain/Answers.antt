use Rattle.std.proofs.Common.{◌≡◌, ℕ, ◌<◌, ◌++◌, [], List, length, set, sym, ap, ◌∙◌, arith, append-nil, refl}
use Rattle.std.proofs.lemmas.List.{set-get_or}
use Rattle.bss_core.specs.RadioView.{view_at}
use Rattle.replay.specs.Frames.{sent_at}
use Rattle.replay.specs.Replay.{with_waiting}
use Rattle.replay.proofs.DrainSteps.{drains-one, one_less, with_waiting-same}
use Rattle.replay.proofs.model.drained_radio.DrainedRadio.drain.Goals as goal

pub loop-init : goal.loop-init
loop-init c = record {
  radio = sym (with_waiting-same c.args.self.now.radio c.args.place);
  sent = sym (set-get_or c.args.self.now.sent c.args.place []);
  moved = refl;
}

pub loop-smaller : goal.loop-smaller
loop-smaller c =
    let one = rw c.if-branch.true at c.in_ok-send_first.ensures in
    one_less c.args.place c.loop.self c.send_first.new.self one

pub loop-preserved : goal.loop-preserved
loop-preserved c =
    let one = rw c.if-branch.true at c.in_ok-send_first.ensures in
    let within : c.args.place < length c.args.self.now.sent = omega (arith, c.requires.there, c.requires.whole) in
    drains-one c.args.place c.args.self.now c.loop.self c.send_first.new.self within c.loop.invariant one

pub returns-clause-radio : goal.returns-clause-radio
returns-clause-radio c =
    let none = rw c.if-branch.false at c.in_ok-send_first.ensures in
    none.radio ∙ c.loop.invariant.radio
    ∙ ap (λ (frames : List (List ℕ)). with_waiting c.args.self.now.radio c.args.place frames) none.waiting

pub returns-clause-sent : goal.returns-clause-sent
returns-clause-sent c =
    let none = rw c.if-branch.false at c.in_ok-send_first.ensures in
    let sent : List (List ℕ) = sent_at c.loop.self.sent c.args.place in
    let all : sent ≡ sent_at c.args.self.now.sent c.args.place ++ (view_at c.args.self.now.radio c.args.place).waiting =
    sym (ap (λ (frames : List (List ℕ)). sent ++ frames) none.waiting ∙ append-nil sent) ∙ c.loop.invariant.moved in
    none.sent ∙ c.loop.invariant.sent
    ∙ ap (λ (frames : List (List ℕ)). set c.args.self.now.sent c.args.place frames) all
