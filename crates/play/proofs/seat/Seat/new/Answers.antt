use Rattle.std.proofs.Common.{◌≡◌, List, ℕ, zero, suc, get_or, take, refl, ap, ◌∙◌, rules}
use Rattle.std.specs.Prelude.{replicate}
use Rattle.networks.specs.WithFrames.{sent_after}
use Rattle.ap_config.specs.Places.{network_at, setting_at}
use Rattle.events.specs.Lines.{heard}
use Rattle.play.specs.Kept.{heard_up_to}
use Rattle.play.specs.Lines.{lines_of}
use Rattle.play.proofs.Leaves.{opened-log}
use Rattle.play.proofs.Steps.{kept-none}
use Rattle.play.proofs.seat.Seat.new.Goals as goal

zeros-at : (count i : ℕ) → ◌≡◌ {A = ℕ} (get_or (replicate count 0) i 0) 0
zeros-at zero i = refl
zeros-at (suc count) zero = refl
zeros-at (suc count) (suc i) = zeros-at count i

pub invariant_of-result : goal.invariant_of-result
invariant_of-result g c =
    let play = g.N.PlayName.play in
    let pass = c.args.pass in
    let zeros : c.in_ok-next.next.items ≡ replicate c.args.sources 0 = search rules in (
      c.requires.named,
      c.requires.place,
      search rules,
      c.requires.keeps,
      λ _.
          kept-none play pass.place (heard_up_to play pass.place c.in_ok-next.next.items) (sent_after pass.pushed c.of.result) _
          (λ i.
          ap (λ (n : ℕ). heard pass.place (network_at play.config pass.place).bssid (take n (lines_of play.sources i)))
          (ap (λ (ns : List ℕ). get_or ns i 0) zeros ∙ zeros-at c.args.sources i))
          (opened-log (setting_at play.config pass.place) c.args.network c.of.result pass.pushed c.requires.network c.of.ensures.network.0
          c.of.ensures.network.1 c.of.ensures.waiting c.requires.pushed)
          (search rules),
    )
