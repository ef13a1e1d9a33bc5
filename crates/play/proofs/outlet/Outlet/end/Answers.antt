use Rattle.std.proofs.Common.{◌≡◌, ◌+◌, ℕ, length, sym, ap, ◌∙◌, arith}
use Rattle.std.specs.FinMap as finite
use Rattle.std.proofs.lemmas.List.{length-map}
use Rattle.std.proofs.lemmas.List.FromFn.{length-range_with_len}
use Rattle.air_queue.specs.Passes.{NetPassView, fresh_pass}
use Rattle.play.proofs.Leaves.{pushed-at}
use Rattle.play.proofs.outlet.Outlet.end.Goals as goal

pub returns-clause-pushed : goal.returns-clause-pushed
returns-clause-pushed g c = λ place within.
    let play = g.N.PlayName.play in
    let n : ℕ = length play.config.networks in
    let logs = c.in_ok-left.left.logs in
    let count = c.in_ok-left.ensures.count in
    let networks = c.self.invariant.3 in
    let nets = c.args.nets.items in
    let all : length nets ≡ n =
    sym (length-map nets (λ (pass : NetPassView). pass.place)) ∙ ap length c.requires.nets.placed ∙ length-range_with_len 0 n in
    c.in_ok-left.ensures.pushed place _ (omega (arith, within, count, networks, logs.ok.0))
    (ap (finite.get c.close.result.taken_in) (let e : place ≡ 0 + place = omega arith in e)
    ∙ pushed-at 0 n place c.close.result.taken_in nets (fresh_pass play.queue 0) c.requires.nets.placed c.close.ensures.pushed
    (omega (arith, within, all)))
