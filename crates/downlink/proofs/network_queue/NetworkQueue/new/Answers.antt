use Rattle.std.proofs.Common.{◌≡◌, List, map, sym, subst, arith, rules}
use Rattle.std.proofs.lemmas.Grind.{common_steps}
use Rattle.downlink.specs.Receiver.{Queue, new_queue}
use Rattle.downlink.specs.Ready.{IsReady}
use Rattle.downlink.proofs.Turns.{ready_new}
use Rattle.downlink.proofs.network_queue.NetworkQueue.new.Goals as goal

pub invariant_of-result : goal.invariant_of-result
invariant_of-result c =
    let all : c.loop-most.receivers.items ≡ map new_queue c.args.mosts.now = first_of (grind (arith, common_steps), search rules) in
    subst (λ (receivers : List Queue). IsReady c.in_ok-ready.ready.words.items receivers) (sym all)
    (ready_new c.in_ok-ready.ready.words.items c.args.mosts.now c.in_ok-ready.ensures.room c.in_ok-ready.ensures.none)
