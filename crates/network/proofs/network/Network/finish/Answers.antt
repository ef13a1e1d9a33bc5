use Rattle.std.proofs.Common.{◌≡◌, ◌+◌, ◌*◌, List, Option, OnOk, sym, subst}
use Rattle.network.specs.NetworkView.{NetworkState, carried_out}
use Rattle.network.specs.Replies.{outcome_by}
use Rattle.network.specs.Sound.{IsSoundNetwork}
use Rattle.network.proofs.network.Network.finish.Goals as goal

pub serve_poll-requires-clause-sound : goal.serve_poll-requires-clause-sound
serve_poll-requires-clause-sound c =
    let n : NetworkState = c.args.self.now in
    subst (λ (p : Option (List _)). IsSoundNetwork n.setting (n.events + 1) (2 * (n.events + 1)) (carried_out (outcome_by p c.args.reply.now) n).network) c.in-Some.is c.requires.follows.sound

pub returns-in-Some-clause-after : goal.returns-in-Some-clause-after
returns-in-Some-clause-after c =
    let n : NetworkState = c.args.self.now in
    subst (λ (p : Option (List _)). OnOk c.serve_poll.result (c.serve_poll.new.self ≡ carried_out (outcome_by p c.args.reply.now) n)) (sym c.in-Some.is) c.serve_poll.ensures.after
