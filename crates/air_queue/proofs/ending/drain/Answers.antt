use Rattle.std.proofs.Common.{◌≡◌, ◌+◌, length, refl, arith}
use Rattle.crossbeam_queue.specs.Passes.{view}
use Rattle.air_queue.specs.Rule.{networks_of, taken_in_of}
use Rattle.air_queue.proofs.Takings.{accounts_as, nothing_queued}
use Rattle.air_queue.proofs.ending.drain.Goals as goal

-- as many left as there were when the passes were in
pub returns-clause-account : goal.returns-clause-account
returns-clause-account g c =
    let i = c.loop-queue_pass.invariant in
    let first = view c.args.queue_pass.now in
    let before = c.args.left.now.items in
    let out = c.loop-queue_pass.left.items in
    let held = c.len_as.ensures.rule.1 in
    let learned = c.learn_as.ensures.rule in
    let few = i.few in
    let over = c.loop-queue_pass-test.false in
    let len = c.len.ensures in
    let len' = c.len-in-loop-queue_pass.ensures in
    let ok = c.args.left.now.ok.0 in
    let ok' = c.loop-queue_pass.left.ok.0 in
    let count = held.1 in
    let long : length before + length held.0 ≡ length out = omega (arith, few, over, len, len', ok, ok', count) in
    nothing_queued (networks_of first) (taken_in_of first) before out held.0 learned.0 c.requires.taken
    (accounts_as before _ _ first held.0 c.requires.radio refl refl held.2)
    (accounts_as out _ _ (view c.loop-queue_pass.queue_pass) learned.0 i.radio i.networks.0 i.networks.1 learned.1)
    long
