use Rattle.std.proofs.Common.{List, ℕ, Option, subst, rules}
use Rattle.association.specs.Received.{IsReadOf}
use Rattle.association.specs.declared.received.BroadcastProbe.{BroadcastProbe}
use Rattle.association.proofs.received.ReceivedFrame.request_for.Goals as goal

pub returns-in-Some-clause-request : goal.returns-in-Some-clause-request
returns-in-Some-clause-request c =
    c.same_probe.ensures c.args.bss c.args.self.now _ _ (search rules)
    (subst (λ (p : Option BroadcastProbe). IsReadOf c.args.self.now p) c.in-Some.is
    (subst (λ (x : List ℕ). IsReadOf x c.self.inside.probe) c.self.view_is c.self.invariant))

pub returns-in-Some-clause-only : goal.returns-in-Some-clause-only
returns-in-Some-clause-only c r w =
    c.one_request.ensures.unique c.args.bss c.args.self.now _ r (returns-in-Some-clause-request c) w

pub returns-in-Some-clause-fault : goal.returns-in-Some-clause-fault
returns-in-Some-clause-fault c =
    c.one_request.ensures.read c.args.bss c.args.self.now _ (returns-in-Some-clause-request c)
