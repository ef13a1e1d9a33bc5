use Rattle.std.proofs.Common.{◌≡◌, List, ℕ, Option, Some, None, Ok, ap, ◌∙◌, arith}
use Rattle.std.specs.Prelude.{IfSome}
use Rattle.mac_frame.specs.Address.{broadcast}
use Rattle.mac_frame.specs.Frame.{Frame, frame_of}
use Rattle.association.specs.Received.{IsReadOf, probe_shown}
use Rattle.association.specs.Request.{Request, IsRequest, request_in, request_read, request_of}
use Rattle.association.specs.declared.received.BroadcastProbe.{BroadcastProbe}
use Rattle.association.proofs.received.broadcast_probe.Goals as goal

-- the probe request of a frame is that of its string
read-of : (x : List ℕ) (f : Frame) (o : Option BroadcastProbe) → ((r : Request) → request_of broadcast x ≡ Ok r → IsRequest broadcast x r) → frame_of broadcast x ≡ Ok f → IfSome o (λ p. request_in f ≡ Ok (probe_shown p)) → IsReadOf x o
read-of x f None found is h = tt
read-of x f (Some p) found is h = found (probe_shown p) (ap request_read is ∙ h)

pub returns-in-Some : goal.returns-in-Some
returns-in-Some c =
    read-of c.args.octets.now _ c.probe_in.result (λ r. c.one_request.ensures.found broadcast c.args.octets.now r (λ place. omega (arith, c.type_inv.octets place)))
    c.in-Some.ensures c.probe_in.ensures
