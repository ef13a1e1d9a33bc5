use Rattle.std.proofs.Common.{arith}
use Rattle.mac_frame.specs.Rx.{shown as frame_shown}
use Rattle.association.proofs.RequestFrames.{of-frame, reads-request, reads-only, stands-on}
use Rattle.association.proofs.request.read.Goals as goal

pub returns-in-Err-clause-only : goal.returns-in-Err-clause-only
returns-in-Err-clause-only c r w =
    let on = stands-on c.one_list.ensures.read c.args.bss c.args.frame.now r w in
    c.in-Err.ensures.only on.heard_frame on.frame

pub returns-in-Ok-clause-fault : goal.returns-in-Ok-clause-fault
returns-in-Ok-clause-fault c =
    of-frame c.args.bss c.args.frame.now
    (frame_shown c.in-Ok.rx) c.request_in.result c.in-Ok.ensures.fault c.request_in.ensures

pub returns-in-Ok-clause-request : goal.returns-in-Ok-clause-request
returns-in-Ok-clause-request c =
    reads-request
    (λ bss x f. (c.one_frame.ensures.reading bss x f).0) c.body_has_octets.ensures.management c.one_list.ensures.found
    c.args.bss c.args.frame.now c.request_in.result (λ place. omega (arith, c.type_inv.frame place))
    (returns-in-Ok-clause-fault c)

pub returns-in-Ok-clause-only : goal.returns-in-Ok-clause-only
returns-in-Ok-clause-only c r w =
    reads-only (λ bss x f. (c.one_frame.ensures.reading bss x f).1) c.one_list.ensures.read
    c.args.bss c.args.frame.now c.request_in.result (returns-in-Ok-clause-fault c) r w
