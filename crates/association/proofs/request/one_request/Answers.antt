use Rattle.association.proofs.RequestFrames.{request-read, request-found, stands-on}
use Rattle.association.proofs.request.one_request.Goals as goal

pub returns-clause-read : goal.returns-clause-read
returns-clause-read c = request-read (λ bss x f. (c.one_frame.ensures.reading bss x f).1) c.one_list.ensures.read

pub returns-clause-unique : goal.returns-clause-unique
returns-clause-unique c bss x r s v w =
    let first = returns-clause-read c bss x r v in
    let second = returns-clause-read c bss x s w in
    cc

pub returns-clause-found : goal.returns-clause-found
returns-clause-found c bss x r octets h =
    request-found
    (λ bss x f. (c.one_frame.ensures.reading bss x f).0) c.body_has_octets.ensures.management c.one_list.ensures.found
    bss x r octets h

pub returns-clause-heard : goal.returns-clause-heard
returns-clause-heard c bss x r w =
    let on = stands-on c.one_list.ensures.read bss x r w in
    record {
      long = c.frame_is_addressed.ensures.long bss x on.heard_frame on.frame;
      address = c.frame_is_addressed.ensures.receiver bss x on.heard_frame on.frame;
    }
