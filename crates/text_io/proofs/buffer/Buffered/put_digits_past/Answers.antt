-- The digits of the octets so far are followed by those of a prefix of the rest.
use Rattle.std.proofs.Common.{[], ◌++◌, refl}
use Rattle.text_io.proofs.OctetDigits.{encode_lower-nil, encode_lower-append, prefix_and_suffix, digits_grow}
use Rattle.text_io.specs.BufferLaws.{Puts-nothing, Puts-then}
use Rattle.text_io.proofs.buffer.Buffered.put_digits_past.Goals as goal

pub loop-rest-init : goal.loop-rest-init
loop-rest-init g c = ([], refl, rw encode_lower-nil (Puts-nothing _ c.requires))

pub loop-rest-preserved : goal.loop-rest-preserved
loop-rest-preserved g c =
    let (done, split, put) = c.loop-rest.invariant in
    let few = c.split_at.result.0.now in
    let cut = prefix_and_suffix _ _ _ _ c.split_at.ensures.front c.split_at.ensures.back in
    (done ++ few, digits_grow _ _ _ _ _ split cut, rw encode_lower-append (Puts-then put c.put_few_digits.ensures))
