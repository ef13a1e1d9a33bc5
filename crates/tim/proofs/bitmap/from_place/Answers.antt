use Rattle.std.proofs.Common.{◌+◌, ◌-◌, ◌≤◌, ℕ, length, arith}
use Rattle.std.proofs.lemmas.List.{length-replicate}
use Rattle.std.specs.Prelude.{replicate}
use Rattle.tim.proofs.Aids.{get_or-placed, get_or-zeros}
use Rattle.tim.proofs.bitmap.from_place.Goals as goal

pub returns : goal.returns
returns c = λ place.
    let first = c.args.first in
    let k = first + length c.args.octets.now - first in
    let fits = c.requires in
    let within : first + k ≤ length {A = ℕ} (replicate 251 0) = omega (arith, fits, length-replicate {A = ℕ} 251 0) in
    get_or-placed (replicate 251 0) first k c.args.octets.now _ (get_or-zeros 251) within (omega arith) c.copy_from_slice.ensures.after place
