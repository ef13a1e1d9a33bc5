use Rattle.std.proofs.Common.{ℕ, ◌*◌, ◌+◌, ◌++◌, List, refl, arith}
use Rattle.std.proofs.lemmas.Simd.{get_or-put_chunk_below}
use lib.Lanes.{chunk}
use Rattle.text_io.proofs.DigitBlocks.{loaded_digits, loaded-two, stored_reads}
use Rattle.text_io.proofs.digits.decoding.decode_sixteen.Goals as goal

pub returns-clause-reads : goal.returns-clause-reads
returns-clause-reads c =
    let text = c.args.text.now in
    let at = c.args.at in
    let block = c.read_pairs-are_digits.result.0 in
    let xs : List ℕ = chunk (2 * at) 16 text ++ chunk (2 * at + 16) 16 text in
    stored_reads text c.args.octets.now xs block block c.read_pairs-are_digits.result.1 at 16 (omega arith)
    c.read_pairs-are_digits.ensures.len c.requires.within (λ j lt. refl)
    (λ m lt. loaded-two text (2 * at) m (omega
    (arith, c.requires.fits, c.requires.within)) lt) c.read_pairs-are_digits.ensures.reads

pub returns-clause-keeps : goal.returns-clause-keeps
returns-clause-keeps c k lt =
    get_or-put_chunk_below c.args.at c.args.octets.now c.read_pairs-are_digits.result.0 k 0 lt

pub returns-clause-all : goal.returns-clause-all
returns-clause-all c digits =
    let text = c.args.text.now in
    let start : ℕ = 2 * c.args.at in
    c.read_pairs-are_digits.ensures.all
    (loaded_digits text (chunk start 16 text ++ chunk (start + 16) 16 text) start 32
    (omega (arith, c.requires.fits, c.requires.within))
    (λ m lt. loaded-two text start m (omega (arith, c.requires.fits, c.requires.within)) lt) digits)
