use Rattle.std.proofs.Common.{ℕ, ◌+◌, ◌*◌, ◌≤◌, ◌++◌, List, length, refl, arith}
use Rattle.std.proofs.lemmas.Simd.{get_or-chunk, get_or-put_chunk_below, length-chunk}
use lib.Lanes.{chunk}
use Rattle.text_io.proofs.DigitBlocks.{front, front-eight, get_or-front, loaded-first, loaded_digits, stored_reads, twice_digits}
use Rattle.text_io.proofs.digits.decoding.decode_eight.Goals as goal

pub returns-clause-reads : goal.returns-clause-reads
returns-clause-reads c =
    let text = c.args.text.now in
    let at = c.args.at in
    let block = c.read_pairs-are_digits.result.0 in
    let pairs : List ℕ = chunk (2 * at) 16 text in
    stored_reads text c.args.octets.now (pairs ++ pairs) block (front 8 block) c.read_pairs-are_digits.result.1 at 8
    (omega arith)
    refl c.requires.within (λ j lt. get_or-front 8 block j (front-eight block c.read_pairs-are_digits.ensures.len) lt)
    (λ m lt. loaded-first text pairs (2 * at) m
    (omega (arith, c.requires.fits, c.requires.within)) lt) c.read_pairs-are_digits.ensures.reads

pub returns-clause-keeps : goal.returns-clause-keeps
returns-clause-keeps c k lt =
    get_or-put_chunk_below c.args.at c.args.octets.now (front 8 c.read_pairs-are_digits.result.0) k 0 lt

pub returns-clause-all : goal.returns-clause-all
returns-clause-all c digits =
    let text = c.args.text.now in
    let start : ℕ = 2 * c.args.at in
    let room : start + 16 ≤ length text = omega (arith, c.requires.fits, c.requires.within) in
    c.read_pairs-are_digits.ensures.all
    (twice_digits 16 (chunk start 16 text) (length-chunk start 16 text room)
    (loaded_digits text (chunk start 16 text) start 16 room (λ m lt. get_or-chunk start 16 text m 0 lt) digits))
