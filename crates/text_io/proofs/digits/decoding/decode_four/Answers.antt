use Rattle.std.proofs.Common.{ℕ, ◌+◌, ◌*◌, ◌≤◌, ◌++◌, List, length, refl, arith}
use Rattle.std.proofs.lemmas.Simd.{get_or-put_chunk_below}
use lib.Lanes.{chunk, pick_l}
use Rattle.text_io.proofs.DigitBlocks.{front, front-four, get_or-front, loaded-eight, picked_digits, stored_reads, twice_digits, twice_eight}
use Rattle.text_io.proofs.digits.decoding.decode_four.Goals as goal

pub returns-clause-reads : goal.returns-clause-reads
returns-clause-reads c =
    let text = c.args.text.now in
    let at = c.args.at in
    let block = c.read_pairs-are_digits.result.0 in
    let few : List ℕ = chunk (2 * at) 8 text in
    let pairs : List ℕ = pick_l 0 (few ++ few) twice_eight in
    stored_reads text c.args.octets.now (pairs ++ pairs) block (front 4 block) c.read_pairs-are_digits.result.1 at 4
    (omega arith)
    refl c.requires.within (λ j lt. get_or-front 4 block j (front-four block c.read_pairs-are_digits.ensures.len) lt)
    (λ m lt. loaded-eight text pairs (2 * at) m
    (omega (arith, c.requires.fits, c.requires.within)) lt) c.read_pairs-are_digits.ensures.reads

pub returns-clause-keeps : goal.returns-clause-keeps
returns-clause-keeps c k lt =
    get_or-put_chunk_below c.args.at c.args.octets.now (front 4 c.read_pairs-are_digits.result.0) k 0 lt

pub returns-clause-all : goal.returns-clause-all
returns-clause-all c digits =
    let text = c.args.text.now in
    let start : ℕ = 2 * c.args.at in
    let room : start + 8 ≤ length text = omega (arith, c.requires.fits, c.requires.within) in
    c.read_pairs-are_digits.ensures.all
    (twice_digits 16 (pick_l 0 (chunk start 8 text ++ chunk start 8 text) twice_eight) refl
    (picked_digits text start room digits))
