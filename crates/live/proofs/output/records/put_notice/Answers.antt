use Rattle.std.proofs.Common.{◌≡◌, ◌≤◌, ◌<◌, ℕ, List, length, arith}
use Rattle.std.specs.Prelude.{flat_map}
use Rattle.text_io.specs.BufferLaws.{Puts-nothing, Puts-then, Puts-same}
use Rattle.live.proofs.NoticeSteps.{told-none, told-long, told-counted}
use Rattle.live.proofs.output.records.put_notice.Goals as goal

pub returns-then-len-eq0 : goal.returns-then-len-eq0
returns-then-len-eq0 g c =
    let line : List ℕ = flat_map (λ part. part.now) c.args.parts.now in
    let none : length line ≡ 0 = omega (arith, c.total_len-len.ensures, c.if-len-eq0.true) in
    Puts-same (told-none line none) (Puts-nothing _ c.requires)

pub returns-then-len-gt-MAX_OCTETS : goal.returns-then-len-gt-MAX_OCTETS
returns-then-len-gt-MAX_OCTETS g c =
    let line : List ℕ = flat_map (λ part. part.now) c.args.parts.now in
    let many : 65535 < length line = omega (arith, c.total_len-len.ensures, c.if-len-gt-MAX_OCTETS.true) in
    Puts-same (told-long line many) (Puts-nothing _ c.requires)

pub returns : goal.returns
returns g c =
    let line : List ℕ = flat_map (λ part. part.now) c.args.parts.now in
    let is : c.total_len-len.result ≡ length line = omega (arith, c.total_len-len.ensures, c.if-len-gt-MAX_OCTETS.false) in
    let some : 1 ≤ c.total_len-len.result = omega (arith, c.if-len-eq0.false) in
    Puts-same (told-counted line c.total_len-len.result is some c.if-len-gt-MAX_OCTETS.false)
    (Puts-then c.put_header.ensures c.put_parts.ensures)
