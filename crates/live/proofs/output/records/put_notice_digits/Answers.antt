use Rattle.std.proofs.Common.{ℕ, List, arith}
use Rattle.std.specs.Prelude.{flat_map}
use Rattle.text_io.specs.BufferLaws.{Puts-nothing, Puts-then, Puts-same}
use Rattle.live.proofs.NoticeSteps.{told-over, told-line}
use Rattle.live.proofs.output.records.put_notice_digits.Goals as goal

pub returns-then-len-gt-MAX_OCTETS : goal.returns-then-len-gt-MAX_OCTETS
returns-then-len-gt-MAX_OCTETS g c =
    let line : List ℕ = flat_map (λ part. part.now) c.args.parts.now in
    Puts-same
    (told-over line c.args.octets.now
    (omega (
      arith,
      c.if-len-gt-MAX_OCTETS.true,
      c.total_len.ensures,
      c.saturating_mul-digits.ensures,
      c.saturating_add.ensures,
      c.saturating_add-len.ensures,
    )))
    (Puts-nothing _ c.requires)

pub returns : goal.returns
returns g c =
    let line : List ℕ = flat_map (λ part. part.now) c.args.parts.now in
    Puts-same
    (told-line line c.args.octets.now c.saturating_add-len.result
    (omega (
      arith,
      c.if-len-gt-MAX_OCTETS.false,
      c.total_len.ensures,
      c.saturating_mul-digits.ensures,
      c.saturating_add.ensures,
      c.saturating_add-len.ensures,
    ))
    c.if-len-gt-MAX_OCTETS.false)
    (Puts-then (Puts-then (Puts-then c.put_header.ensures c.put_parts.ensures) c.put_digits.ensures) c.put.ensures)
