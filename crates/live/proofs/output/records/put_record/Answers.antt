use Rattle.text_io.specs.BufferLaws.{Puts-nothing, Puts-same, Puts-then}
use Rattle.live.proofs.NoticeSteps.{record-over, record-is}
use Rattle.live.proofs.output.records.put_record.Goals as goal

pub returns-then-octets-gt-MAX_OCTETS : goal.returns-then-octets-gt-MAX_OCTETS
returns-then-octets-gt-MAX_OCTETS g c =
    Puts-same (record-over c.args.kind c.args.bssid c.args.octets.now c.if-octets-gt-MAX_OCTETS.true)
    (Puts-nothing _ c.requires)

pub returns : goal.returns
returns g c =
    Puts-same (record-is c.args.kind c.args.bssid c.args.octets.now c.if-octets-gt-MAX_OCTETS.false)
    (Puts-then c.put_header.ensures c.put.ensures)
