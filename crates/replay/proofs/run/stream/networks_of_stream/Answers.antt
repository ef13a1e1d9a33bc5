use Rattle.std.proofs.Common.{◌≡◌, [], refl}
use Rattle.std.proofs.lemmas.Result.{err_from_is_err_and}
use Rattle.text_io.specs.Endings.{OutOfMemory}
use Rattle.trace.specs.Pieces.{AreTakenSoFar}
use Rattle.network_report.specs.NetworkText.{networks_after_lines}
use Rattle.replay.proofs.StreamEnds.{unread}
use Rattle.replay.proofs.run.stream.networks_of_stream.Goals as goal

pub returns-in_err-lines : goal.returns-in_err-lines
returns-in_err-lines g c =
    let p = err_from_is_err_and c.from_residual.result c.from_residual.ensures.1 in
    rw (p.1, p.2) (record { text = []; reads = unread OutOfMemory _ refl; end = tt })

pub returns-in_err-networks : goal.returns-in_err-networks
returns-in_err-networks g c =
    let p = err_from_is_err_and c.from_residual-in_err-networks.result c.from_residual-in_err-networks.ensures.1 in
    rw (p.1, p.2) (record { text = []; reads = unread OutOfMemory _ refl; end = tt })

pub returns-in_err-take_whole : goal.returns-in_err-take_whole
returns-in_err-take_whole g c =
    let p =
    err_from_is_err_and c.from_residual-in_err-take_whole.result c.from_residual-in_err-take_whole.ensures.1 in
    let started : AreTakenSoFar c.args.config [] c.in_ok-lines.lines
    (λ said. c.in_ok-networks.networks.networks ≡ networks_after_lines c.args.config said) = (
      [],
      rw c.in_ok-lines.ensures (c.piece_by_piece.ensures.new c.args.config),
      c.in_ok-networks.ensures,
    ) in
    let s = c.in_err-take_whole.ensures c.args.config started in
    rw (p.1, p.2) (record { text = s.text; reads = s.reads; end = s.end })

pub returns : goal.returns
returns g c =
    let started : AreTakenSoFar c.args.config [] c.in_ok-lines.lines
    (λ said. c.in_ok-networks.networks.networks ≡ networks_after_lines c.args.config said) = (
      [],
      rw c.in_ok-lines.ensures (c.piece_by_piece.ensures.new c.args.config),
      c.in_ok-networks.ensures,
    ) in
    let s = c.in_ok-take_whole.ensures c.args.config started in
    record { text = s.text; reads = s.reads; end = s.end }
