use Rattle.std.proofs.Common.{ap, subst, sym, ◌∙◌}
use Rattle.std.specs.Fmt.{HasWritten}
use Rattle.mac_frame.specs.Address.{IsAddress, address_text}
use Rattle.mac_frame.proofs.Cells.{is_its_cells}
use Rattle.mac_frame.proofs.address.MacAddrDisplay.fmt.Goals as goal

pub returns-clause-writes : goal.returns-clause-writes
returns-clause-writes g c plain ok =
    let octets = c.octets.result in
    let by_cells =
    is_its_cells octets 6 (subst (λ a. IsAddress a) (sym c.octets.ensures.value) c.octets.ensures.address).six in
    let text = sym (ap address_text by_cells) ∙ ap address_text c.octets.ensures.value in
    subst (λ t. HasWritten g.W.Write.write_str_gives c.args.f.now t c.write.new.self) text
    (c.write.ensures.writes plain ok)
