use Rattle.std.proofs.Common.{◌∙◌, ap}
use Rattle.report.proofs.AddressDigits.{parted, address_parted}
use Rattle.report.proofs.lines.address_text.Goals as goal

pub returns : goal.returns
returns c =
    let digits = c.address_digits.ensures in
    ap parted digits.digits ∙ address_parted c.args.address digits.address
