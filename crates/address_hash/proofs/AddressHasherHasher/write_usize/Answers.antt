use Rattle.std.proofs.Common.{sym, ap, ◌∙◌}
use Rattle.address_hash.specs.AddressHash.{gathered}
use Rattle.address_hash.proofs.Octets.{number_of-le_bytes}
use Rattle.address_hash.proofs.AddressHasherHasher.write_usize.Goals as goal

pub returns : goal.returns
returns c =
    c.gather.ensures
    ∙ ap (λ n. record { gathered = gathered c.args.self.now.gathered n }) (sym (number_of-le_bytes c.args.i c.ranges.i.fits))
