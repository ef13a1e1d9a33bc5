use Rattle.std.proofs.Common.{sym, ap, ◌∙◌}
use Rattle.address_hash.specs.AddressHash.{gathered}
use Rattle.address_hash.proofs.Octets.{number_of-one}
use Rattle.address_hash.proofs.AddressHasherHasher.write_u8.Goals as goal

pub returns : goal.returns
returns c =
    c.gather.ensures
    ∙ ap (λ n. record { gathered = gathered c.args.self.now.gathered n }) (c.from.ensures ∙ sym (number_of-one c.args.i))
