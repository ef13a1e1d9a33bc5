use Rattle.std.proofs.Common.{◌≡◌, true, arith, rules}
use Rattle.std.specs.Option.{is_some}
use Rattle.elements.specs.Elements.{elements_of}
use Rattle.elements.proofs.Walk.{listed_is, IsElements-from_read}
use Rattle.elements.proofs.element.Elements.new.Goals as goal

pub returns-clause-ok : goal.returns-clause-ok
returns-clause-ok c =
    let body = c.args.body.now in
    let some : is_some (elements_of body) ≡ true = search rules in
    IsElements-from_read body _ (λ place. omega (arith, c.type_inv.body place)) (listed_is body some)
