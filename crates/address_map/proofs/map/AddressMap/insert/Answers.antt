use Rattle.std.proofs.Common.{◌≡◌, [], ◌∷◌, ◌++◌, None, is_some, ◌∙◌, sym, ap}
use Rattle.address_map.specs.Entries.{Entries, value_of}
use Rattle.address_map.proofs.ChangedEntries.{with_entry-unknown, set_value-is_with_entry}
use Rattle.address_map.proofs.FoundSlots.{set_value-unknown, on_err-from}
use Rattle.address_map.proofs.map.AddressMap.insert.Goals as goal

pub returns-in-Some-clause-entries : goal.returns-in-Some-clause-entries
returns-in-Some-clause-entries g c =
    c.in-Some.ensures.entries ∙ set_value-is_with_entry c.args.addr c.args.value c.args.self.now (ap is_some (sym c.in-Some.ensures.old))

pub add-requires : goal.add-requires
add-requires g c =
    let t : Entries _ = c.args.self.now in
    let none : value_of c.args.addr t ≡ None = sym c.in_default.ensures.old in
    ap (value_of c.args.addr) (c.in_default.ensures.entries ∙ set_value-unknown c.args.addr c.args.value t none) ∙ none

pub returns-in_err-add-clause-err : goal.returns-in_err-add-clause-err
returns-in_err-add-clause-err g c =
    let t : Entries _ = c.args.self.now in
    let none : value_of c.args.addr t ≡ None = sym c.in_default.ensures.old in
    on_err-from _ _ (c.in_err-add.ensures.err ∙ c.in_default.ensures.entries ∙ set_value-unknown c.args.addr c.args.value t none)

pub returns-clause-entries : goal.returns-clause-entries
returns-clause-entries g c =
    let t : Entries _ = c.args.self.now in
    let none : value_of c.args.addr t ≡ None = sym c.in_default.ensures.old in
    c.in_ok-add.ensures.ok ∙ ap (λ (s : Entries _). s ++ (c.args.addr, c.args.value) ∷ []) (c.in_default.ensures.entries ∙ set_value-unknown c.args.addr c.args.value t none)
    ∙ sym (with_entry-unknown c.args.addr c.args.value t none)
