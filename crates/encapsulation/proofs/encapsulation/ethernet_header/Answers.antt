use Rattle.std.proofs.Common.{◌≡◌, ◌++◌, ℕ, List, length, map, slice_index, refl, sym, ap, ◌∙◌, rules}
use Rattle.std.specs.List.{range_with_len}
use Rattle.std.proofs.lemmas.List.FromFn.{fill_by_all}
use Rattle.encapsulation.proofs.encapsulation.ethernet_header.Goals as goal

-- the octets of a list, one by one
abbrev cells : List ℕ → ℕ → List ℕ
cells s n = map (slice_index s) (range_with_len 0 n)

by_octets : (s : List ℕ) → length s ≡ 6 → s ≡ cells s 6
by_octets s len = fill_by_all (slice_index s) s 6 0 len (λ k _. refl)

pub returns : goal.returns
returns c =
    let to_len : length c.octets.result ≡ 6 = search rules in
    let source_len : length c.octets-2.result ≡ 6 = search rules in
    let to_is : cells c.octets.result 6 ≡ c.args.to =
    sym (by_octets c.octets.result to_len) ∙ c.octets.ensures.value in
    let source_is : cells c.octets-2.result 6 ≡ c.args.source =
    sym (by_octets c.octets-2.result source_len) ∙ c.octets-2.ensures.value in
    let number_is = ap (λ bytes. cells bytes 2) c.to_be_bytes.ensures in
    λ i. to_is i ++ source_is i ++ number_is i
