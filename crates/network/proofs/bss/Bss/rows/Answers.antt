use Rattle.std.proofs.Common.{◌≡◌, ℕ, ◌+◌, List, [], ◌∷◌, ◌++◌, Some, take, slice_get, sym, ap, ◌∙◌, arith}
use Rattle.std.proofs.lemmas.List.{take_more}
use Rattle.std.proofs.lemmas.Option.{slice_get_within, get_or_from_slice_get}
use Rattle.network.specs.Network.{table_of}
use Rattle.network.specs.BssView.{network_of}
use Rattle.events.specs.declared.section.StationRow.{StationRow}
use Rattle.network.proofs.bss.Bss.rows.Goals as goal

-- one more row
one_more : (t : List StationRow) (place : ℕ) (rows : List StationRow) (row : StationRow) → slice_get t place ≡ Some row → rows ≡ take place t → rows ++ row ∷ [] ≡ take (place + 1) t
one_more t place rows row here so_far =
    let more = take_more t place row (slice_get_within t place row here) in
    let last = get_or_from_slice_get t place row row here in
    ap (λ (rs : List StationRow). rs ++ row ∷ []) so_far ∙ sym (more ∙ ap (λ (r : StationRow). take place t ++ r ∷ []) last)

pub loop-place-preserved : goal.loop-place-preserved
loop-place-preserved c = record {
  rows = c.push_reserved.ensures.items ∙ one_more (table_of (network_of c.args.self.now)) c.loop-place.place c.loop-place.rows.items c.row.result c.row.ensures c.loop-place.invariant.rows;
  len = omega (arith, c.push_reserved.ensures.len, c.loop-place.invariant.len);
  room = omega (arith, c.push_reserved.ensures.capacity, c.loop-place.invariant.room);
}
