use Rattle.std.proofs.Common.{◌≡◌, ℕ, ◌+◌, List, [], ◌∷◌, ◌++◌, Some, take, slice_get, sym, ap, ◌∙◌}
use Rattle.std.proofs.lemmas.List.{take_more}
use Rattle.std.proofs.lemmas.Option.{slice_get_within, get_or_from_slice_get}
use Rattle.network.specs.Network.{table_of}
use Rattle.events.specs.declared.section.StationRow.{StationRow}
use Rattle.play.proofs.ending.rows_of.Goals as goal

-- one more row
one_more : (t : List StationRow) (place : ℕ) (rows : List StationRow) (row : StationRow) → slice_get t place ≡ Some row
    → rows ≡ take place t → rows ++ row ∷ [] ≡ take (place + 1) t
one_more t place rows row here so_far =
    let more = take_more t place row (slice_get_within t place row here) in
    let last = get_or_from_slice_get t place row row here in
    ap (λ (rs : List StationRow). rs ++ row ∷ []) so_far
    ∙ sym (more ∙ ap (λ (r : StationRow). take place t ++ r ∷ []) last)

pub loop-place-preserved : goal.loop-place-preserved
loop-place-preserved c =
    c.in_ok-push.ensures.items
    ∙ one_more (table_of c.args.network.now.network) c.loop-place.place c.loop-place.rows.items c.row.result c.row.ensures
    c.loop-place.invariant
