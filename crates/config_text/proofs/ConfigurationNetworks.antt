-- The networks of an array, as a loop over its values reads them.
use Rattle.std.proofs.Common.{◌≡◌, ℕ, ◌<◌, ◌+◌, length, get_or, drop, List, [], ◌∷◌, ◌++◌, append_assoc, Some, None, Result, Ok, Err, refl, sym, ap, ◌∙◌, ◌≤◌}
use Rattle.std.proofs.lemmas.List.{append-nil, at_drop_all}
use Rattle.std.proofs.lemmas.Option.{same_Some, none-some}
use Rattle.toml.specs.Data.{Data, Items, item, Members, table, as_table}
use Rattle.toml.specs.View.{view, items_view}
use Rattle.toml.specs.declared.value.Value.{Value}
use Rattle.toml.proofs.Views.{items_view-drop}
use Rattle.ap_config.specs.declared.config.NetConfig.{NetConfig}
use Rattle.ap_config.specs.declared.config.ConfigFault.{ConfigFault}
use Rattle.text_io.specs.Endings.{Ending, Well, Refused, ReadFailed, WriteFailed, OutOfMemory, IsFaultOf}
use Rattle.text_io.specs.Faults.{◌>>=◌}
use Rattle.config_text.specs.ConfigurationText.{tables_in, network_of, networks_of}
use Rattle.config_text.specs.declared.version.Version.{Version}

-- the networks so far, and those that are still to be read after them
unfoldable pub so_far : Version → List NetConfig → Items → Result (List NetConfig) ConfigFault
so_far version done ds = networks_of version done (tables_in ds) >>= (λ more. Ok (done ++ more))

-- the first item is a table, or it is left out
tables_in-table : (d : Data) (ds : Items) (ms : Members) → as_table d ≡ Some ms
    → tables_in (item d ds) ≡ ms ∷ tables_in ds
tables_in-table (table ms) ds other is = ap (λ t. t ∷ tables_in ds) (same_Some _ _ is)
tables_in-table d ds other is = absurd (none-some _ is)

tables_in-other : (d : Data) (ds : Items) → as_table d ≡ None → tables_in (item d ds) ≡ tables_in ds
tables_in-other (table ms) ds is = absurd (none-some _ (sym is))
tables_in-other d ds is = refl

-- one more network, before the others or after those so far
moved : (done : List NetConfig) (network : NetConfig) (read : Result (List NetConfig) ConfigFault)
    → ((read >>= (λ more. Ok (network ∷ more))) >>= (λ more. Ok (done ++ more)))
    ≡ (read >>= (λ more. Ok ((done ++ network ∷ []) ++ more)))
moved done network (Ok more) = ap Ok (sym (append_assoc done (network ∷ []) more))
moved done network (Err fault) = refl

pub so_far-start : (version : Version) (ds : Items) → so_far version [] ds ≡ networks_of version [] (tables_in ds)
unfolding so_far
so_far-start version ds =
    elim (networks_of version [] (tables_in ds)) as (λ read. (read >>= (λ more. Ok ([] ++ more))) ≡ read)
    [ Ok more ↦ refl | Err fault ↦ refl ]

-- at the end there are those so far
pub so_far-end : (version : Version) (done : List NetConfig) (vs : List Value) (i : ℕ) → length vs ≤ i
    → so_far version done (items_view (drop i vs)) ≡ Ok done
unfolding so_far
so_far-end version done vs i past = at_drop_all (λ xs. so_far version done (items_view xs)) vs i past ∙ ap Ok (append-nil done)

-- one value of the array
module _ (version : Version) (vs : List Value) (i : ℕ) (v : Value) (within : i < length vs) (here : v ≡ get_or vs i v) where
  from_here : items_view (drop i vs) ≡ item (view v) (items_view (drop (i + 1) vs))
  from_here = items_view-drop vs i v within ∙ ap (λ x. item (view x) (items_view (drop (i + 1) vs))) (sym here)

  -- no table
  pub so_far-other : (done : List NetConfig) → None ≡ as_table (view v)
      → so_far version done (items_view (drop i vs)) ≡ so_far version done (items_view (drop (i + 1) vs))
  unfolding so_far
  so_far-other done is = rw (from_here, tables_in-other _ _ (sym is)) refl

  -- the table of a network
  pub so_far-network : (done : List NetConfig) (ms : Members) (network : NetConfig) → Some ms ≡ as_table (view v)
      → network_of version done ms ≡ Ok network
      → so_far version done (items_view (drop i vs)) ≡ so_far version (done ++ network ∷ []) (items_view (drop (i + 1) vs))
  unfolding so_far
  so_far-network done ms network is read = rw (from_here, tables_in-table _ _ ms (sym is), read) (moved done network _)

  -- a table with a fault
  pub so_far-fault : (done : List NetConfig) (ms : Members) (end : Ending ConfigFault) → Some ms ≡ as_table (view v)
      → IsFaultOf (network_of version done ms) end → IsFaultOf (so_far version done (items_view (drop i vs))) end
  unfolding so_far
  so_far-fault done ms (Refused fault) is read = rw (from_here, tables_in-table _ _ ms (sym is), read) refl
  so_far-fault done ms Well is read = tt
  so_far-fault done ms ReadFailed is read = tt
  so_far-fault done ms WriteFailed is read = tt
  so_far-fault done ms OutOfMemory is read = tt
