use Rattle.std.proofs.Common.{◌≡◌, drop, map}
use Rattle.std.specs.List.{list_all}
use Rattle.toml.specs.View.{items_view}
use Rattle.config_text.specs.ConfigurationText.{has_only, tables_in}
use Rattle.config_text.proofs.keys.have_only.Given as goal

abbrev pub invariant-loop-value : goal.invariant-loop-value
invariant-loop-value l =
    list_all (has_only (map (λ listed. listed.now) l.keys)) (tables_in (items_view (drop l.value-index l.values)))
    ≡ list_all (has_only (map (λ listed. listed.now) l.keys)) (tables_in (items_view l.values))
