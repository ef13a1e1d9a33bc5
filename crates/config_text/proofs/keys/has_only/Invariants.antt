use Rattle.std.proofs.Common.{◌≡◌, map}
use Rattle.std.specs.List.{list_all}
use Rattle.toml.specs.View.{table_view}
use Rattle.config_text.specs.ConfigurationText.{has_only}
use Rattle.config_text.proofs.ConfigurationReading.{is_among}
use Rattle.config_text.proofs.keys.has_only.Given as goal

abbrev pub invariant-loop-key : goal.invariant-loop-key
invariant-loop-key l =
    list_all (is_among (map (λ listed. listed.now) l.keys)) l.key-iterator ≡ has_only
    (map (λ listed. listed.now) l.keys) (table_view l.table)
