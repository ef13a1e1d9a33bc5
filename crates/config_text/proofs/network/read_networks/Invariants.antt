use Rattle.std.proofs.Common.{◌≡◌, [], drop}
use Rattle.toml.specs.View.{items_view}
use Rattle.config_text.specs.ConfigurationText.{networks_of, tables_in}
use Rattle.config_text.proofs.ConfigurationNetworks.{so_far}
use Rattle.config_text.proofs.network.read_networks.Given as goal

abbrev pub invariant-loop-value : goal.invariant-loop-value
invariant-loop-value l =
    so_far l.version l.networks.items (items_view (drop l.value-index l.values)) ≡ networks_of l.version []
    (tables_in (items_view l.values))
