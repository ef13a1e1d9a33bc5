-- What is opened to compute the configuration of a text.
use Rattle.std.specs.Prelude.{⊤}
use Rattle.std.specs.Str.{chars, is_utf8}
use Rattle.toml.proofs.OnLiterals.{toml_on_literals}
use Rattle.hex.proofs.OnLiterals.{hex_on_literals}
use Rattle.config_text.specs.ConfigurationText.{number_at, text_at, array_at, truth_at, version_at, bssid_at, ssid_at, rates_at, network_of_table, with_options, is_listed, networks_at, radio_of, document_of, configuration_of}

unfoldable pub configuration_on_literals : ⊤
unfolding toml_on_literals hex_on_literals chars is_utf8 number_at text_at array_at truth_at version_at bssid_at
    ssid_at rates_at network_of_table with_options is_listed networks_at radio_of document_of configuration_of
configuration_on_literals = tt
