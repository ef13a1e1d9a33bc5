use Rattle.std.proofs.Common.{rules, true, false, Some, sym, ap, ◌∙◌}
use Rattle.std.specs.Option.{option_copied}
use Rattle.toml.specs.View.{table_view}
use Rattle.config_text.proofs.ConfigurationReading.{network_of_table-read}
use Rattle.config_text.proofs.network.read_table.Goals as goal

pub returns : goal.returns
returns c =
    network_of_table-read c.args.earlier.now (table_view c.args.table.now) _ _ _ _ _ _ _ _ true
    (sym c.bssid_at.ensures ∙ c.in_ok-bssid.ensures.ok_part)
    (sym c.ssid_at.ensures ∙ ap option_copied c.in_ok-ssid.ensures.ok_part ∙ ap Some (sym c.in_ok-from_slice.ensures))
    (sym c.in_ok-rates_at.ensures ∙ c.in_ok-rates.ensures.ok_part)
    (sym c.number_at.ensures.value ∙ c.in_ok-dtim.ensures.ok_part)
    (sym c.number_at-2.ensures.value ∙ c.in_ok-max_stations.ensures.ok_part)
    (sym c.number_at-3.ensures.value ∙ c.in_ok-max_known.ensures.ok_part)
    (sym c.number_at-4.ensures.value ∙ c.in_ok-quota.ensures.ok_part)
    (sym c.number_at-5.ensures.value ∙ c.in_ok-max_events.ensures.ok_part)
    (search rules)

pub returns-then-not-stations_fit : goal.returns-then-not-stations_fit
returns-then-not-stations_fit c =
    rw c.at_network-then-not-stations_fit.ensures
    (network_of_table-read c.args.earlier.now (table_view c.args.table.now) _ _ _ _ _ _ _ _ false
    (sym c.bssid_at.ensures ∙ c.in_ok-bssid.ensures.ok_part)
    (sym c.ssid_at.ensures ∙ ap option_copied c.in_ok-ssid.ensures.ok_part)
    (sym c.in_ok-rates_at.ensures ∙ c.in_ok-rates.ensures.ok_part)
    (sym c.number_at.ensures.value ∙ c.in_ok-dtim.ensures.ok_part)
    (sym c.number_at-2.ensures.value ∙ c.in_ok-max_stations.ensures.ok_part)
    (sym c.number_at-3.ensures.value ∙ c.in_ok-max_known.ensures.ok_part)
    (sym c.number_at-4.ensures.value ∙ c.in_ok-quota.ensures.ok_part)
    (sym c.number_at-5.ensures.value ∙ c.in_ok-max_events.ensures.ok_part)
    (search rules))
