-- The words and the address, then the name.
use Rattle.std.proofs.Common.{◌≡◌, ℕ, List, ◌++◌, ap, refl}
use Rattle.std.specs.Prelude.{codes}
use Rattle.hex.specs.Hex.{encode_lower}
use Rattle.mac_frame.specs.Address.{address_text}
use Rattle.ap_config.specs.declared.config.NetConfig.{NetConfig}
use Rattle.report.specs.Report.{network_line}
use Rattle.text_io.specs.BufferLaws.{Puts-same}
use Rattle.text_io.specs.Texts.{ended}
use Rattle.report.proofs.lines.put_network_line_in.Goals as goal

in_parts : (config : NetConfig) (addr name : List ℕ) → addr ≡ address_text config.bssid → name ≡ config.ssid
    → ended ((codes "network " ++ addr ++ codes " ssid ") ++ encode_lower name) ≡ network_line config
unfolding network_line
in_parts config addr name a n = rw (a, n) refl

pub returns : goal.returns
returns g c =
    Puts-same (ap g.F.LineForm.written (in_parts c.args.config.now _ _ c.address_text-bssid.ensures c.as_slice.ensures))
    c.put_digits_line.ensures
