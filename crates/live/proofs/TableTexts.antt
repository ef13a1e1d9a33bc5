-- A network's table is its section without frames.
use Rattle.std.proofs.Common.{◌≡◌, ℕ, List, [], ◌++◌, ap, ◌∙◌, append-nil}
use Rattle.std.specs.Prelude.{codes, flat_map}
use Rattle.network.specs.NetworkView.{NetworkState}
use Rattle.report.specs.Forms.{as_text, heading_in}
use Rattle.text_io.specs.Texts.{ended}
use Rattle.network_report.specs.NetworkText.{table_in, told_network}
use Rattle.live_rules.specs.AnswerText.{table_text, tables_text}

one-table : (n : NetworkState) → table_in as_text n ≡ table_text n
unfolding table_text
one-table n =
    let heading : List ℕ = heading_in as_text (told_network n [] []) in
    ap (λ (t : List ℕ). t ++ ended (codes "end")) (append-nil (heading ++ []) ∙ append-nil heading)

pub all-tables : (ns : List NetworkState) → flat_map (table_in as_text) ns ≡ tables_text ns
all-tables ns = λ i. flat_map (λ n. one-table n i) ns
