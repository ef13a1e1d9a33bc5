use Rattle.std.proofs.Common.{◌∙◌, ap}
use Rattle.live_rules.specs.Moments.{bssids_at}
use Rattle.live.proofs.live_networks.LiveNetworks.answer_record.Goals as goal

pub returns : goal.returns
returns g c =
    rw (c.bssids.ensures ∙ ap bssids_at c.self.view_is) at (c.answer.ensures _ c.read_record-reading.ensures)
