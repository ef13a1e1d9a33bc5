use Rattle.network.proofs.AloneLaws.{LawsBelow, step-sound}
use Rattle.network.proofs.laws.stays_sound.Goals as goal

pub returns : goal.returns
returns c s events units n e accepted =
    let below : LawsBelow = record {
      others = c.others_stay.ensures;
      modes = c.modes_alone.ensures;
      sound = c.changes_stay_sound.ensures;
      lengths = c.lengths_after.ensures;
      kept = c.kept_for_dozing.ensures;
      came = c.came_in_turn.ensures;
      counts = c.kept_counts.ensures;
    } in
    step-sound below c.one_frame.ensures.reading c.one_ethernet_frame.ensures.reading s events units n e
    (c.checked_numbers.ensures.stations s.network accepted)
