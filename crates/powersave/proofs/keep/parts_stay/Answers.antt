use Rattle.powersave.proofs.Parts.{put_for_one, put_for_others, oldest_for_one, oldest_for_others, dropped_for_one, dropped_for_others, room_for_others}
use Rattle.powersave.proofs.Older.{older_for_one, older_for_others}
use Rattle.powersave.proofs.keep.parts_stay.Goals as goal

pub returns-clause-put : goal.returns-clause-put
returns-clause-put c = put_for_one

pub returns-clause-oldest : goal.returns-clause-oldest
returns-clause-oldest c = oldest_for_one

pub returns-clause-dropped : goal.returns-clause-dropped
returns-clause-dropped c = dropped_for_one

pub returns-clause-others_put : goal.returns-clause-others_put
returns-clause-others_put c = put_for_others

pub returns-clause-others_oldest : goal.returns-clause-others_oldest
returns-clause-others_oldest c = oldest_for_others

pub returns-clause-others_dropped : goal.returns-clause-others_dropped
returns-clause-others_dropped c = dropped_for_others

pub returns-clause-others_room : goal.returns-clause-others_room
returns-clause-others_room c = room_for_others

pub returns-clause-older : goal.returns-clause-older
returns-clause-older c = older_for_one

pub returns-clause-others_older : goal.returns-clause-others_older
returns-clause-others_older c = older_for_others
