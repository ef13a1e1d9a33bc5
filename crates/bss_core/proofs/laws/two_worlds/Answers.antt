use Rattle.bss_core.proofs.WorldLaws.{sections-alike, left-alike}
use Rattle.bss_core.proofs.laws.two_worlds.Goals as goal

pub returns-clause-sections : goal.returns-clause-sections
returns-clause-sections c = sections-alike

pub returns-clause-left : goal.returns-clause-left
returns-clause-left c =
    left-alike (record { append = c.own_frames.ensures.append; same = c.own_frames.ensures.same; other = c.own_frames.ensures.other; sent = c.sent_frames.ensures })
