use Rattle.std.proofs.Common.{length, ap}
use Rattle.versions.specs.FirstVersion as first
use Rattle.versions.specs.FirstVersion.{FirstNetwork}
use Rattle.versions.proofs.FirstVersions.{first-version}
use Rattle.versions.proofs.first_version.Goals as goal

pub returns-clause-air : goal.returns-clause-air
returns-clause-air c s es relays keeps = ap (λ (n : FirstNetwork). n.air) (first-version s relays (λ n. c.nothing_ages.ensures s n keeps) es)

pub returns-clause-wire : goal.returns-clause-wire
returns-clause-wire c s es relays keeps = ap (λ (n : FirstNetwork). n.wire) (first-version s relays (λ n. c.nothing_ages.ensures s n keeps) es)

pub returns-clause-table : goal.returns-clause-table
returns-clause-table c s es relays keeps = ap first.table_of (first-version s relays (λ n. c.nothing_ages.ensures s n keeps) es)

pub returns-clause-counts : goal.returns-clause-counts
returns-clause-counts c s es relays keeps = ap (first.counts_of (length es)) (first-version s relays (λ n. c.nothing_ages.ensures s n keeps) es)
