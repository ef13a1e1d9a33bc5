use Rattle.stations.specs.Stations.{IsAllowed}
use Rattle.stations.specs.declared.table.Change.{Change}
use Rattle.stations.proofs.table.Stations.change.Goals as goal
use Rattle.std.proofs.Common.{subst}

pub associate-requires-clause-known : goal.associate-requires-clause-known
associate-requires-clause-known c = (subst (λ (k : Change). IsAllowed c.args.self.now.most k c.args.self.now.table) c.in-Associate.is c.requires).0

pub associate-requires-clause-room : goal.associate-requires-clause-room
associate-requires-clause-room c = (subst (λ (k : Change). IsAllowed c.args.self.now.most k c.args.self.now.table) c.in-Associate.is c.requires).1
