use Rattle.std.proofs.Common.{refl, arith}
use Rattle.network.proofs.AloneLaws.{empty-sound}
use Rattle.network.proofs.network.Network.new.Goals as goal

pub new-requires-clause-some : goal.new-requires-clause-some
new-requires-clause-some c = c.checked_numbers.ensures.some_stations c.args.setting.network c.requires.network

pub new-requires-clause-few : goal.new-requires-clause-few
new-requires-clause-few c = c.checked_numbers.ensures.stations c.args.setting.network c.requires.network

pub invariant_of-result : goal.invariant_of-result
invariant_of-result c = rw (c.new.ensures, c.new-2.ensures) (record {
  accepted = c.requires.network;
  sound = empty-sound c.args.setting;
  most = refl;
  quota = refl;
  puts = omega arith;
  clock = omega arith;
})
