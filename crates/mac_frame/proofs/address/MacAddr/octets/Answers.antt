use Rattle.std.proofs.Common.{◌≡◌, ◌<◌, ℕ, length, slice_index, subst, rules}
use Rattle.mac_frame.specs.Address.{IsAddress}
use Rattle.mac_frame.proofs.address.MacAddr.octets.Goals as goal

pub returns-clause-address : goal.returns-clause-address
returns-clause-address c =
    let octets = c.self.inside.octets in
    let r = c.self.ranges in
    let six : length octets ≡ 6 = search rules in
    let each : (place : ℕ) → slice_index octets place < 256 = λ place. search (rules, r) in
    subst IsAddress c.self.view_is (record { six = six; octets = each })
