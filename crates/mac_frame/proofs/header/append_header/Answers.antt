use Rattle.std.proofs.Common.{◌≡◌, ◌++◌, refl, subst, OnOk}
use Rattle.mac_frame.specs.FrameControl.{octets_of}
use Rattle.mac_frame.specs.Header.{sequence_control, header}
use Rattle.mac_frame.proofs.Written.{written_is}
use Rattle.mac_frame.proofs.header.append_header.Goals as goal

pub returns-clause-ok : goal.returns-clause-ok
returns-clause-ok c =
    let a = c.args in
    let whole : c.put-5.new.header ≡ header a.control a.address_1 a.address_2 a.address_3 a.seq =
    written_is (octets_of a.control) a.address_1 a.address_2 a.address_3 (sequence_control a.seq) _ _ _ _ _ _
    refl c.octets.ensures.address.six c.octets-2.ensures.address.six c.octets-3.ensures.address.six refl
    refl (rw c.to_octets.ensures.octets at c.put.ensures) (rw c.octets.ensures.value at c.put-2.ensures)
    (rw c.octets-2.ensures.value at c.put-3.ensures)
    (rw c.octets-3.ensures.value at c.put-4.ensures) (rw c.to_le_bytes.ensures at c.put-5.ensures) in
    subst (λ h. OnOk c.append.result (c.append.new.self ≡ a.out.now ++ h)) whole c.append.ensures.ok
