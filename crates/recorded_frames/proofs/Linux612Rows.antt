-- What the definitions say of the frames of specs/Linux612.antt, in the order of the list.
use Rattle.std.proofs.Common.{refl}
use Rattle.std.specs.List.{AllByRecursion}
use Rattle.recorded_frames.specs.Heard.{IsReadSo}
use Rattle.recorded_frames.proofs.Rows.{read_on_literals, ◌also◌}
use Rattle.recorded_frames.proofs.LinuxRows.{plain_authentication_is_read, plain_association_request_is_read}
use Rattle.recorded_frames.proofs.LinuxRows.{plain_reassociation_request_is_read, plain_disassociation_is_read}
use Rattle.recorded_frames.proofs.LinuxRows.{plain_deauthentication_is_read, plain_data_to_all_is_read}
use Rattle.recorded_frames.proofs.LinuxRows.{plain_data_to_a_group_is_read, plain_null_that_wakes_is_read}
use Rattle.recorded_frames.proofs.LinuxRows.{plain_poll_is_read, fast_association_request_is_read}
use Rattle.recorded_frames.proofs.LinuxRows.{fast_qos_data_is_read, fast_qos_null_is_read, action_of_category_3_is_read}
use Rattle.recorded_frames.proofs.LinuxRows.{action_of_category_5_is_read, action_of_category_10_is_read}
use Rattle.recorded_frames.proofs.LinuxRows.{secret_association_request_is_read}
use Rattle.recorded_frames.specs.Linux612.{of_linux_6_12}

pub of_linux_6_12_are_read : AllByRecursion IsReadSo of_linux_6_12
unfolding read_on_literals
of_linux_6_12_are_read =
    (refl, refl, refl) also (refl, refl, refl) also (refl, refl, refl)
    also plain_authentication_is_read
    also plain_association_request_is_read
    also plain_reassociation_request_is_read
    also plain_disassociation_is_read
    also plain_deauthentication_is_read
    also plain_data_to_all_is_read
    also plain_data_to_a_group_is_read
    also (refl, refl, refl) also (refl, refl, refl)
    also plain_null_that_wakes_is_read
    also plain_poll_is_read
    also (refl, refl, refl) also (refl, refl, refl)
    also fast_association_request_is_read
    also fast_qos_data_is_read
    also fast_qos_null_is_read
    also action_of_category_3_is_read
    also (refl, refl, refl)
    also action_of_category_5_is_read
    also action_of_category_10_is_read
    also secret_association_request_is_read
    also (refl, refl, refl) also (refl, refl, refl) also (refl, refl, refl) also tt
