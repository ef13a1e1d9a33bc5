-- What the definitions say of the frames of specs/Linux.antt.
use Rattle.std.proofs.Common.{refl}
use Rattle.recorded_frames.specs.Heard.{IsReadSo}
use Rattle.recorded_frames.proofs.Rows.{read_on_literals}
use Rattle.recorded_frames.specs.Linux.{plain_authentication, plain_association_request, plain_reassociation_request}
use Rattle.recorded_frames.specs.Linux.{plain_disassociation, plain_deauthentication, plain_data_to_all}
use Rattle.recorded_frames.specs.Linux.{plain_data_to_a_group, plain_null_that_wakes, plain_poll}
use Rattle.recorded_frames.specs.Linux.{fast_association_request, fast_qos_data, fast_qos_null, action_of_category_3}
use Rattle.recorded_frames.specs.Linux.{action_of_category_5, action_of_category_10, secret_association_request}

pub plain_authentication_is_read : IsReadSo plain_authentication
unfolding read_on_literals
plain_authentication_is_read = (refl, refl, refl)

pub plain_association_request_is_read : IsReadSo plain_association_request
unfolding read_on_literals
plain_association_request_is_read = (refl, refl, refl)

pub plain_reassociation_request_is_read : IsReadSo plain_reassociation_request
unfolding read_on_literals
plain_reassociation_request_is_read = (refl, refl, refl)

pub plain_disassociation_is_read : IsReadSo plain_disassociation
unfolding read_on_literals
plain_disassociation_is_read = (refl, refl, refl)

pub plain_deauthentication_is_read : IsReadSo plain_deauthentication
unfolding read_on_literals
plain_deauthentication_is_read = (refl, refl, refl)

pub plain_data_to_all_is_read : IsReadSo plain_data_to_all
unfolding read_on_literals
plain_data_to_all_is_read = (refl, refl, refl)

pub plain_data_to_a_group_is_read : IsReadSo plain_data_to_a_group
unfolding read_on_literals
plain_data_to_a_group_is_read = (refl, refl, refl)

pub plain_null_that_wakes_is_read : IsReadSo plain_null_that_wakes
unfolding read_on_literals
plain_null_that_wakes_is_read = (refl, refl, refl)

pub plain_poll_is_read : IsReadSo plain_poll
unfolding read_on_literals
plain_poll_is_read = (refl, refl, refl)

pub fast_association_request_is_read : IsReadSo fast_association_request
unfolding read_on_literals
fast_association_request_is_read = (refl, refl, refl)

pub fast_qos_data_is_read : IsReadSo fast_qos_data
unfolding read_on_literals
fast_qos_data_is_read = (refl, refl, refl)

pub fast_qos_null_is_read : IsReadSo fast_qos_null
unfolding read_on_literals
fast_qos_null_is_read = (refl, refl, refl)

pub action_of_category_3_is_read : IsReadSo action_of_category_3
unfolding read_on_literals
action_of_category_3_is_read = (refl, refl, refl)

pub action_of_category_5_is_read : IsReadSo action_of_category_5
unfolding read_on_literals
action_of_category_5_is_read = (refl, refl, refl)

pub action_of_category_10_is_read : IsReadSo action_of_category_10
unfolding read_on_literals
action_of_category_10_is_read = (refl, refl, refl)

pub secret_association_request_is_read : IsReadSo secret_association_request
unfolding read_on_literals
secret_association_request_is_read = (refl, refl, refl)
