use Rattle.std.proofs.Common.{◌≡◌, ◌≤◌, length, Ok, Err, MatchResult, sym, ◌∙◌, subst, rules}
use Rattle.mac_frame.specs.Frame.{shown}
use Rattle.mac_frame.specs.declared.frame.Unread.TheVariants.{Short, Version, Kind}
use Rattle.mac_frame.proofs.Frames.{none_at_fault, read_as_data, read_as_poll, reads_a_frame, reads_each_frame}
use Rattle.mac_frame.proofs.frame.decode.Goals as goal

-- ---- what no kind is looked at for

pub returns-then-ne-clause-fault : goal.returns-then-ne-clause-fault
returns-then-ne-clause-fault c = search rules

pub returns-then-ne-clause-only : goal.returns-then-ne-clause-only
returns-then-ne-clause-only c f w = none_at_fault c.args.bss c.args.frame.now f Short (returns-then-ne-clause-fault c) w

pub returns-then-control-ne0-clause-fault : goal.returns-then-control-ne0-clause-fault
returns-then-control-ne0-clause-fault c = search rules

pub returns-then-control-ne0-clause-only : goal.returns-then-control-ne0-clause-only
returns-then-control-ne0-clause-only c f w =
    none_at_fault c.args.bss c.args.frame.now f Version (returns-then-control-ne0-clause-fault c) w

-- ---- each kind, and none

pub returns-then-is_management_read-clause-fault : goal.returns-then-is_management_read-clause-fault
returns-then-is_management_read-clause-fault c = search rules

pub returns-then-is_management_read-clause-frame : goal.returns-then-is_management_read-clause-frame
returns-then-is_management_read-clause-frame c =
    reads_a_frame c.args.bss c.args.frame.now _ (returns-then-is_management_read-clause-fault c)

pub returns-then-is_management_read-clause-only : goal.returns-then-is_management_read-clause-only
returns-then-is_management_read-clause-only c =
    reads_each_frame c.args.bss c.args.frame.now _ (returns-then-is_management_read-clause-fault c)

pub returns-then-is_data_read-clause-fault : goal.returns-then-is_data_read-clause-fault
returns-then-is_data_read-clause-fault c =
    let read = sym c.is_data_read.ensures ∙ c.if-is_data_read.true in
    let long : 24 ≤ length c.args.frame.now = search rules in
    let same =
    read_as_data c.args.bss c.args.frame.now c.control_at-control.result c.control_at-control.ensures long
    c.if-control-ne0.false read in
    subst (λ r. MatchResult c.data_of.result (λ rx. r ≡ Ok (shown rx)) (λ fault. r ≡ Err fault))
    (sym same) c.data_of.ensures

pub returns-then-is_data_read-clause-frame : goal.returns-then-is_data_read-clause-frame
returns-then-is_data_read-clause-frame c =
    reads_a_frame c.args.bss c.args.frame.now _ (returns-then-is_data_read-clause-fault c)

pub returns-then-is_data_read-clause-only : goal.returns-then-is_data_read-clause-only
returns-then-is_data_read-clause-only c =
    reads_each_frame c.args.bss c.args.frame.now _ (returns-then-is_data_read-clause-fault c)

pub returns-then-is_ps_poll_read-clause-fault : goal.returns-then-is_ps_poll_read-clause-fault
returns-then-is_ps_poll_read-clause-fault c =
    let poll = sym c.is_ps_poll_read.ensures ∙ c.if-is_ps_poll_read.true in
    let same =
    read_as_poll c.args.bss c.args.frame.now c.control_at-control.result c.control_at-control.ensures
    c.if-frame-lt-CONTROL_HEADER_LEN.false c.if-control-ne0.false poll in
    subst (λ r. MatchResult c.ps_poll_of.result (λ rx. r ≡ Ok (shown rx)) (λ fault. r ≡ Err fault))
    (sym same) c.ps_poll_of.ensures

pub returns-then-is_ps_poll_read-clause-frame : goal.returns-then-is_ps_poll_read-clause-frame
returns-then-is_ps_poll_read-clause-frame c =
    reads_a_frame c.args.bss c.args.frame.now _ (returns-then-is_ps_poll_read-clause-fault c)

pub returns-then-is_ps_poll_read-clause-only : goal.returns-then-is_ps_poll_read-clause-only
returns-then-is_ps_poll_read-clause-only c =
    reads_each_frame c.args.bss c.args.frame.now _ (returns-then-is_ps_poll_read-clause-fault c)

pub returns-else-is_ps_poll_read-clause-fault : goal.returns-else-is_ps_poll_read-clause-fault
returns-else-is_ps_poll_read-clause-fault c = search rules

pub returns-else-is_ps_poll_read-clause-only : goal.returns-else-is_ps_poll_read-clause-only
returns-else-is_ps_poll_read-clause-only c f w =
    none_at_fault c.args.bss c.args.frame.now f Kind (returns-else-is_ps_poll_read-clause-fault c) w
