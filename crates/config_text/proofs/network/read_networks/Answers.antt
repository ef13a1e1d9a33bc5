use Rattle.std.proofs.Common.{sym, ◌∙◌, arith}
use Rattle.std.proofs.lemmas.Result.{err_from_is_err_and}
use Rattle.text_io.specs.Faults.{read_ending}
use Rattle.config_text.proofs.ConfigurationNetworks.{so_far-start, so_far-end, so_far-other, so_far-network, so_far-fault}
use Rattle.config_text.proofs.network.read_networks.Goals as goal
use Rattle.config_text.proofs.network.read_networks.Goals.{in-Some+in_ok-network+in_ok-push, in_default}

pub loop-value-init : goal.loop-value-init
loop-value-init c = rw c.new-networks.ensures.items (so_far-start _ _)

pub returns-in_err-network : goal.returns-in_err-network
returns-in_err-network c =
    let p = err_from_is_err_and c.from_residual.result c.from_residual.ensures.1 in
    let read = rw c.deref.ensures.value at c.in_err-network.ensures in
    rw (p.1, p.2, ← c.loop-value.invariant)
    (so_far-fault c.args.version c.args.values.now c.loop-value.value-index _ (omega arith) c.value-item.is _ _ (read_ending c.in_err-network.field-0.0) c.in-Some.ensures read)

pub loop-value-preserved : goal.loop-value-preserved
loop-value-preserved c =
    elim c.match-as_table.branch [
      | in-Some+in_ok-network+in_ok-push w ↦
          let read = rw w.deref.ensures.value at w.in_ok-network.ensures in
          rw (w.networks-is, w.in_ok-push.ensures.items)
          (sym (so_far-network c.args.version c.args.values.now c.loop-value.value-index _ (omega arith) c.value-item.is _ _ _ w.in-Some.ensures read) ∙ c.loop-value.invariant)
      | in_default w ↦
          rw w.networks-is
          (sym (so_far-other c.args.version c.args.values.now c.loop-value.value-index _ (omega arith) c.value-item.is _ w.in_default.ensures) ∙ c.loop-value.invariant)
    ]

pub returns : goal.returns
returns c =
    sym c.loop-value.invariant
    ∙ so_far-end c.args.version c.loop-value.networks.items c.args.values.now c.loop-value.value-index (omega arith)
