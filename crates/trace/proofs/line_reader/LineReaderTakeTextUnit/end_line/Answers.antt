use Rattle.std.proofs.Common.{◌≡◌, ◌∙◌, [], List, ℕ, ap, length, sym, eqb-true}
use Rattle.std.proofs.lemmas.List.{nil_from_length}
use Rattle.std.proofs.lemmas.Result.{err_from_is_err_and}
use Rattle.trace.specs.Pieces.{ReaderView}
use Rattle.trace.proofs.PieceSteps.{fault_at, fault_unbroken, remains_on, remains_unbroken}
use Rattle.trace.proofs.line_reader.LineReaderTakeTextUnit.end_line.Goals as goal

pub take_joined-requires-clause-unfinished : goal.take_joined-requires-clause-unfinished
take_joined-requires-clause-unfinished g c = c.requires.some.5.lacks

pub returns-in_err-take_unbroken : goal.returns-in_err-take_unbroken
returns-in_err-take_unbroken g c first was o piece later h =
    let len : c.self.inside.unfinished.len ≡ 0 =
    eqb-true c.self.inside.unfinished.len 0 (sym c.is_empty.ensures ∙ c.if-is_empty.true) in
    let none : length c.args.self.now.unfinished ≡ 0 =
    ap (λ (r : ReaderView). length r.unfinished) (sym c.self.view_is) ∙ sym c.self.inside.unfinished.ok.0 ∙ len in
    let p = err_from_is_err_and c.from_residual.result c.from_residual.ensures.1 in
    rw (p.1, p.2)
    (fault_unbroken first piece c.args.self.now c.args.octets.now later c.take_unbroken.new.self _ _ _
    c.in_err-take_unbroken.field-0.0 h c.requires.lacks (nil_from_length c.args.self.now.unfinished none)
    c.in_err-take_unbroken.ensures.takes c.in_err-take_unbroken.ensures.keeps)

pub returns-in_err-take_joined : goal.returns-in_err-take_joined
returns-in_err-take_joined g c first was o piece later h =
    let p = err_from_is_err_and c.from_residual-in_err-take_joined.result c.from_residual-in_err-take_joined.ensures.1 in
    rw (p.1, p.2)
    (fault_at first piece c.args.self.now c.args.octets.now later c.take_joined.new.self _ _ _
    c.in_err-take_joined.field-0.0 h c.requires.lacks c.in_err-take_joined.ensures.takes
    c.in_err-take_joined.ensures.keeps)

pub returns-in_ok-take_unbroken : goal.returns-in_ok-take_unbroken
returns-in_ok-take_unbroken g c first was o piece later h =
    let len : c.self.inside.unfinished.len ≡ 0 =
    eqb-true c.self.inside.unfinished.len 0 (sym c.is_empty.ensures ∙ c.if-is_empty.true) in
    let none : length c.args.self.now.unfinished ≡ 0 =
    ap (λ (r : ReaderView). length r.unfinished) (sym c.self.view_is) ∙ sym c.self.inside.unfinished.ok.0 ∙ len in
    remains_unbroken first piece c.args.self.now c.args.octets.now later c.take_unbroken.new.self c.go_on.new.self _ _ _ h
    c.requires.lacks (nil_from_length c.args.self.now.unfinished none) c.in_ok-take_unbroken.ensures.takes
    c.in_ok-take_unbroken.ensures.keeps c.go_on.ensures

pub returns-in_ok-take_joined : goal.returns-in_ok-take_joined
returns-in_ok-take_joined g c first was o piece later h =
    remains_on first piece c.args.self.now c.args.octets.now later c.take_joined.new.self c.go_on-else-is_empty.new.self _ _ _ h
    c.requires.lacks c.in_ok-take_joined.ensures.takes c.in_ok-take_joined.ensures.keeps c.go_on-else-is_empty.ensures
