use Rattle.std.proofs.Common.{◌≡◌, List, ℕ, Result, Ok, Err, Some, None, map, ◌++◌, ◌∷◌, sym, ap, subst, ◌∙◌, length, get_or, inl, inr, MatchOption}
use Rattle.std.proofs.lemmas.Result.{err_from_is_err_and}
use Rattle.text_files.specs.Files.{IsReadOf, AreOpened, AreOpenedUntil, AreOpenedSoFar, IsOfFirstUnread, names_of}
use Rattle.text_files.specs.declared.fault.Fault.{Fault}
use Rattle.text_files.proofs.FileLemmas.{AreReadOf, read_by_place, all_read, none_opened, unread_before}
use Rattle.text_files.proofs.files.read_traces.Goals as goal

pub returns-in_err-texts : goal.returns-in_err-texts
returns-in_err-texts g c =
    let gives = g.S.File.OpenedFile.gives in
    let files = c.in_ok-opened.opened in
    let results = c.in_ok-read.read in
    let count : length files.items ≡ length results.items = sym files.ok.0 ∙ sym c.in_ok-read.ensures.len ∙ results.ok.0 in
    let read : AreReadOf gives files.items results.items =
    read_by_place gives files.items results.items count
    (λ i d e within.
    let given = (c.in_ok-read.ensures.each i e within).1 in
    subst (λ f. IsReadOf gives f (get_or results.items i e)) (sym (given.job_is d)) given.call.met) in
    let p = err_from_is_err_and c.from_residual-in_err-texts.result c.from_residual-in_err-texts.ensures.1 in
    rw (p.1, p.2) (elim c.in_err-texts.ensures as (λ _. IsOfFirstUnread g.S.FileSystem.opens c.args.system.now (names_of c.args.names.now) c.in_err-texts.field-0.0) [
      | inl memory ↦ subst (λ f. IsOfFirstUnread g.S.FileSystem.opens c.args.system.now (names_of c.args.names.now) f) (sym memory) tt
      | inr some ↦ unread_before gives g.S.FileSystem.opens c.args.system.now (names_of c.args.names.now) files.items c.in_ok-opened.missing c.open_each.new.system some.0 c.in_err-texts.field-0.0 some.1 c.in_ok-opened.ensures (subst (λ rs. AreReadOf gives files.items rs) some.2 read)
    ])

pub returns-in-Some : goal.returns-in-Some
returns-in-Some g c =
    let gives = g.S.File.OpenedFile.gives in
    let files = c.in_ok-opened.opened in
    let results = c.in_ok-read.read in
    let count : length files.items ≡ length results.items = sym files.ok.0 ∙ sym c.in_ok-read.ensures.len ∙ results.ok.0 in
    let read : AreReadOf gives files.items results.items =
    read_by_place gives files.items results.items count
    (λ i d e within.
    let given = (c.in_ok-read.ensures.each i e within).1 in
    subst (λ f. IsReadOf gives f (get_or results.items i e)) (sym (given.job_is d)) given.call.met) in
    none_opened gives g.S.FileSystem.opens c.args.system.now (names_of c.args.names.now) files.items c.in-Some.fault c.open_each.new.system c.in_ok-texts.texts.items
    (subst (λ m. AreOpenedSoFar gives g.S.FileSystem.opens c.args.system.now (names_of c.args.names.now) files.items m c.open_each.new.system) c.in-Some.is c.in_ok-opened.ensures)
    (subst (λ rs. AreReadOf gives files.items rs) c.in_ok-texts.ensures read)

pub returns-in-None : goal.returns-in-None
returns-in-None g c =
    let gives = g.S.File.OpenedFile.gives in
    let files = c.in_ok-opened.opened in
    let results = c.in_ok-read.read in
    let count : length files.items ≡ length results.items = sym files.ok.0 ∙ sym c.in_ok-read.ensures.len ∙ results.ok.0 in
    let read : AreReadOf gives files.items results.items =
    read_by_place gives files.items results.items count
    (λ i d e within.
    let given = (c.in_ok-read.ensures.each i e within).1 in
    subst (λ f. IsReadOf gives f (get_or results.items i e)) (sym (given.job_is d)) given.call.met) in
    all_read gives g.S.FileSystem.opens c.args.system.now (names_of c.args.names.now) files.items c.open_each.new.system c.in_ok-texts.texts.items
    (subst (λ m. AreOpenedSoFar gives g.S.FileSystem.opens c.args.system.now (names_of c.args.names.now) files.items m c.open_each.new.system) c.in-None.is c.in_ok-opened.ensures)
    (subst (λ rs. AreReadOf gives files.items rs) c.in_ok-texts.ensures read)
