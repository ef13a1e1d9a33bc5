-- The end of the run, by what each of its parts leaves.
use Rattle.std.proofs.Common.{◌≡◌, ◌∙◌, ℕ, List, ap}
use Rattle.std.proofs.lemmas.Result.{err_from_is_err_and}
use Rattle.replay.specs.Joined.{joined_parts}
use Rattle.text_files.proofs.InputLemmas.{fault_ends, read_ends, well_ends}
use Rattle.text_files.proofs.input.run_input.Goals as goal

pub returns-in_err-input-clause-ends : goal.returns-in_err-input-clause-ends
returns-in_err-input-clause-ends g c =
    let p = err_from_is_err_and c.from_residual.result c.from_residual.ensures.1 in
    rw (p.1, p.2) (read_ends c.in_err-input.field-0.0 _ _ c.in_err-input.ensures.err)

pub returns-in_err-report_texts-clause-ends : goal.returns-in_err-report_texts-clause-ends
returns-in_err-report_texts-clause-ends g c =
    let p = err_from_is_err_and c.from_residual-in_err-report_texts.result c.from_residual-in_err-report_texts.ensures.1 in
    let input : List ℕ = c.in_ok-input.input.items in
    let before : c.split_joined.result.0.now ≡ (joined_parts input).0 =
    c.split_joined.ensures.before ∙ ap (λ t. (joined_parts t).0) c.as_slice.ensures.value in
    let after : c.split_joined.result.1.now ≡ (joined_parts input).1 =
    c.split_joined.ensures.after ∙ ap (λ t. (joined_parts t).1) c.as_slice.ensures.value in
    let ends = rw (before, after) at c.in_err-report_texts.ensures.ends in
    rw (p.1, p.2) (fault_ends c.in_err-report_texts.field-0.0 input _ _ _ c.in_ok-input.ensures.ok ends)

pub returns-clause-ends : goal.returns-clause-ends
returns-clause-ends g c =
    let input : List ℕ = c.in_ok-input.input.items in
    let before : c.split_joined.result.0.now ≡ (joined_parts input).0 =
    c.split_joined.ensures.before ∙ ap (λ t. (joined_parts t).0) c.as_slice.ensures.value in
    let after : c.split_joined.result.1.now ≡ (joined_parts input).1 =
    c.split_joined.ensures.after ∙ ap (λ t. (joined_parts t).1) c.as_slice.ensures.value in
    let ends = rw (before, after) at c.in_ok-report_texts.ensures.ends in
    well_ends tt input _ _ _ c.in_ok-input.ensures.ok ends

pub returns-clause-sections : goal.returns-clause-sections
returns-clause-sections g c =
    let input : List ℕ = c.in_ok-input.input.items in
    let before : c.split_joined.result.0.now ≡ (joined_parts input).0 =
    c.split_joined.ensures.before ∙ ap (λ t. (joined_parts t).0) c.as_slice.ensures.value in
    let after : c.split_joined.result.1.now ≡ (joined_parts input).1 =
    c.split_joined.ensures.after ∙ ap (λ t. (joined_parts t).1) c.as_slice.ensures.value in
    (input, c.in_ok-input.ensures.ok, rw (before, after) at c.in_ok-report_texts.ensures.sections)
