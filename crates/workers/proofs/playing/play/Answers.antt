use Rattle.std.proofs.Common.{◌≡◌, ℕ, List, Result, Ok, Err, length, map, sym, subst, ◌∙◌, vec_len}
use Rattle.std.specs.Prelude.{IfOk}
use Rattle.std.proofs.lemmas.List.{length-map}
use Rattle.events.specs.declared.line.Line.{Line}
use Rattle.play.specs.Givers.{AreGivers, histories_of}
use Rattle.play.specs.Played.{IsPlayOf}
use Rattle.play.specs.declared.finished.Finished.{Finished}
use Rattle.play.specs.declared.play_fault.PlayFault.{PlayFault}
use Rattle.workers.proofs.playing.play.Goals as goal

-- what follows from a fact of an end follows where there is one
follows : {P Q : Finished → Type 0} (result : Result Finished PlayFault) → ((end : Finished) → P end → Q end)
    → IfOk result P → IfOk result Q
follows (Ok end) from is = from end is
follows (Err fault) from is = tt

pub returns-clause-networks : goal.returns-clause-networks
returns-clause-networks g c = follows c.play_finished.result (λ end h. h.networks) c.play_finished.ensures.played

pub returns-clause-sections : goal.returns-clause-sections
returns-clause-sections g c = follows c.play_finished.result (λ end h. h.sections) c.play_finished.ensures.played

pub returns-clause-air : goal.returns-clause-air
returns-clause-air g c = follows c.play_finished.result (λ end h. h.air) c.play_finished.ensures.played

pub returns-clause-nothing_else : goal.returns-clause-nothing_else
returns-clause-nothing_else g c =
    follows c.play_finished.result (λ end h. h.nothing_else) c.play_finished.ensures.played

pub returns-clause-givers : goal.returns-clause-givers
returns-clause-givers g c =
    let count : length (map (λ s. s.items) c.as_slice.result.now) ≡ vec_len c.args.sources =
    length-map c.as_slice.result.now (λ s. s.items) ∙ (λ k. length (c.as_slice.ensures.value k)) ∙ sym c.args.sources.ok.0 in
    follows c.play_finished.result
    (λ end h. subst (λ (n : ℕ). AreGivers n (histories_of end.sections) end.givers) count h.givers)
    c.play_finished.ensures.played

pub returns-clause-played : goal.returns-clause-played
returns-clause-played g c =
    follows c.play_finished.result (λ end h. h.played)
    (subst (λ (lists : List (List Line)). IfOk c.play_finished.result (IsPlayOf c.args.config lists))
    (λ k. map (λ s. s.items) (c.as_slice.ensures.value k)) c.play_finished.ensures.played)
