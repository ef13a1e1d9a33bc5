-- What a play of several traces leaves, by how it ended.
use Rattle.std.proofs.Common.{◌≡◌, ℕ, suc, ◌+◌, ◌++◌, ◌∷◌, [], true, List, Option, Some, Ok, Err, length, map, refl, sym, ap, ◌∙◌, subst, arith}
use Rattle.std.specs.Prelude.{slice_get, flat_map}
use Rattle.std.specs.List.{enumerate_from}
use Rattle.std.proofs.lemmas.Slice.Zip.{AllZip-long}
use Rattle.std.proofs.KnownBytes.{Keeps-refl}
use Rattle.std.specs.Io.KnownBytes.{Appends}
use Rattle.ap_config.specs.declared.config.RadioConfig.{RadioConfig}
use Rattle.ap_config.specs.declared.config.ConfigFault.{ConfigFault}
use Rattle.ap_config.specs.declared.setting.Setting.{Setting}
use Rattle.ap_config.specs.Places.{setting_at}
use Rattle.networks.specs.WithFrames.{after_events}
use Rattle.networks.specs.declared.network_with_frames.NetworkWithFrames.{NetworkWithFrames}
use Rattle.events.specs.declared.event.Event.{Event}
use Rattle.events.specs.declared.section.Section.{Section}
use Rattle.network_report.specs.NetworkText.{network_text}
use Rattle.network.specs.Section.{section_of}
use Rattle.events.specs.declared.line.Line.{Line}
use Rattle.config_text.specs.ConfigurationText.{configuration_of}
use Rattle.text_io.specs.Endings.{IsFaultOf, Ends, ending_of}
use Rattle.text_io.specs.Faults.{read_as, read_ending, report_as}
use Rattle.report.specs.Report.{report_text, section_text}
use Rattle.text_io.specs.Sinks.{report_ending}
use Rattle.trace.specs.TraceText.{lines_of}
use Rattle.trace.specs.declared.fault.TraceFault.{TraceFault}
use Rattle.text_io.specs.declared.read_fault.ReadFault.{ReadFault}
use Rattle.text_io.specs.declared.read_fault.ReadFault.TheVariants as reads
use Rattle.text_io.specs.declared.report_fault.ReportFault.{ReportFault}
use Rattle.text_io.specs.declared.report_fault.ReportFault.TheVariants as reports
use Rattle.play.specs.Faults.{callers_fit}
use Rattle.play.specs.Plays.{networks_after, IsPlayWithFrames}
use Rattle.play.specs.Played.{IsPlayOf}
use Rattle.play.specs.declared.finish_fault.FinishFault.{FinishFault}
use Rattle.play.specs.declared.finish_fault.FinishFault.TheVariants.{Uncovered}
use Rattle.play.specs.declared.finished.Finished.{Finished}
use Rattle.play.specs.declared.play_fault.PlayFault.{PlayFault}
use Rattle.play.specs.declared.play_fault.PlayFault.TheVariants as plays
use Rattle.play_text.specs.Playing.{AreLines, IsTracesFault, ArePlayable, EndsPlay, in_trace, of_play}
use Rattle.play_text.specs.declared.fault.PlayTextFault.{PlayTextFault}
use Rattle.play_text.specs.declared.fault.PlayTextFault.TheVariants.{Config, Sources, Trace, NoThread, NoMemory, Finish, Write}

-- ---- the traces

-- the trace after those that were read is at fault
pub fault_met : (c : RadioConfig) (traces before : List (List ℕ)) (text : List ℕ) (after : List (List ℕ))
    (sources : List (List Line)) (n : ℕ) (e : ReadFault TraceFault) → traces ≡ before ++ text ∷ after
    → AreLines c before sources → n ≡ length sources → IsFaultOf (lines_of c text) (read_ending e)
    → IsTracesFault c traces (in_trace n e)
fault_met c traces before text after sources n (reads.At fault) parts read count is = record {
  before = before;
  text = text;
  after = after;
  in_order = parts;
  place = count ∙ AllZip-long (λ text lines. lines_of c text ≡ Ok lines) before sources read;
  sound = (sources, read);
  found = is;
}
fault_met c traces before text after sources n reads.NoMemory parts read count is = tt

-- ---- a play

-- a fault of the configuration
pub config_plays : (e : ReadFault ConfigFault) (ct : List ℕ) (traces : List (List ℕ)) (old : Option (List ℕ))
    → IsFaultOf (configuration_of ct) (read_ending e) → EndsPlay (Err (read_as Config NoMemory e)) ct traces old old
config_plays (reads.At fault) ct traces old h =
    record { answer = Err (Config fault); allowed = h; taken = (refl, Keeps-refl old) }
config_plays reads.NoMemory ct traces old h =
    record { answer = Err NoMemory; allowed = tt; taken = Keeps-refl old }

-- a fault of a trace
pub traces_play : (e : PlayTextFault) (c : RadioConfig) (ct : List ℕ) (traces : List (List ℕ)) (old : Option (List ℕ))
    → configuration_of ct ≡ Ok c → callers_fit (length traces) ≡ true → IsTracesFault c traces e
    → EndsPlay (Err e) ct traces old old
traces_play (Config fault) c ct traces old read fit is = absurd is
traces_play Sources c ct traces old read fit is = absurd is
traces_play (Trace source fault) c ct traces old read fit is =
    record { answer = Err (Trace source fault); allowed = (fit, (c, read, is)); taken = (refl, Keeps-refl old) }
traces_play NoThread c ct traces old read fit is = absurd is
traces_play NoMemory c ct traces old read fit is =
    record { answer = Err NoMemory; allowed = tt; taken = Keeps-refl old }
traces_play (Finish fault) c ct traces old read fit is = absurd is
traces_play Write c ct traces old read fit is = absurd is

-- the access point could not be played
pub play_fails : (e : PlayFault) (c : RadioConfig) (ct : List ℕ) (traces : List (List ℕ)) (sources : List (List Line))
    (old : Option (List ℕ)) → ArePlayable ct traces c sources
    → ((fault : ConfigFault) → e ≡ plays.Config fault → ⊥) → (e ≡ plays.Sources → ⊥)
    → ((fault : FinishFault) → e ≡ plays.Finish fault → fault ≡ Uncovered)
    → EndsPlay (Err (of_play e)) ct traces old old
play_fails (plays.Config fault) c ct traces sources old able config count finish = absurd (config fault refl)
play_fails plays.Sources c ct traces sources old able config count finish = absurd (count refl)
play_fails plays.NoThread c ct traces sources old able config count finish =
    record { answer = Err NoThread; allowed = (c, sources, able); taken = (refl, Keeps-refl old) }
play_fails plays.NoMemory c ct traces sources old able config count finish =
    record { answer = Err NoMemory; allowed = tt; taken = Keeps-refl old }
play_fails (plays.Finish fault) c ct traces sources old able config count finish =
    record { answer = Err (Finish fault); allowed = ((c, sources, able), finish fault refl); taken = (refl, Keeps-refl old) }

-- the report was cut short
pub report_plays : (e : ReportFault) (c : RadioConfig) (ct : List ℕ) (traces : List (List ℕ)) (sources : List (List Line))
    (end : Finished) (text : List ℕ) (old new : Option (List ℕ)) → ArePlayable ct traces c sources
    → IsPlayOf c sources end → text ≡ report_text end.sections
    → Ends (ending_of {A = Unit} report_ending (Err e)) (Ok text) old new
    → EndsPlay (Err (report_as Write NoMemory e)) ct traces old new
report_plays reports.Write c ct traces sources end text old new able play is part = record {
  answer = Ok text;
  allowed = record { c = c; sources = sources; playable = able; end = end; play = play; text = is };
  taken = part;
}
report_plays reports.NoMemory c ct traces sources end text old new able play is part = record {
  answer = Ok text;
  allowed = record { c = c; sources = sources; playable = able; end = end; play = play; text = is };
  taken = part;
}

-- the report was written
pub whole_plays : (c : RadioConfig) (ct : List ℕ) (traces : List (List ℕ)) (sources : List (List Line)) (end : Finished)
    (text : List ℕ) (old new : Option (List ℕ)) → ArePlayable ct traces c sources → IsPlayOf c sources end
    → text ≡ report_text end.sections → Appends old new text → EndsPlay (Ok tt) ct traces old new
whole_plays c ct traces sources end text old new able play is written = record {
  answer = Ok text;
  allowed = record { c = c; sources = sources; playable = able; end = end; play = play; text = is };
  taken = written;
}

-- ---- the report of networks that keep no history

-- it is that of their sections, the first of which is that of the network at a place
report-from : (c : RadioConfig) (first : ℕ) (sections : List Section)
    → ((s : Setting) (es : List Event) → network_text (after_events s es) ≡ section_text (section_of s es))
    → ((k place : ℕ) (section : Section) → place ≡ first + k → slice_get sections k ≡ Some section
    → section ≡ section_of (setting_at c place) section.events)
    → flat_map network_text (map (λ s. after_events (setting_at c s.0) s.1.events) (enumerate_from first sections))
    ≡ flat_map section_text sections
report-from c first [] one each = refl
report-from c first (section ∷ sections) one each =
    ap
    (λ (t : List ℕ).
    t ++ flat_map network_text (map (λ s. after_events (setting_at c s.0) s.1.events) (enumerate_from (first + 1) sections)))
    (one (setting_at c first) section.events ∙ ap section_text (sym (each 0 first section (omega arith) refl)))
    ∙ ap (λ (t : List ℕ). section_text section ++ t)
    (report-from c (first + 1) sections one (λ k place other at is. each (suc k) place other (omega (arith, at)) is))

pub report-network : (c : RadioConfig) (sources : List (List Line)) (end : Finished) (networks : List NetworkWithFrames)
    → ((s : Setting) (es : List Event) → network_text (after_events s es) ≡ section_text (section_of s es))
    → IsPlayOf c sources end → networks ≡ networks_after c end.sections → flat_map network_text networks ≡ report_text end.sections
report-network c sources end networks one play are =
    ap (flat_map network_text) are
    ∙ report-from c 0 end.sections one
    (λ k place section at is.
    let same : k ≡ place = omega (arith, at) in
    (play.sections place section (subst (λ (i : ℕ). slice_get end.sections i ≡ Some section) same is)).alone)

-- what was played, and what its report says
pub played_as : (c : RadioConfig) (sources : List (List Line)) (networks : List NetworkWithFrames)
    → ((s : Setting) (es : List Event) → network_text (after_events s es) ≡ section_text (section_of s es))
    → IsPlayWithFrames c sources networks
    → (end : Finished) × IsPlayOf c sources end × (flat_map network_text networks ≡ report_text end.sections)
played_as c sources networks one (end, play, are) = (end, play, report-network c sources end networks one play are)
