-- How calls end that read listed files, by what the contracts of `text_files` say.
use Rattle.std.proofs.Common.{◌≡◌, ◌∷◌, [], ℕ, List, Option, None, Some, Result, Ok, Err}
use Rattle.std.proofs.Common.{refl, sym, ap, subst, inl, inr}
use Rattle.std.specs.Prelude.{string_bytes}
use Rattle.std.specs.Io.KnownBytes.{Keeps}
use Rattle.text_io.specs.Streams.{SinkView, Streams}
use Rattle.live.specs.declared.face.Face.{Face}
use Rattle.text_files.specs.AnsweredInput.{AreAnswered, EndsAnswers}
use Rattle.text_files.specs.CheckedFile.{EndsCheck, IsChecked}
use Rattle.text_files.specs.Files.{IsOfFirstUnread}
use Rattle.text_files.specs.PlayedFiles.{ArePlayed, EndsFiles}
use Rattle.text_files.specs.RunFiles.{AreRun, EndsRun}
use Rattle.text_files.specs.declared.fault.Fault.{Fault}
use Rattle.text_files.specs.declared.fault.Fault.TheVariants.{File, Memory}
use Rattle.text_files_tests.specs.declared.listed_files.Content.{Content}
use Rattle.text_files_tests.specs.ListedFiles.{Held, Text, Unreadable, TooLarge, Listed}
use Rattle.text_files_tests.specs.ListedFiles.{MayGive, Opens, WasOpened, held_of, left_of, named}
use Rattle.text_files_tests.specs.Outcome.{Outcome, Gave, Told, RanOut, outcome, outcome_with, TellsOf}
use Rattle.text_files_tests.specs.Outcome.{EndsBy, EndsOpened, EndsRunBy, Answers, Checks, Plays, RunsOn}
use Rattle.text_files_tests.proofs.ReadingLaws.{all_gave, first_told}

-- memory ran out before anything was done
memory_by : (o : Outcome) (By : List (List ℕ) → Type 0) (nothing : Type 0) → nothing → EndsBy o By (Err Memory) nothing
memory_by (Gave texts) By nothing h = inr (refl, h)
memory_by (Told name) By nothing h = (tt, h)
memory_by RanOut By nothing h = (refl, h)

-- one of the files is told, or memory ran out
unread_by : (files : List Listed) (names : List (List ℕ)) (By : List (List ℕ) → Type 0) (fault : Fault)
    (nothing : Type 0) → IsOfFirstUnread Opens files names fault → nothing → EndsBy (outcome files names) By (Err fault) nothing
unread_by files names By (File told) nothing is h =
    subst (λ o. EndsBy o By (Err (File told)) nothing) (sym (first_told files names (string_bytes told) is))
    (refl, h)
unread_by files names By Memory nothing is h = memory_by (outcome files names) By nothing h
unread_by files names By other nothing is h = absurd is

-- each gave its text
gave_by : (files : List Listed) (names texts : List (List ℕ)) (By : List (List ℕ) → Type 0) (end : Result Unit Fault)
    (nothing : Type 0) → outcome files names ≡ Gave texts → By texts → EndsBy (outcome files names) By end nothing
gave_by files names texts By end nothing is h = subst (λ o. EndsBy o By end nothing) (sym is) (inl h)

-- a play of listed files
pub plays_by : (files : List Listed) (names : List (List ℕ)) (end : Result Unit Fault) (old new : Option (List ℕ))
    → EndsFiles Opens files names end old new
    → EndsBy (outcome files names) (λ texts. Plays texts end old new) end (Keeps old new)
plays_by files names end old new ends = by end ends
  where
    whole : (e : Result Unit Fault) → ArePlayed Opens files names e old new
        → EndsBy (outcome files names) (λ texts. Plays texts e old new) e (Keeps old new)
    whole e h =
        gave_by files names (h.config ∷ h.traces) (λ texts. Plays texts e old new) e (Keeps old new)
        (all_gave files names (h.config ∷ h.traces) h.last h.read)
        (record {
          config = h.config;
          traces = h.traces;
          in_order = refl;
          played = h.played;
          same = h.same;
          ends = h.ends;
        })

    by : (e : Result Unit Fault) → EndsFiles Opens files names e old new
        → EndsBy (outcome files names) (λ texts. Plays texts e old new) e (Keeps old new)
    by (Ok u) h = whole (Ok u) h
    by (Err (File told)) h =
        unread_by files names (λ texts. Plays texts (Err (File told)) old new) (File told) (Keeps old new) h.0 h.1
    by (Err Memory) (inl h) =
        memory_by (outcome files names) (λ texts. Plays texts (Err Memory) old new) (Keeps old new) h
    by (Err Memory) (inr h) = whole (Err Memory) h
    by (Err other) h = whole (Err other) h

-- a check of a listed file
pub checks_by : (files : List Listed) (config : List ℕ) (end : Result Unit Fault) (old new : Option (List ℕ))
    → EndsCheck Opens files config end old new
    → EndsBy (outcome files (config ∷ [])) (λ texts. Checks texts end old new) end (Keeps old new)
checks_by files config end old new ends = by end ends
  where
    whole : (e : Result Unit Fault) → IsChecked Opens files config e old new
        → EndsBy (outcome files (config ∷ [])) (λ texts. Checks texts e old new) e (Keeps old new)
    whole e h =
        gave_by files (config ∷ []) (h.text ∷ []) (λ texts. Checks texts e old new) e (Keeps old new)
        (all_gave files (config ∷ []) (h.text ∷ []) h.last (h.last, h.read, refl))
        (record { config = h.text; alone = refl; checked = h.checked; same = h.same; ends = h.ends })

    by : (e : Result Unit Fault) → EndsCheck Opens files config e old new
        → EndsBy (outcome files (config ∷ [])) (λ texts. Checks texts e old new) e (Keeps old new)
    by (Ok u) h = whole (Ok u) h
    by (Err (File told)) h =
        unread_by files (config ∷ []) (λ texts. Checks texts (Err (File told)) old new) (File told) (Keeps old new)
        h.0 h.1
    by (Err Memory) (inl h) =
        memory_by (outcome files (config ∷ [])) (λ texts. Checks texts (Err Memory) old new) (Keeps old new) h
    by (Err Memory) (inr h) = whole (Err Memory) h
    by (Err other) h = whole (Err other) h

-- an access point whose configuration stands in a listed file
pub answers_by : (files : List Listed) (config : List ℕ) (face : Face) (end : Result Unit Fault) (old new : Streams)
    → EndsAnswers Opens files config face end old new
    → EndsBy (outcome files (config ∷ [])) (λ texts. Answers texts face end old new) end (new ≡ old)
answers_by files config face end old new ends = by end ends
  where
    whole : (e : Result Unit Fault) → AreAnswered Opens files config face e old new
        → EndsBy (outcome files (config ∷ [])) (λ texts. Answers texts face e old new) e (new ≡ old)
    whole e h =
        gave_by files (config ∷ []) (h.text ∷ []) (λ texts. Answers texts face e old new) e (new ≡ old)
        (all_gave files (config ∷ []) (h.text ∷ []) h.last (h.last, h.read, refl))
        (record { config = h.text; alone = refl; run = h.run; runs = h.runs; told = h.told })

    by : (e : Result Unit Fault) → EndsAnswers Opens files config face e old new
        → EndsBy (outcome files (config ∷ [])) (λ texts. Answers texts face e old new) e (new ≡ old)
    by (Ok u) h = whole (Ok u) h
    by (Err fault) (inl h) =
        unread_by files (config ∷ []) (λ texts. Answers texts face (Err fault) old new) fault (new ≡ old) h.0 h.1
    by (Err fault) (inr h) = whole (Err fault) h

-- ---- a run

-- memory ran out before anything was done
memory_of_run : (o : Outcome) (found : Option Held) (trace : List ℕ) (old new : SinkView) → new ≡ old
    → EndsRunBy o found trace (Err Memory) old new
memory_of_run (Gave texts) None trace old new h = (tt, h)
memory_of_run (Gave texts) (Some (Text t)) trace old new h = inr (refl, h)
memory_of_run (Gave texts) (Some Unreadable) trace old new h = inr (tt, h)
memory_of_run (Gave texts) (Some TooLarge) trace old new h = inr (refl, h)
memory_of_run (Told name) found trace old new h = (tt, h)
memory_of_run RanOut found trace old new h = (refl, h)

-- the name that is told
name_of : Outcome → List ℕ
name_of (Told name) = name
name_of other = []

same_name : (a b : List ℕ) (end : Result Unit Fault) → Told a ≡ Told b → TellsOf b end → TellsOf a end
unfolding name_of
same_name a b end same h = subst (λ n. TellsOf n end) (sym (ap name_of same)) h

-- one of the two is told
told_of_run : (first second : Option Held) (config trace name : List ℕ) (end : Result Unit Fault) (old new : SinkView)
    → outcome_with first config (outcome_with second trace (Gave [])) ≡ Told name → TellsOf name end → new ≡ old
    → EndsRunBy (outcome_with first config (Gave [])) second trace end old new
told_of_run None second config trace name end old new is tells h = (same_name config name end is tells, h)
told_of_run (Some Unreadable) second config trace name end old new is tells h = (same_name config name end is tells, h)
told_of_run (Some TooLarge) second config trace name end old new is tells h = absurd cc
told_of_run (Some (Text t)) None config trace name end old new is tells h = (same_name trace name end is tells, h)
told_of_run (Some (Text t)) (Some (Text u)) config trace name end old new is tells h = absurd cc
told_of_run (Some (Text t)) (Some Unreadable) config trace name end old new is tells h =
    inr (same_name trace name end is tells, h)
told_of_run (Some (Text t)) (Some TooLarge) config trace name end old new is tells h = absurd cc

unread_of_run : (files : List Listed) (config trace : List ℕ) (fault : Fault) (old new : SinkView)
    → IsOfFirstUnread Opens files (config ∷ trace ∷ []) fault → new ≡ old
    → EndsRunBy (outcome files (config ∷ [])) (named files trace) trace (Err fault) old new
unread_of_run files config trace (File told) old new is h =
    told_of_run (named files config) (named files trace) config trace (string_bytes told) (Err (File told)) old new
    (first_told files (config ∷ trace ∷ []) (string_bytes told) is) refl h
unread_of_run files config trace Memory old new is h =
    memory_of_run (outcome files (config ∷ [])) (named files trace) trace old new h
unread_of_run files config trace other old new is h = absurd is

-- it was run
opened_ends : (held : Held) (texts : List (List ℕ)) (trace : List ℕ) (end : Result Unit Fault) (old new : SinkView)
    → RunsOn texts held trace end old new → EndsOpened held texts trace end old new
opened_ends (Text t) texts trace end old new h = inl h
opened_ends Unreadable texts trace end old new h = inl h
opened_ends TooLarge texts trace end old new h = inl h

-- the files of a run, as its contract sees them
abbrev opened : List Listed → List ℕ → Content → List Listed → Type 0
opened files name file new = WasOpened files name (held_of file) new

abbrev gives : Content → Option (List ℕ) → Type 0
gives file given = MayGive (held_of file) given

abbrev left : Content → Option (List ℕ)
left file = left_of (held_of file)

-- a run of listed files
pub runs_by : (files : List Listed) (config trace : List ℕ) (end : Result Unit Fault) (old new : SinkView)
    → EndsRun Opens opened gives left files config trace end old new
    → EndsRunBy (outcome files (config ∷ [])) (named files trace) trace end old new
runs_by files config trace end old new ends = by end ends
  where
    whole : (e : Result Unit Fault) → AreRun Opens opened gives left files config trace e old new
        → EndsRunBy (outcome files (config ∷ [])) (named files trace) trace e old new
    whole e h =
        let read : outcome files (config ∷ []) ≡ Gave (h.text ∷ []) =
        all_gave files (config ∷ []) (h.text ∷ []) h.next (h.next, h.read, refl) in
        let found : named files trace ≡ Some (held_of h.file) =
        subst (λ s. named s trace ≡ Some (held_of h.file)) h.read.0 h.is_opened.1 in
        subst (λ o. EndsRunBy o (named files trace) trace e old new) (sym read)
        (subst (λ f. EndsRunBy (Gave (h.text ∷ [])) f trace e old new) (sym found)
        (opened_ends (held_of h.file) (h.text ∷ []) trace e old new (record {
          config = h.text;
          alone = refl;
          source = h.source;
          run = h.run;
          runs = h.runs;
          told = h.told;
        })))

    by : (e : Result Unit Fault) → EndsRun Opens opened gives left files config trace e old new
        → EndsRunBy (outcome files (config ∷ [])) (named files trace) trace e old new
    by (Ok u) h = whole (Ok u) h
    by (Err fault) (inl h) = unread_of_run files config trace fault old new h.0 h.1
    by (Err fault) (inr h) = whole (Err fault) h
