use Rattle.std.proofs.Common.{◌≡◌, ◌++◌, List, ℕ, Result, Ok, map}
use Rattle.std.specs.Vec.Iter.{into_iter_items}
use Rattle.text_files.specs.declared.fault.Fault.{Fault}
use Rattle.text_files.proofs.files.all_of.Given as goal

-- what was read so far are texts
abbrev pub invariant-loop-text : goal.invariant-loop-text
invariant-loop-text l =
    (let texts : List (Result (List ℕ) Fault) = map (λ text. Ok text) l.texts.items in l.yielded ≡ texts)
    × (l.yielded ++ into_iter_items l.text-iterator ≡ l.fn.read.items)
