-- What contracts see of a file system of the tests: its files by their names, and what becomes of each.
use Rattle.std.specs.Prelude.{ℕ, ◌≡◌, ◌∷◌, [], ◌++◌, List, Option, Some, None, MatchOption, cond}
use Rattle.std.specs.Str.{bytes_eq}
use Rattle.text_files_tests.specs.declared.listed_files.Content.{Content}
use Rattle.text_files_tests.specs.declared.listed_files.NamedFile.{NamedFile}
use Rattle.text_files_tests.specs.declared.listed_files.Reading.{Reading}
use Rattle.text_files_tests.specs.declared.listed_files.Reading.TheVariants.{Gives, Fails, TakesTooMuch}

-- a file that can be opened gives this text, or can't be read, or takes more memory than there is
pub data Held : Type 0 where
  Text : List ℕ → Held
  Unreadable : Held
  TooLarge : Held

-- what a file holds of which reading ends so
abbrev pub held_by : Reading → List ℕ → Held
held_by Gives text = Text text
held_by Fails text = Unreadable
held_by TakesTooMuch text = TooLarge

-- what a file holds, with what it has grown by
abbrev pub held_of : Content → Held
held_of content = held_by content.reading (content.held.now ++ content.grown.now)

-- a file of a name
pub record Listed : Type 0 where
  pub name : List ℕ
  pub held : Held

abbrev pub listed : NamedFile → Listed
listed file = record { name = file.name.now; held = held_of file.content }

-- what the first file of this name holds, or none where there is no such file
abbrev pub named : List Listed → List ℕ → Option Held
named [] name = None
named (file ∷ files) name = cond (bytes_eq file.name name) (Some file.held) (named files name)

-- what reading a file may give; where memory runs out it gives neither octets nor none
abbrev pub MayGive : Held → Option (List ℕ) → Type 0
MayGive (Text text) given = given ≡ Some text
MayGive Unreadable given = given ≡ None
MayGive TooLarge given = ⊥

-- the octets that reading it will give, where they are known
abbrev pub left_of : Held → Option (List ℕ)
left_of (Text text) = Some text
left_of Unreadable = None
left_of TooLarge = None

-- what opening a file of this name and reading it may give; the files stay as they are
abbrev pub Opens : List Listed → List ℕ → Option (List ℕ) → List Listed → Type 0
Opens files name given new = (new ≡ files) × MatchOption (named files name) (given ≡ None) (λ held. MayGive held given)

-- a file that holds this was opened by this name
abbrev pub WasOpened : List Listed → List ℕ → Held → List Listed → Type 0
WasOpened files name held new = (new ≡ files) × (named files name ≡ Some held)
