-- Which words ask for a page of the program itself, and what stands on it (*profile*).
use Rattle.std.specs.Prelude.{ℕ, ◌∷◌, ◌||◌, [], List, Option, Some, None, bytes_eq, codes, if◌then◌else◌}
use Rattle.words.specs.declared.page.Page.{Page}
use Rattle.words.specs.declared.page.Page.TheVariants.{Usage, Version}
use Rattle.words.specs.declared.page.TheConstants.{USAGE, VERSION}
use Rattle.words.specs.declared.asked.Asked.{Asked}
use Rattle.words.specs.declared.asked.Asked.TheVariants as asked

-- the page that a word alone asks for
abbrev pub page_of_word : List ℕ → Option Page
page_of_word word =
    if bytes_eq word (codes "--help") || bytes_eq word (codes "-h") || bytes_eq word (codes "help") then Some Usage
    else if bytes_eq word (codes "--version") then Some Version
    else None

-- the page that words ask for, the first of which is the program's own name
abbrev pub page_for : List (List ℕ) → Option Page
page_for (own ∷ word ∷ []) = page_of_word word
page_for words = None

-- the text of a page
abbrev pub text_of : Page → List ℕ
text_of Usage = USAGE.now
text_of Version = VERSION.now

-- the page that was asked for
abbrev pub asked_page : Asked → Option Page
asked_page (asked.Page page) = Some page
asked_page _ = None
