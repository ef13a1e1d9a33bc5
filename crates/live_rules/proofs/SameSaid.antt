-- What is said as a record and as a line is the same.
use Rattle.std.proofs.Common.{◌≡◌, ℕ, ◌+◌, ◌-◌, ◌*◌, ◌/◌, ◌%◌, ◌<◌, ◌≤◌, Bool, true, false, zero, suc, List, [], ◌∷◌, ◌++◌, length, map, take, drop, get_or, Option, Some, None, Ok, refl, sym, ap, subst, ◌∙◌, arith, add-one, append_assoc, append-nil, length-append, take_at}
use Rattle.std.specs.Prelude.{nat_lt, slice_index, if◌then◌else◌}
use Rattle.std.specs.List.{All, AllByRecursion, position_or_len, range_with_len, suffix_len, slice_split}
use Rattle.std.specs.Option.{ok_or}
use Rattle.std.specs.Fmt.{digit_glyph}
use Rattle.std.specs.Str.Lines.{lines, lines_of_parts, strip_carriage_return}
use Rattle.std.proofs.lemmas.Bool.{ne_eqb, le-ltb}
use Rattle.std.proofs.lemmas.Bool.Decides.{nat_tests}
use Rattle.std.proofs.lemmas.List.{take_all, get_or-append_right}
use Rattle.std.proofs.lemmas.List.FromFn.{fill_by_all}
use Rattle.std.proofs.lemmas.List.Splits.{slice_split_at, length-slice_split}
use Rattle.std.proofs.lemmas.List.Sums.{suffix_len_is}
use Rattle.hex.specs.Hex.{IsBytes, encode_lower, encode_with, decode_of, lower_digits, hex_digit_value}
use Rattle.hex.proofs.HexLemmas.{IsDigits-lower_digits, decode_of-encode_lower, length-encode_with}
use Rattle.mac_frame.specs.Address.{IsAddress, address_text, address_of}
use Rattle.events.specs.declared.line.Line.TheVariants.{Air, Wire}
use Rattle.text_io.specs.Faults.{◌>>=◌}
use Rattle.text_io.specs.Texts.{ended, is_line_feed}
use Rattle.trace.specs.TraceText.{max_octets, is_space, without_spaces_at_end, without_spaces_at_start, first_word, after_first_word, digits_of, octets_of, within_limit, place_with, place_named}
use Rattle.trace.specs.declared.fault.LineFault.TheVariants.{UnknownNetwork, NoAddress}
use Rattle.live_rules.specs.Asked.{Asked, Says, asked_by, asked_by_all}
use Rattle.live_rules.specs.BothFaces.{Input, Heard, Wired, Interval, Question, IsInput, then_word, line_for, text_for, record_with, record_for, octets_for}
use Rattle.live_rules.specs.Records.{IsRecord, AreRecords, record_asks, records_ask, wire_record}
use Rattle.live_rules.specs.TextLines.{TextLine, Octets, lines_of_text, max_line}
use Rattle.live_rules.proofs.RecordLaws.{each-both}

-- ---- characters

-- each is above this
abbrev AllAbove : ℕ → List ℕ → Type 0
AllAbove least text = AllByRecursion (λ c. least < c) text

all-less : (text : List ℕ) → AllAbove 32 text → AllAbove 31 text
all-less [] h = tt
all-less (c ∷ text) h = (omega (arith, h.0), all-less text h.1)

at-above : (least : ℕ) (text : List ℕ) → AllAbove least text → (k d : ℕ) → k < length text → least < get_or text k d
at-above least [] h k d within = absurd (omega arith)
at-above least (c ∷ text) h zero d within = h.0
at-above least (c ∷ text) h (suc k) d within = at-above least text h.1 k d (omega arith)

not-space : (c : ℕ) → 32 < c → is_space c ≡ false
not-space c h = ne_eqb c 32 (λ (e : c ≡ 32). omega (arith, e, h))

-- ---- digits

digit-above : (c d : ℕ) → hex_digit_value c ≡ Some d → 32 < c
digit-above c d e = grind (arith, nat_tests)

digits-above : (octets : List ℕ) → IsBytes octets → AllAbove 32 (encode_lower octets)
unfolding encode_with
digits-above [] h = tt
digits-above (b ∷ octets) h =
    let fits : b < 256 = h 0 in
    let high : b / 16 < 16 = omega arith in
    let low : b % 16 < 16 = omega arith in (
      digit-above (slice_index lower_digits (b / 16)) (b / 16) (IsDigits-lower_digits (b / 16) high),
      (
        digit-above (slice_index lower_digits (b % 16)) (b % 16) (IsDigits-lower_digits (b % 16) low),
        digits-above octets (λ k. h (suc k)),
      ),
    )

glyph-above : (d : ℕ) → 32 < digit_glyph false d
glyph-above d = by (nat_lt d 10)
  where
    by : (b : Bool) → 32 < (if b then 48 + d else 87 + d)
    by true = omega arith
    by false = omega arith

-- the two digits of an octet, and what follows them
glyphs-above : (b : ℕ) {After : Type 0} → After
    → (32 < digit_glyph false (b / 16)) × ((32 < digit_glyph false (b % 16)) × After)
glyphs-above b after = (glyph-above (b / 16), (glyph-above (b % 16), after))

six-above : (a b c d e f : ℕ) → AllAbove 32 (address_text (a ∷ b ∷ c ∷ d ∷ e ∷ f ∷ []))
six-above a b c d e f =
    let colon : 32 < 58 = omega arith in
    glyphs-above a
    (colon, glyphs-above b (colon, glyphs-above c (colon, glyphs-above d (colon, glyphs-above e (colon, glyphs-above f tt)))))

-- the octets of an address, one by one
in_six : (address : List ℕ) → length address ≡ 6 → address ≡ map (slice_index address) (range_with_len 0 6)
in_six address six = fill_by_all (slice_index address) address 6 0 six (λ k _. refl)

address-above : (address : List ℕ) → IsAddress address → AllAbove 32 (address_text address)
address-above address w =
    let at = slice_index address in rw (in_six address w.six) (six-above (at 0) (at 1) (at 2) (at 3) (at 4) (at 5))

address-short : (address : List ℕ) → IsAddress address → length (address_text address) ≡ 17
address-short address w = rw (in_six address w.six) refl

digits-kept : (text : List ℕ) → AllAbove 32 text → digits_of text ≡ text
digits-kept [] h = refl
digits-kept (c ∷ text) h = rw (not-space c h.0) (ap (λ (l : List ℕ). c ∷ l) (digits-kept text h.1))

-- the digits of octets spell them
octets-back : (octets : List ℕ) → IsBytes octets → length octets ≤ max_octets
    → octets_of (encode_lower octets) ≡ Ok octets
octets-back octets h few =
    ap (λ (t : List ℕ). within_limit (decode_of t)) (digits-kept (encode_lower octets) (digits-above octets h))
    ∙ ap within_limit (decode_of-encode_lower octets h)
    ∙ rw (le-ltb max_octets (length octets) few) refl

-- ---- words

pos-space : (word rest : List ℕ) → AllAbove 32 word → position_or_len is_space (word ++ 32 ∷ rest) ≡ length word
pos-space [] rest h = refl
pos-space (c ∷ word) rest h = rw (not-space c h.0) (omega (arith, pos-space word rest h.1))

pos-none : (word : List ℕ) → AllAbove 32 word → position_or_len is_space word ≡ length word
pos-none [] h = refl
pos-none (c ∷ word) h = rw (not-space c h.0) (omega (arith, pos-none word h.1))

drop-after : (word rest : List ℕ) → drop (suc (length word)) (word ++ 32 ∷ rest) ≡ rest
drop-after [] rest = refl
drop-after (c ∷ word) rest = drop-after word rest

drop-all : (word : List ℕ) → drop (suc (length word)) word ≡ []
drop-all [] = refl
drop-all (c ∷ word) = drop-all word

first-of : (word rest : List ℕ) → AllAbove 32 word → first_word (word ++ then_word rest) ≡ word
first-of word [] h =
    ap first_word (append-nil word) ∙ ap (λ (n : ℕ). take n word) (pos-none word h) ∙ take_all (length word) word (omega arith)
first-of word (c ∷ rest) h =
    ap (λ (n : ℕ). take n (word ++ 32 ∷ c ∷ rest)) (pos-space word (c ∷ rest) h)
    ∙ take_at word (32 ∷ c ∷ rest) (length word) refl

after-of : (word rest : List ℕ) → AllAbove 32 word → after_first_word (word ++ then_word rest) ≡ rest
after-of word [] h =
    ap after_first_word (append-nil word) ∙ ap (λ (n : ℕ). drop (n + 1) word) (pos-none word h)
    ∙ rw add-one (drop-all word)
after-of word (c ∷ rest) h =
    ap (λ (n : ℕ). drop (n + 1) (word ++ 32 ∷ c ∷ rest)) (pos-space word (c ∷ rest) h)
    ∙ rw add-one (drop-after word (c ∷ rest))

-- no space stands at the end
ends-so : (front word : List ℕ) → 0 < length word → AllAbove 32 word
    → without_spaces_at_end (front ++ word) ≡ front ++ word
ends-so front word some h =
    let all : List ℕ = front ++ word in
    let long : length all ≡ length front + length word = length-append front word in
    let place : ℕ = length all - 1 - length front in
    let last : get_or all (length all - 1) 0 ≡ get_or word place 0 =
    get_or-append_right front word (length front) (length all - 1) 0 refl (omega (arith, long, some)) in
    let above : 32 < get_or word place 0 = at-above 32 word h place 0 (omega (arith, long, some)) in
    let none : suffix_len is_space all ≡ length all - length all =
    suffix_len_is is_space all (length all) 0 (omega arith) (λ k le lt. absurd (omega (arith, le, lt)))
    (λ pos. ap is_space last ∙ not-space (get_or word place 0) above) in
    ap (λ (n : ℕ). take n all) (let e : length all - suffix_len is_space all ≡ length all = omega (arith, none) in e)
    ∙ take_all (length all) all (omega arith)

-- ---- lines

heard-line : (bssids : List (List ℕ)) (digits octets : List ℕ) → AllAbove 32 digits → octets_of digits ≡ Ok octets
    → asked_by bssids (Octets (65 ∷ then_word digits)) ≡ Says (Ok (Some (Air octets)))
heard-line bssids [] octets h e = rw e refl
heard-line bssids (d ∷ ds) octets h e =
    rw (ends-so (65 ∷ 32 ∷ []) (d ∷ ds) (omega arith) h, e) refl

-- the line of a frame to an address
abbrev wire_line : List ℕ → List ℕ → List ℕ
wire_line word digits = (87 ∷ 32 ∷ word) ++ then_word digits

wire-ends : (word digits : List ℕ) → 0 < length word → AllAbove 32 word → AllAbove 32 digits
    → without_spaces_at_end (wire_line word digits) ≡ wire_line word digits
wire-ends word [] some h k =
    subst (λ (l : List ℕ). without_spaces_at_end l ≡ l) (sym (append-nil (87 ∷ 32 ∷ word)))
    (ends-so (87 ∷ 32 ∷ []) word some h)
wire-ends word (d ∷ ds) some h k =
    subst (λ (l : List ℕ). without_spaces_at_end l ≡ l) (append_assoc (87 ∷ 32 ∷ word) (32 ∷ []) (d ∷ ds))
    (ends-so ((87 ∷ 32 ∷ word) ++ 32 ∷ []) (d ∷ ds) (omega arith) k)

starts-so : (word rest : List ℕ) → 0 < length word → AllAbove 32 word
    → without_spaces_at_start (word ++ rest) ≡ word ++ rest
starts-so [] rest some h = absurd (omega arith)
starts-so (c ∷ word) rest some h = rw (not-space c h.0) refl

-- what it says of a frame to the network at a place, if there is one
abbrev wire_said : Option ℕ → List ℕ → Asked
wire_said place octets =
    Says ((ok_or place UnknownNetwork >>= λ p. Ok octets >>= λ o. Ok (Wire p o)) >>= λ said. Ok (Some said))

wired-line : (bssids : List (List ℕ)) (address word digits octets : List ℕ) → 0 < length word → AllAbove 32 word
    → AllAbove 32 digits → address_of word ≡ Some address → octets_of digits ≡ Ok octets
    → asked_by bssids (Octets (wire_line word digits)) ≡ wire_said (place_with address bssids) octets
wired-line bssids address word digits octets some h k is e =
    let text : List ℕ = word ++ then_word digits in
    let place : place_named bssids (first_word text) ≡ ok_or (place_with address bssids) UnknownNetwork =
    ap (place_named bssids) (first-of word digits h)
    ∙ ap (λ (o : Option (List ℕ)). ok_or o NoAddress >>= λ a. ok_or (place_with a bssids) UnknownNetwork) is in
    let frame : octets_of (after_first_word text) ≡ Ok octets = ap octets_of (after-of word digits h) ∙ e in
    rw (wire-ends word digits some h k, starts-so word (then_word digits) some h, place, frame) refl

-- ---- records

-- a record of this kind, whose BSSID is these octets
abbrev of_six : (kind a b c d e f : ℕ) → List ℕ → List ℕ
of_six kind a b c d e f octets = record_with kind (a ∷ b ∷ c ∷ d ∷ e ∷ f ∷ []) octets

six-record : (kind a b c d e f : ℕ) (octets : List ℕ) → IsRecord (of_six kind a b c d e f octets)
six-record kind a b c d e f octets =
    let all : List ℕ = of_six kind a b c d e f octets in
    let long : 9 ≤ length all = omega arith in
    let whole : 9 + (length octets % 256 + 256 * (length octets / 256)) ≡ length all = omega arith in
    rw (le-ltb (length all) 9 long) (ap (λ (n : ℕ). Some n) whole)

-- with an address
address-record : (kind : ℕ) (address octets : List ℕ) → IsAddress address → IsRecord (record_with kind address octets)
address-record kind address octets w =
    let at = slice_index address in
    rw (in_six address w.six) (six-record kind (at 0) (at 1) (at 2) (at 3) (at 4) (at 5) octets)

record-is : (input : Input) → IsInput input → IsRecord (record_for input)
record-is (Heard octets) h = six-record 65 0 0 0 0 0 0 octets
record-is (Wired address octets) h = address-record 87 address octets h.0
record-is Interval h = refl
record-is Question h = refl

-- ---- that both say the same

heard-same : (bssids : List (List ℕ)) (octets : List ℕ) → IsInput (Heard octets)
    → record_asks bssids (record_for (Heard octets)) ≡ asked_by bssids (Octets (line_for (Heard octets)))
heard-same bssids octets h =
    rw (le-ltb max_octets (length octets) h.1)
    (sym (heard-line bssids (encode_lower octets) octets (digits-above octets h.0) (octets-back octets h.0 h.1)))

-- what a record and a line say of a frame to the network at a place, if there is one
both-wire : (place : Option ℕ) (octets : List ℕ) → length octets ≤ max_octets
    → wire_record place octets ≡ wire_said place octets
both-wire None octets few = refl
both-wire (Some p) octets few = rw (le-ltb max_octets (length octets) few) refl

wire-asks : (bssids : List (List ℕ)) (address octets : List ℕ) → IsAddress address
    → record_asks bssids (record_with 87 address octets) ≡ wire_record (place_with address bssids) octets
wire-asks bssids address octets w = rw (in_six address w.six) refl

abbrev pub ComesBack : Type 0
ComesBack = (address : List ℕ) → IsAddress address → address_of (address_text address) ≡ Some address

wired-same : ComesBack → (bssids : List (List ℕ)) (address octets : List ℕ) → IsInput (Wired address octets)
    → record_asks bssids (record_for (Wired address octets)) ≡ asked_by bssids (Octets (line_for (Wired address octets)))
wired-same back bssids address octets h =
    let word : List ℕ = address_text address in
    let said : asked_by bssids (Octets (wire_line word (encode_lower octets))) ≡ wire_said (place_with address bssids) octets =
    wired-line bssids address word (encode_lower octets) octets (omega (arith, address-short address h.0)) (address-above address h.0)
    (digits-above octets h.1) (back address h.0) (octets-back octets h.1 h.2) in
    wire-asks bssids address octets h.0 ∙ both-wire (place_with address bssids) octets h.2 ∙ sym said

one-same : ComesBack → (bssids : List (List ℕ)) (input : Input) → IsInput input
    → record_asks bssids (record_for input) ≡ asked_by bssids (Octets (line_for input))
one-same back bssids (Heard octets) h = heard-same bssids octets h
one-same back bssids (Wired address octets) h = wired-same back bssids address octets h
one-same back bssids Interval h = refl
one-same back bssids Question h = refl

pub all-same : ComesBack → (bssids : List (List ℕ)) (inputs : List Input) → AllByRecursion IsInput inputs
    → records_ask bssids (map record_for inputs)
    ≡ asked_by_all bssids (map (λ input. Octets (line_for input)) inputs)
all-same back bssids [] h = refl
all-same back bssids (input ∷ inputs) h =
    λ i. one-same back bssids input h.0 i ∷ all-same back bssids inputs h.1 i

-- ---- their octets

pub octets-are : (inputs : List Input) → AllByRecursion IsInput inputs
    → AreRecords (octets_for inputs) (map record_for inputs) []
octets-are inputs h = record { all = sym (append-nil (octets_for inputs)); each = each inputs h; rest = tt }
  where
    each : (is : List Input) → AllByRecursion IsInput is → AllByRecursion IsRecord (map record_for is)
    each [] k = tt
    each (i ∷ is) k = (record-is i k.0, each is k.1)

-- ---- their text

-- no line feed stands in a line of characters
other-octets : (line : List ℕ) → AllAbove 31 line → All (λ octet. is_line_feed octet ≡ false) line
other-octets line h k d within =
    ne_eqb (get_or line k d) 10 (λ (e : get_or line k d ≡ 10). omega (arith, e, at-above 31 line h k d within))

-- no carriage return stands at its end
whole-line : (line : List ℕ) → 0 < length line → AllAbove 31 line → strip_carriage_return line ≡ line
whole-line line some h =
    let last : ℕ = slice_index line (length line - 1) in
    let above : 31 < last = at-above 31 line h (length line - 1) 0 (omega (arith, some)) in
    rw (ne_eqb last 13 (λ (e : last ≡ 13). omega (arith, e, above))) refl

first-part : (line : List ℕ) (parts : List (List ℕ)) → 0 < length parts
    → lines_of_parts (line ∷ parts) ≡ strip_carriage_return line ∷ lines_of_parts parts
first-part line [] h = absurd (omega arith)
first-part line (part ∷ parts) h = refl

line-first : (line rest : List ℕ) → 0 < length line → AllAbove 31 line → lines (ended line ++ rest) ≡ line ∷ lines rest
line-first line rest some h =
    ap lines (append_assoc line (10 ∷ []) rest)
    ∙ ap lines_of_parts (slice_split_at is_line_feed line 10 rest (other-octets line h) refl)
    ∙ first-part line (slice_split is_line_feed rest) (omega (arith, length-slice_split is_line_feed rest))
    ∙ ap (λ (l : List ℕ). l ∷ lines rest) (whole-line line some h)

-- what is known of a line that is written
record IsLine (line : List ℕ) : Type 0 where
  some : 0 < length line
  above : AllAbove 31 line
  short : length line ≤ max_line

then-above : (word : List ℕ) → AllAbove 32 word → AllAbove 31 (then_word word)
then-above [] h = tt
then-above (c ∷ word) h = (omega arith, all-less (c ∷ word) h)

then-short : (word : List ℕ) → length (then_word word) ≤ length word + 1
then-short [] = omega arith
then-short (c ∷ word) = omega arith

line-is : (input : Input) → IsInput input → IsLine (line_for input)
line-is (Heard octets) h =
    let digits : List ℕ = encode_lower octets in
    record {
      some = omega arith;
      above = (omega arith, then-above digits (digits-above octets h.0));
      short = omega (arith, then-short digits, length-encode_with lower_digits octets, h.1);
    }
line-is (Wired address octets) h =
    let digits : List ℕ = encode_lower octets in
    let word : List ℕ = address_text address in
    let long : length (wire_line word digits) ≡ length (87 ∷ 32 ∷ word) + length (then_word digits) =
    length-append (87 ∷ 32 ∷ word) (then_word digits) in
    record {
      some = omega (arith, long);
      above = each-both (λ c. 31 < c) (87 ∷ 32 ∷ word) (then_word digits)
          (omega arith, (omega arith, all-less word (address-above address h.0)))
          (then-above digits (digits-above octets h.1));
      short = omega (arith, long, address-short address h.0, then-short digits, length-encode_with lower_digits octets, h.2);
    }
line-is Interval h = record { some = omega arith; above = (omega arith, tt); short = omega arith }
line-is Question h = record { some = omega arith; above = (omega arith, tt); short = omega arith }

pub text-is : (inputs : List Input) → AllByRecursion IsInput inputs
    → lines_of_text (text_for inputs) ≡ map (λ input. Octets (line_for input)) inputs
text-is [] h = refl
text-is (input ∷ inputs) h =
    let l : IsLine (line_for input) = line-is input h.0 in
    rw (line-first (line_for input) (text_for inputs) l.some l.above, le-ltb max_line (length (line_for input)) l.short)
    (ap (λ (ts : List TextLine). Octets (line_for input) ∷ ts) (text-is inputs h.1))
