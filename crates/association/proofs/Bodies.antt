-- What the body of each kind of request says, field by field, is what is read of it, and the reverse.
use Rattle.std.proofs.Common.{◌≡◌, ℕ, ◌+◌, ◌<◌, ◌≤◌, Bool, true, false, ltb, get_or, List, [], ◌++◌, length, take, drop}
use Rattle.std.proofs.Common.{Option, Some, None, Result, Ok, Err, refl, sym, ap, subst, ◌∙◌, arith, append_assoc}
use Rattle.std.proofs.Common.{length-append, length-drop}
use Rattle.std.specs.Prelude.{if◌then◌else◌}
use Rattle.std.specs.Int.{w16, from_le_bytes}
use Rattle.std.proofs.lemmas.Bool.{le-ltb, ltb-false}
use Rattle.std.proofs.lemmas.List.{take-append-drop, drop-drop, get_or-drop, length-take-le}
use Rattle.std.proofs.Math.Seq.{drop-append_seam, take-append_seam}
use Rattle.mac_frame.specs.declared.frame.Unread.{Unread}
use Rattle.mac_frame.specs.declared.frame.Unread.TheVariants.{Body}
use Rattle.elements.specs.Elements.{Pair, IsElements, first_of, elements_of, ssid_id}
use Rattle.association.specs.Management.{number_at, with_fixed}
use Rattle.association.specs.Probe.{IsProbeBody, ssid_in, probe_of}
use Rattle.association.specs.Authentication.{IsAuthenticationBody, auth_of}
use Rattle.association.specs.Joining.{IsAssociationBody, IsReassociationBody, listen_with, assoc_of}
use Rattle.association.specs.Leaving.{IsReasonBody, reason_of}

abbrev pub AreOctets : List ℕ → Type 0
AreOctets body = (place : ℕ) → get_or body place 0 < 256

-- each body is read as its one list of elements
abbrev pub ReadsElements : Type 0
ReadsElements = (body : List ℕ) (es : List Pair) → IsElements body es → elements_of body ≡ Some es

abbrev pub FindsElements : Type 0
FindsElements = (body : List ℕ) (es : List Pair) → AreOctets body → elements_of body ≡ Some es → IsElements body es

-- ---- the fields of a body

-- what stands after the first k octets
after : (body p q : List ℕ) (k : ℕ) → body ≡ p ++ q → length p ≡ k → drop k body ≡ q
after body p q k whole len =
    ap (λ (n : ℕ). drop n body) (sym len) ∙ ap (drop (length p)) whole ∙ drop-append_seam p q

-- the field that stands there
field : (body p f q : List ℕ) (k m : ℕ) → body ≡ p ++ (f ++ q) → length p ≡ k → length f ≡ m
    → take m (drop k body) ≡ f
field body p f q k m whole before len =
    ap (take m) (after body p (f ++ q) k whole before)
    ∙ ap (λ (n : ℕ). take n (f ++ q)) (sym len)
    ∙ take-append_seam f q

-- its number
number_of : (body p f q : List ℕ) (k : ℕ) → body ≡ p ++ (f ++ q) → length p ≡ k → length f ≡ 2
    → number_at body k ≡ from_le_bytes w16 f
number_of body p f q k whole before len = ap (from_le_bytes w16) (field body p f q k 2 whole before len)

cut : (k : ℕ) (body : List ℕ) → body ≡ take k body ++ drop k body
cut k body = sym (take-append-drop k body)

octets-after : (k : ℕ) (body : List ℕ) → AreOctets body → AreOctets (drop k body)
octets-after k body h place = subst (λ (n : ℕ). n < 256) (sym (get_or-drop k body place 0)) (h (k + place))

-- the first four octets of a body, as two fields
two_fields : (body : List ℕ) → body ≡ (take 2 body ++ take 2 (drop 2 body)) ++ drop 4 body
two_fields body =
    let rest : drop 2 body ≡ take 2 (drop 2 body) ++ drop 4 body =
    cut 2 (drop 2 body) ∙ ap (λ q. take 2 (drop 2 body) ++ q) (drop-drop 2 2 body) in
    cut 2 body
    ∙ ap (λ q. take 2 body ++ q) rest
    ∙ sym (append_assoc (take 2 body) (take 2 (drop 2 body)) (drop 4 body))

-- and a third one of m octets
three_fields : (body : List ℕ) (m : ℕ)
    → body ≡ ((take 2 body ++ take 2 (drop 2 body)) ++ take m (drop 4 body)) ++ drop m (drop 4 body)
three_fields body m =
    let two = take 2 body ++ take 2 (drop 2 body) in
    two_fields body
    ∙ ap (λ q. two ++ q) (cut m (drop 4 body))
    ∙ sym (append_assoc two (take m (drop 4 body)) (drop m (drop 4 body)))

field_length : (body : List ℕ) (k m : ℕ) → k + m ≤ length body → length (take m (drop k body)) ≡ m
field_length body k m long = length-take-le m (drop k body) (omega (arith, length-drop k body))

-- ---- a body with its fixed fields

enough : {A : Type 0} (fixed : ℕ) (body : List ℕ) (read : Result A Unread) → fixed ≤ length body
    → with_fixed fixed body read ≡ read
enough fixed body read long =
    let fits : ltb (length body) fixed ≡ false = le-ltb (length body) fixed long in rw fits refl

fixed-there : {A : Type 0} (fixed : ℕ) (body : List ℕ) (read : Result A Unread) (a : A)
    → with_fixed fixed body read ≡ Ok a → (fixed ≤ length body) × (read ≡ Ok a)
fixed-there {A} fixed body read a h = by (ltb (length body) fixed) refl h
  where
    by : (b : Bool) → ltb (length body) fixed ≡ b → (if b then Err Body else read) ≡ Ok a
        → (fixed ≤ length body) × (read ≡ Ok a)
    by true short e = absurd (cc)
    by false fits e = (ltb-false (length body) fixed fits, e)

-- ---- a probe request

pub probe-read : ReadsElements → (body : List ℕ) (ssid : Option (List ℕ)) → IsProbeBody body ssid
    → probe_of body ≡ Ok ssid
probe-read reads body ssid w = ap ssid_in (reads body w.elements w.are_elements) ∙ ap Ok (sym w.names)

probe-said-by : FindsElements → (body : List ℕ) (ssid : Option (List ℕ)) (o : Option (List Pair)) → AreOctets body
    → elements_of body ≡ o → ssid_in o ≡ Ok ssid → IsProbeBody body ssid
probe-said-by finds body ssid None octets read h = absurd (cc)
probe-said-by finds body ssid (Some es) octets read h =
    let names : ssid ≡ first_of ssid_id es = cc in
    record { elements = es; are_elements = finds body es octets read; names = names }

pub probe-said : FindsElements → (body : List ℕ) (ssid : Option (List ℕ)) → AreOctets body → probe_of body ≡ Ok ssid
    → IsProbeBody body ssid
probe-said finds body ssid octets h = probe-said-by finds body ssid (elements_of body) octets refl h

-- ---- an authentication

pub auth-read : (body : List ℕ) (algorithm step : ℕ) → IsAuthenticationBody body algorithm step
    → auth_of body ≡ Ok (algorithm, step)
auth-read body algorithm step w =
    let a = w.algorithm_field in
    let b = w.step_field in
    let s = w.status_field in
    let parts : body ≡ a ++ (b ++ (s ++ w.rest)) =
    w.whole ∙ append_assoc (a ++ b) s w.rest ∙ append_assoc a b (s ++ w.rest) in
    let fields : length ((a ++ b) ++ s) ≡ 6 =
    simp length-append (omega (arith, w.algorithm_length, w.step_length, w.status_length)) in
    let long : 6 ≤ length body = omega (arith, ap length w.whole, length-append ((a ++ b) ++ s) w.rest, fields) in
    let one : number_at body 0 ≡ algorithm =
    number_of body [] a (b ++ (s ++ w.rest)) 0 parts refl w.algorithm_length ∙ sym w.algorithm_is in
    let two : number_at body 2 ≡ step =
    number_of body a b (s ++ w.rest) 2 parts w.algorithm_length w.step_length ∙ sym w.step_is in
    enough 6 body (Ok (number_at body 0, number_at body 2)) long
    ∙ ap (λ (n : ℕ). Ok (n, number_at body 2)) one
    ∙ ap (λ (n : ℕ). Ok (algorithm, n)) two

pub auth-said : (body : List ℕ) (algorithm step : ℕ) → auth_of body ≡ Ok (algorithm, step)
    → IsAuthenticationBody body algorithm step
auth-said body algorithm step h =
    let there = fixed-there 6 body (Ok (number_at body 0, number_at body 2)) (algorithm, step) h in
    let long = there.0 in
    let is : (number_at body 0, number_at body 2) ≡ (algorithm, step) = cc (there.1) in
    record {
      algorithm_field = take 2 body;
      step_field = take 2 (drop 2 body);
      status_field = take 2 (drop 4 body);
      rest = drop 2 (drop 4 body);
      whole = three_fields body 2;
      algorithm_length = length-take-le 2 body (omega (arith, long));
      step_length = field_length body 2 2 (omega (arith, long));
      status_length = field_length body 4 2 (omega (arith, long));
      algorithm_is = sym (ap (λ (said : ℕ × ℕ). said.0) is);
      step_is = sym (ap (λ (said : ℕ × ℕ). said.1) is);
    }

-- ---- a request to associate, and to reassociate

pub association-read : ReadsElements → (body : List ℕ) (listen : ℕ) (elements : List Pair)
    → IsAssociationBody body listen elements → assoc_of false body ≡ Ok (listen, elements)
association-read reads body listen elements w =
    let c = w.capability_field in
    let l = w.listen_field in
    let parts : body ≡ c ++ (l ++ w.rest) = w.whole ∙ append_assoc c l w.rest in
    let before : length (c ++ l) ≡ 4 = omega (arith, length-append c l, w.capability_length, w.listen_length) in
    let long : 4 ≤ length body = omega (arith, ap length w.whole, length-append (c ++ l) w.rest) in
    let number : number_at body 2 ≡ listen =
    number_of body c l w.rest 2 parts w.capability_length w.listen_length ∙ sym w.listen_is in
    let read : elements_of (drop 4 body) ≡ Some elements =
    ap elements_of (after body (c ++ l) w.rest 4 w.whole before) ∙ reads w.rest elements w.are_elements in
    enough 4 body (listen_with (number_at body 2) (elements_of (drop 4 body))) long
    ∙ ap (listen_with (number_at body 2)) read
    ∙ ap (λ (n : ℕ). Ok (n, elements)) number

pub reassociation-read : ReadsElements → (body : List ℕ) (listen : ℕ) (elements : List Pair)
    → IsReassociationBody body listen elements → assoc_of true body ≡ Ok (listen, elements)
reassociation-read reads body listen elements w =
    let c = w.capability_field in
    let l = w.listen_field in
    let p = w.current_ap_field in
    let parts : body ≡ c ++ (l ++ (p ++ w.rest)) =
    w.whole ∙ append_assoc (c ++ l) p w.rest ∙ append_assoc c l (p ++ w.rest) in
    let before : length ((c ++ l) ++ p) ≡ 10 =
    simp length-append (omega (arith, w.capability_length, w.listen_length, w.current_ap_length)) in
    let long : 10 ≤ length body = omega (arith, ap length w.whole, length-append ((c ++ l) ++ p) w.rest) in
    let number : number_at body 2 ≡ listen =
    number_of body c l (p ++ w.rest) 2 parts w.capability_length w.listen_length ∙ sym w.listen_is in
    let read : elements_of (drop 10 body) ≡ Some elements =
    ap elements_of (after body ((c ++ l) ++ p) w.rest 10 w.whole before) ∙ reads w.rest elements w.are_elements in
    enough 10 body (listen_with (number_at body 2) (elements_of (drop 10 body))) long
    ∙ ap (listen_with (number_at body 2)) read
    ∙ ap (λ (n : ℕ). Ok (n, elements)) number

-- the listen interval and the elements that were read
record IsListenWith (body : List ℕ) (fixed listen : ℕ) (elements : List Pair) : Type 0 where
  pub long : fixed ≤ length body
  pub listen_is : listen ≡ number_at body 2
  pub are_elements : IsElements (drop fixed body) elements

listen-with-by : FindsElements → (body : List ℕ) (fixed listen : ℕ) (elements : List Pair) (o : Option (List Pair))
    → AreOctets body → fixed ≤ length body → elements_of (drop fixed body) ≡ o
    → listen_with (number_at body 2) o ≡ Ok (listen, elements) → IsListenWith body fixed listen elements
listen-with-by finds body fixed listen elements None octets long read h = absurd (cc)
listen-with-by finds body fixed listen elements (Some es) octets long read h =
    let is : (number_at body 2, es) ≡ (listen, elements) = cc in
    let same : es ≡ elements = ap (λ (said : ℕ × List Pair). said.1) is in
    record {
      long = long;
      listen_is = sym (ap (λ (said : ℕ × List Pair). said.0) is);
      are_elements = finds (drop fixed body) elements (octets-after fixed body octets) (read ∙ ap Some same);
    }

listen-with : FindsElements → (fixed : ℕ) (body : List ℕ) (listen : ℕ) (elements : List Pair) → AreOctets body
    → with_fixed fixed body (listen_with (number_at body 2) (elements_of (drop fixed body))) ≡ Ok (listen, elements)
    → IsListenWith body fixed listen elements
listen-with finds fixed body listen elements octets h =
    let read = listen_with (number_at body 2) (elements_of (drop fixed body)) in
    let there = fixed-there fixed body read (listen, elements) h in
    listen-with-by finds body fixed listen elements (elements_of (drop fixed body)) octets there.0 refl there.1

pub association-said : FindsElements → (body : List ℕ) (listen : ℕ) (elements : List Pair) → AreOctets body
    → assoc_of false body ≡ Ok (listen, elements) → IsAssociationBody body listen elements
association-said finds body listen elements octets h =
    let said = listen-with finds 4 body listen elements octets h in
    record {
      capability_field = take 2 body;
      listen_field = take 2 (drop 2 body);
      rest = drop 4 body;
      whole = two_fields body;
      capability_length = length-take-le 2 body (omega (arith, said.long));
      listen_length = field_length body 2 2 (omega (arith, said.long));
      listen_is = said.listen_is;
      are_elements = said.are_elements;
    }

pub reassociation-said : FindsElements → (body : List ℕ) (listen : ℕ) (elements : List Pair) → AreOctets body
    → assoc_of true body ≡ Ok (listen, elements) → IsReassociationBody body listen elements
reassociation-said finds body listen elements octets h =
    let said = listen-with finds 10 body listen elements octets h in
    let two = take 2 body ++ take 2 (drop 2 body) in
    let whole : body ≡ (two ++ take 6 (drop 4 body)) ++ drop 10 body =
    three_fields body 6 ∙ ap (λ q. (two ++ take 6 (drop 4 body)) ++ q) (drop-drop 6 4 body) in
    record {
      capability_field = take 2 body;
      listen_field = take 2 (drop 2 body);
      current_ap_field = take 6 (drop 4 body);
      rest = drop 10 body;
      whole = whole;
      capability_length = length-take-le 2 body (omega (arith, said.long));
      listen_length = field_length body 2 2 (omega (arith, said.long));
      current_ap_length = field_length body 4 6 (omega (arith, said.long));
      listen_is = said.listen_is;
      are_elements = said.are_elements;
    }

-- ---- a disassociation, and a deauthentication

-- the reason that is read, whatever it is
pub reason-read : (body : List ℕ) → IsReasonBody body → reason_of body ≡ Ok (number_at body 0)
reason-read body w =
    let long : 2 ≤ length body =
    omega (arith, ap length w.whole, length-append w.reason_field w.rest, w.reason_length) in
    enough 2 body (Ok (number_at body 0)) long

pub reason-said : (body : List ℕ) (reason : ℕ) → reason_of body ≡ Ok reason → IsReasonBody body
reason-said body reason h =
    let long = (fixed-there 2 body (Ok (number_at body 0)) reason h).0 in
    record {
      reason_field = take 2 body;
      rest = drop 2 body;
      whole = cut 2 body;
      reason_length = length-take-le 2 body long;
    }
