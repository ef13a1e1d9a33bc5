-- A request, by the frame of a string.
use Rattle.std.proofs.Common.{◌≡◌, ℕ, ◌<◌, Bool, true, List, Result, Ok, Err, refl, ap, subst, ◌∙◌}
use Rattle.std.specs.Prelude.{IfOk, IsOkAnd, MatchResult, slice_index}
use Rattle.mac_frame.specs.Frame.{Frame, IsFrame, frame_of}
use Rattle.mac_frame.specs.Rx as heard
use Rattle.mac_frame.specs.declared.frame.Unread.{Unread}
use Rattle.association.specs.Asked.{shown}
use Rattle.association.specs.Request.{Request, Assoc, Msdu, Null, Poll, sender, IsAsked, IsRequest, request_in}
use Rattle.association.specs.Request.{request_read, request_of}
use Rattle.association.specs.declared.request.Request.{Request as Asked}
use Rattle.association.proofs.Bodies.{ReadsElements, FindsElements}
use Rattle.association.proofs.Requests.{subtype_of, Says, says-read, read-says}

-- each string is read as its one frame
abbrev pub ReadsFrames : Type 0
ReadsFrames = (bss x : List ℕ) (f : Frame) → IsFrame bss x f → frame_of bss x ≡ Ok f

abbrev pub FindsFrames : Type 0
FindsFrames = (bss x : List ℕ) (f : Frame) → frame_of bss x ≡ Ok f → IsFrame bss x f

abbrev pub KeepsOctets : Type 0
KeepsOctets =
    (bss x : List ℕ) (subtype : ℕ) (from : List ℕ) (to_all : Bool) (body : List ℕ)
    → IsFrame bss x (heard.Mgmt subtype from to_all body) → ((place : ℕ) → slice_index x place < 256) → (place : ℕ)
    → slice_index body place < 256

-- ---- the frame that a request stands on

-- the request of a management frame
abbrev IsManaged : List ℕ → List ℕ → Request → Type 0
IsManaged bss x r = IsAsked bss x (subtype_of r) (sender r) (λ body. Says body r)

managed : (bss x : List ℕ) (r : Request) → IsManaged bss x r → IsRequest bss x r
managed bss x (Msdu from doze to body) w = absurd w.says
managed bss x (Null from doze) w = absurd w.says
managed bss x (Poll from aid) w = absurd w.says
managed bss x (Assoc from true listen elements) w = w
managed bss x _ w = w

-- the frame, and what is read of it
pub record StandsOn (bss x : List ℕ) (r : Request) : Type 0 where
  pub heard_frame : Frame
  pub frame : IsFrame bss x heard_frame
  pub read : request_in heard_frame ≡ Ok r

on-management : ReadsElements → (bss x : List ℕ) (r : Request) → IsManaged bss x r → StandsOn bss x r
on-management reads bss x r w =
    record {
      heard_frame = heard.Mgmt (subtype_of r) (sender r) w.to_all w.body;
      frame = w.frame;
      read = says-read reads w.body r w.says;
    }

pub stands-on : ReadsElements → (bss x : List ℕ) (r : Request) → IsRequest bss x r → StandsOn bss x r
stands-on reads bss x (Msdu from doze to body) w =
    record { heard_frame = heard.Msdu from doze to body; frame = w; read = refl }
stands-on reads bss x (Null from doze) w = record { heard_frame = heard.Null from doze; frame = w; read = refl }
stands-on reads bss x (Poll from aid) w = record { heard_frame = heard.Poll from aid; frame = w; read = refl }
stands-on reads bss x (Assoc from true listen elements) w =
    on-management reads bss x (Assoc from true listen elements) w
stands-on reads bss x r w = on-management reads bss x r w

-- ---- a request is what the function gives, and the reverse

pub request-read : ReadsFrames → ReadsElements → (bss x : List ℕ) (r : Request) → IsRequest bss x r
    → request_of bss x ≡ Ok r
request-read frames reads bss x r w =
    let on = stands-on reads bss x r w in
    ap request_read (frames bss x on.heard_frame on.frame) ∙ on.read

found-in : (bss x : List ℕ) (f : Frame) (r : Request) → KeepsOctets → FindsElements
    → ((place : ℕ) → slice_index x place < 256) → IsFrame bss x f → request_in f ≡ Ok r → IsRequest bss x r
found-in bss x (heard.Mgmt subtype from to_all body) r keeps found octets frame h =
    let said = read-says found subtype from body r (keeps bss x subtype from to_all body frame octets) h in
    let of_subtype : IsFrame bss x (heard.Mgmt (subtype_of r) from to_all body) =
    subst (λ (n : ℕ). IsFrame bss x (heard.Mgmt n from to_all body)) said.subtype_is frame in
    let same : IsFrame bss x (heard.Mgmt (subtype_of r) (sender r) to_all body) =
    subst (λ (s : List ℕ). IsFrame bss x (heard.Mgmt (subtype_of r) s to_all body)) said.from_is of_subtype in
    managed bss x r (record { to_all = to_all; body = body; frame = same; says = said.says })
found-in bss x (heard.Msdu from doze to body) r keeps found octets frame h =
    let is : Msdu from doze to body ≡ r = cc in subst (IsRequest bss x) is frame
found-in bss x (heard.Null from doze) r keeps found octets frame h =
    let is : Null from doze ≡ r = cc in subst (IsRequest bss x) is frame
found-in bss x (heard.Poll from aid) r keeps found octets frame h =
    let is : Poll from aid ≡ r = cc in subst (IsRequest bss x) is frame

found-of : (bss x : List ℕ) (read : Result Frame Unread) (r : Request) → FindsFrames → KeepsOctets → FindsElements
    → ((place : ℕ) → slice_index x place < 256) → frame_of bss x ≡ read → request_read read ≡ Ok r → IsRequest bss x r
found-of bss x (Ok f) r finds keeps found octets is h = found-in bss x f r keeps found octets (finds bss x f is) h
found-of bss x (Err fault) r finds keeps found octets is h = absurd (cc)

pub request-found : FindsFrames → KeepsOctets → FindsElements → (bss x : List ℕ) (r : Request)
    → ((place : ℕ) → slice_index x place < 256) → request_of bss x ≡ Ok r → IsRequest bss x r
request-found finds keeps found bss x r octets h = found-of bss x (frame_of bss x) r finds keeps found octets refl h

-- ---- what is read

-- by which request or fault it is
abbrev pub IsReading : List ℕ → List ℕ → Result Asked Unread → Type 0
IsReading bss x read =
    MatchResult read (λ request. request_of bss x ≡ Ok (shown request)) (λ fault. request_of bss x ≡ Err fault)

pub reads-request : FindsFrames → KeepsOctets → FindsElements → (bss x : List ℕ) (read : Result Asked Unread)
    → ((place : ℕ) → slice_index x place < 256) → IsReading bss x read
    → IfOk read (λ request. IsRequest bss x (shown request))
reads-request finds keeps found bss x (Ok request) octets h =
    request-found finds keeps found bss x (shown request) octets h
reads-request finds keeps found bss x (Err fault) octets h = tt

pub reads-only : ReadsFrames → ReadsElements → (bss x : List ℕ) (read : Result Asked Unread) → IsReading bss x read
    → (r : Request) → IsRequest bss x r → IsOkAnd read (λ request. shown request ≡ r)
reads-only frames reads bss x (Ok request) h r w = let is = request-read frames reads bss x r w in cc
reads-only frames reads bss x (Err fault) h r w = let is = request-read frames reads bss x r w in absurd (cc)

-- ---- what is read of a frame, is read of its string

pub of-frame : (bss x : List ℕ) (f : Frame) (read : Result Asked Unread) → frame_of bss x ≡ Ok f
    → MatchResult read (λ request. request_in f ≡ Ok (shown request)) (λ fault. request_in f ≡ Err fault)
    → IsReading bss x read
of-frame bss x f (Ok request) is h = ap request_read is ∙ h
of-frame bss x f (Err fault) is h = ap request_read is ∙ h
