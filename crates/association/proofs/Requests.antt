-- A request of a management frame, by the frame and the body that it stands on.
use Rattle.std.proofs.Common.{◌≡◌, ℕ, Bool, true, false, eqb, List, Option, Result, Ok, Err, refl, sym, ap, subst}
use Rattle.std.specs.Prelude.{if◌then◌else◌}
use borrow.Author.Tests.{eqb-true}
use Rattle.mac_frame.specs.declared.frame.Unread.{Unread}
use Rattle.mac_frame.specs.Management.{association_request_subtype, reassociation_request_subtype}
use Rattle.mac_frame.specs.Management.{probe_request_subtype, disassociation_subtype}
use Rattle.mac_frame.specs.Management.{authentication_subtype, deauthentication_subtype}
use Rattle.elements.specs.Elements.{Pair}
use Rattle.association.specs.Probe.{IsProbeBody, probe_of}
use Rattle.association.specs.Authentication.{IsAuthenticationBody, auth_of}
use Rattle.association.specs.Joining.{IsAssociationBody, IsReassociationBody, assoc_of}
use Rattle.association.specs.Leaving.{IsReasonBody, reason_of}
use Rattle.association.specs.Request.{Request, Probe, Auth, Assoc, Disassoc, Deauth}
use Rattle.association.specs.Request.{sender, request_on, asked_by}
use Rattle.association.proofs.Bodies.{AreOctets, ReadsElements, FindsElements, probe-read, probe-said, auth-read}
use Rattle.association.proofs.Bodies.{auth-said}
use Rattle.association.proofs.Bodies.{association-read, association-said, reassociation-read, reassociation-said}
use Rattle.association.proofs.Bodies.{reason-read, reason-said}

-- the subtype of a request's frame, where that is a management frame
abbrev pub subtype_of : Request → ℕ
subtype_of (Probe from ssid) = probe_request_subtype
subtype_of (Auth from algorithm step) = authentication_subtype
subtype_of (Assoc from true listen elements) = reassociation_request_subtype
subtype_of (Assoc from false listen elements) = association_request_subtype
subtype_of (Disassoc from) = disassociation_subtype
subtype_of (Deauth from) = deauthentication_subtype
subtype_of _ = 0

-- the body of its management frame says it
abbrev pub Says : List ℕ → Request → Type 0
Says body (Probe from ssid) = IsProbeBody body ssid
Says body (Auth from algorithm step) = IsAuthenticationBody body algorithm step
Says body (Assoc from true listen elements) = IsReassociationBody body listen elements
Says body (Assoc from false listen elements) = IsAssociationBody body listen elements
Says body (Disassoc from) = IsReasonBody body
Says body (Deauth from) = IsReasonBody body
Says body _ = ⊥

-- ---- what a body says is read of it

pub says-read : ReadsElements → (body : List ℕ) (r : Request) → Says body r
    → asked_by (subtype_of r) (sender r) body ≡ Ok r
says-read reads body (Probe from ssid) w = ap (request_on (λ s. Probe from s)) (probe-read reads body ssid w)
says-read reads body (Auth from algorithm step) w =
    ap (request_on (λ (said : ℕ × ℕ). Auth from said.0 said.1)) (auth-read body algorithm step w)
says-read reads body (Assoc from true listen elements) w =
    ap (request_on (λ (said : ℕ × List Pair). Assoc from true said.0 said.1))
    (reassociation-read reads body listen elements w)
says-read reads body (Assoc from false listen elements) w =
    ap (request_on (λ (said : ℕ × List Pair). Assoc from false said.0 said.1))
    (association-read reads body listen elements w)
says-read reads body (Disassoc from) w = ap (request_on (λ (_ : ℕ). Disassoc from)) (reason-read body w)
says-read reads body (Deauth from) w = ap (request_on (λ (_ : ℕ). Deauth from)) (reason-read body w)
says-read reads body _ w = absurd w

-- ---- what is read of a body is what it says

-- the request is of this subtype and station, and the body says it
pub record IsSaid (subtype : ℕ) (from body : List ℕ) (r : Request) : Type 0 where
  pub subtype_is : subtype ≡ subtype_of r
  pub from_is : from ≡ sender r
  pub says : Says body r

-- what was read of a body that gave a request
told : {A : Type 0} (n : ℕ) (from body : List ℕ) (r : Request) (request : A → Request) (read : Result A Unread)
    → request_on request read ≡ Ok r → ((said : A) → read ≡ Ok said → IsSaid n from body (request said))
    → IsSaid n from body r
told n from body r request (Ok said) h each =
    let is : request said ≡ r = cc in subst (IsSaid n from body) is (each said refl)
told n from body r request (Err fault) h each = absurd (cc)

-- a request is told under its subtype, or by a later test
tested : (n subtype : ℕ) (from body : List ℕ) (r : Request) (b : Bool) (x y : Result Request Unread)
    → eqb subtype n ≡ b → (if b then x else y) ≡ Ok r → (x ≡ Ok r → IsSaid n from body r)
    → (y ≡ Ok r → IsSaid subtype from body r) → IsSaid subtype from body r
tested n subtype from body r true x y same h here later =
    subst (λ (m : ℕ). IsSaid m from body r) (sym (eqb-true subtype n same)) (here h)
tested n subtype from body r false x y same h here later = later h

-- by the tests of `asked_by`, one after the other
pub read-says : FindsElements → (subtype : ℕ) (from body : List ℕ) (r : Request) → AreOctets body
    → asked_by subtype from body ≡ Ok r → IsSaid subtype from body r
read-says finds subtype from body r octets h =
    tested 0 subtype from body r (eqb subtype 0) _ _ refl h
    (λ e. told 0 from body r (λ (said : ℕ × List Pair). Assoc from false said.0 said.1) (assoc_of false body) e
    (λ said read. record {
      subtype_is = refl;
      from_is = refl;
      says = association-said finds body said.0 said.1 octets read;
    }))
    (λ h. tested 2 subtype from body r (eqb subtype 2) _ _ refl h
    (λ e. told 2 from body r (λ (said : ℕ × List Pair). Assoc from true said.0 said.1) (assoc_of true body) e
    (λ said read. record {
      subtype_is = refl;
      from_is = refl;
      says = reassociation-said finds body said.0 said.1 octets read;
    }))
    (λ h. tested 4 subtype from body r (eqb subtype 4) _ _ refl h
    (λ e. told 4 from body r (λ (ssid : Option (List ℕ)). Probe from ssid) (probe_of body) e
    (λ ssid read. record { subtype_is = refl; from_is = refl; says = probe-said finds body ssid octets read }))
    (λ h. tested 10 subtype from body r (eqb subtype 10) _ _ refl h
    (λ e. told 10 from body r (λ (_ : ℕ). Disassoc from) (reason_of body) e
    (λ reason read. record { subtype_is = refl; from_is = refl; says = reason-said body reason read }))
    (λ h. tested 11 subtype from body r (eqb subtype 11) _ _ refl h
    (λ e. told 11 from body r (λ (said : ℕ × ℕ). Auth from said.0 said.1) (auth_of body) e
    (λ said read. record { subtype_is = refl; from_is = refl; says = auth-said body said.0 said.1 read }))
    (λ h. tested 12 subtype from body r (eqb subtype 12) _ _ refl h
    (λ e. told 12 from body r (λ (_ : ℕ). Deauth from) (reason_of body) e
    (λ reason read. record { subtype_is = refl; from_is = refl; says = reason-said body reason read }))
    (λ none. absurd (cc none)))))))
