-- What a station asks (IEEE Std 802.11-2016, 9.3): the one request of a string of octets, and the first fault of a
-- string that holds none. What the body of each kind says stands with its kind.
use Rattle.std.specs.Prelude.{ℕ, ◌==◌, Bool, true, false, List, Option, Result, Ok, Err, if◌then◌else◌}
use Rattle.mac_frame.specs.Management.{association_request_subtype, reassociation_request_subtype}
use Rattle.mac_frame.specs.Management.{probe_request_subtype, disassociation_subtype}
use Rattle.mac_frame.specs.Management.{authentication_subtype, deauthentication_subtype}
use Rattle.mac_frame.specs.Frame.{Frame, IsFrame, frame_of}
use Rattle.mac_frame.specs.Rx as heard
use Rattle.mac_frame.specs.declared.frame.Unread.{Unread}
use Rattle.mac_frame.specs.declared.frame.Unread.TheVariants.{Kind}
use Rattle.elements.specs.Elements.{Pair}
use Rattle.association.specs.Probe.{IsProbeBody, probe_of}
use Rattle.association.specs.Authentication.{IsAuthenticationBody, auth_of}
use Rattle.association.specs.Joining.{IsAssociationBody, IsReassociationBody, assoc_of}
use Rattle.association.specs.Leaving.{IsReasonBody, reason_of}

-- a request of a station
pub data Request : Type 0 where
  -- a probe request (9.3.3.10), with the SSID that it names, if it names one
  Probe : (from : List ℕ) (ssid : Option (List ℕ)) → Request
  -- a request to authenticate (9.3.3.12), by this algorithm, at this step
  Auth : (from : List ℕ) (algorithm step : ℕ) → Request
  -- a request to associate (9.3.3.6), or again: to reassociate (9.3.3.8), with its listen interval
  Assoc : (from : List ℕ) (again : Bool) (listen : ℕ) (elements : List Pair) → Request
  -- the end of an association (9.3.3.5)
  Disassoc : (from : List ℕ) → Request
  -- the end of an authentication (9.3.3.13)
  Deauth : (from : List ℕ) → Request
  -- a unit to be passed on (9.3.2.1): whether the station dozes from now on, for whom it is, and its body
  Msdu : (from : List ℕ) (doze : Bool) (to body : List ℕ) → Request
  -- the mode of the station alone (9.3.2.1): whether it dozes from now on
  Null : (from : List ℕ) (doze : Bool) → Request
  -- a poll for what is kept (9.3.1.5), with the identifier that it names
  Poll : (from : List ℕ) (aid : ℕ) → Request

-- the station
abbrev pub sender : Request → List ℕ
sender (Probe from ssid) = from
sender (Auth from algorithm step) = from
sender (Assoc from again listen elements) = from
sender (Disassoc from) = from
sender (Deauth from) = from
sender (Msdu from doze to body) = from
sender (Null from doze) = from
sender (Poll from aid) = from

-- ---- as a relation

-- the string is a management frame of this subtype, from this station, with such a body
pub record IsAsked (bss x : List ℕ) (subtype : ℕ) (from : List ℕ) (Says : List ℕ → Type 0) : Type 0 where
  pub to_all : Bool
  pub body : List ℕ
  pub frame : IsFrame bss x (heard.Mgmt subtype from to_all body)
  pub says : Says body

-- the string is this request for the network
abbrev pub IsRequest : List ℕ → List ℕ → Request → Type 0
IsRequest bss x (Probe from ssid) = IsAsked bss x probe_request_subtype from (λ body. IsProbeBody body ssid)
IsRequest bss x (Auth from algorithm step) =
    IsAsked bss x authentication_subtype from (λ body. IsAuthenticationBody body algorithm step)
IsRequest bss x (Assoc from true listen elements) =
    IsAsked bss x reassociation_request_subtype from (λ body. IsReassociationBody body listen elements)
IsRequest bss x (Assoc from false listen elements) =
    IsAsked bss x association_request_subtype from (λ body. IsAssociationBody body listen elements)
IsRequest bss x (Disassoc from) = IsAsked bss x disassociation_subtype from IsReasonBody
IsRequest bss x (Deauth from) = IsAsked bss x deauthentication_subtype from IsReasonBody
IsRequest bss x (Msdu from doze to body) = IsFrame bss x (heard.Msdu from doze to body)
IsRequest bss x (Null from doze) = IsFrame bss x (heard.Null from doze)
IsRequest bss x (Poll from aid) = IsFrame bss x (heard.Poll from aid)

-- ---- as a function

-- the request of what a body says, or the fault of the body
abbrev pub request_on : {A : Type 0} → (A → Request) → Result A Unread → Result Request Unread
request_on request (Ok said) = Ok (request said)
request_on request (Err fault) = Err fault

-- the request to associate, or again: to reassociate, with this body
abbrev pub asked_to_associate : (from : List ℕ) (again : Bool) (body : List ℕ) → Result Request Unread
asked_to_associate from again body = request_on (λ said. Assoc from again said.0 said.1) (assoc_of again body)

-- the request of a management frame, by its subtype, its station and its body
abbrev pub asked_by : ℕ → List ℕ → List ℕ → Result Request Unread
asked_by subtype from body =
    if subtype == association_request_subtype then asked_to_associate from false body
    else if subtype == reassociation_request_subtype then asked_to_associate from true body
    else if subtype == probe_request_subtype then request_on (λ ssid. Probe from ssid) (probe_of body)
    else if subtype == disassociation_subtype then request_on (λ _. Disassoc from) (reason_of body)
    else if subtype == authentication_subtype then request_on (λ said. Auth from said.0 said.1) (auth_of body)
    else if subtype == deauthentication_subtype then request_on (λ _. Deauth from) (reason_of body)
    else Err Kind

-- the request of a frame: of a management frame by its body, of any other as it stands
abbrev pub request_in : Frame → Result Request Unread
request_in (heard.Mgmt subtype from to_all body) = asked_by subtype from body
request_in (heard.Msdu from doze to body) = Ok (Msdu from doze to body)
request_in (heard.Null from doze) = Ok (Null from doze)
request_in (heard.Poll from aid) = Ok (Poll from aid)

-- the request of what was read
abbrev pub request_read : Result Frame Unread → Result Request Unread
request_read (Ok f) = request_in f
request_read (Err fault) = Err fault

-- the request of a string for the network, or its first fault
abbrev pub request_of : List ℕ → List ℕ → Result Request Unread
request_of bss x = request_read (frame_of bss x)
