-- What a bridge serves, and what answers a request.
use Rattle.std.specs.Prelude.{◌≡◌, ◌⊎◌, ℕ, ◌<◌, ◌≤◌, Bool, true, false, cond, List, [], ◌∷◌, ◌++◌, length, map, take}
use Rattle.std.specs.Prelude.{find, codes, bytes_eq, nat_eq, decimal, Option, None, Some, unwrap_or, Result, Ok, Err}
use Rattle.std.specs.Prelude.{MatchBool}
use Rattle.std.specs.List.{list_any, ends_with}
use Rattle.std.specs.String.{string_bytes}
use Rattle.httparse.specs.declared.spans.HeaderSpan.{HeaderSpan}
use Rattle.httparse.specs.declared.spans.RequestSpans.{RequestSpans}
use Rattle.httparse.specs.Grammar.{RequestHead, print_request, ReadsRequest, HasNoRequest, MayBecomeRequest}
use Rattle.httparse.specs.Spans.{span_bytes, name_and_value, RequestOverflows}
use Rattle.websocket.specs.declared.handshake.failure.HandshakeError.{HandshakeError}
use Rattle.websocket.specs.Headers.{Fields, fields_of, eq_ignore_case, field_line, crlf}
use Rattle.websocket.specs.Handshake.{requested_key, IsValidKey, accept_key_of, response_bytes}
use Rattle.web_requests.specs.declared.site.SiteFile.{SiteFile}
use Rattle.web_requests.specs.declared.site.Site.{Site}
use Rattle.web_requests.specs.declared.requests.Response.{Response}
use Rattle.web_requests.specs.declared.requests.Response.TheVariants.{Part, Page, Socket}

-- ---- files

-- the kind of a file, by the end of its name
unfoldable pub kind_of : List ℕ → List ℕ
kind_of path =
    cond (ends_with nat_eq path (codes ".html")) (codes "text/html; charset=utf-8")
    (cond (ends_with nat_eq path (codes ".js")) (codes "text/javascript; charset=utf-8")
    (cond (ends_with nat_eq path (codes ".css")) (codes "text/css; charset=utf-8")
    (codes "application/octet-stream")))

-- the path of the page itself is that of its file
abbrev pub path_of : List ℕ → List ℕ
path_of path = cond (bytes_eq path (codes "/")) (codes "/index.html") path

-- the first file whose path is asked for
abbrev pub file_at : List SiteFile → List ℕ → Option SiteFile
file_at files path = find (λ f. bytes_eq (string_bytes f.path) (path_of path)) files

-- pages of this origin may speak with the bridge
abbrev pub lets_in : Site → List ℕ → Bool
lets_in site origin = list_any (λ o. bytes_eq (string_bytes o) origin) site.origins.items

-- ---- answers

-- what each answer says to a browser: no code but of files of this origin, no frames, nothing kept
unfoldable pub guards : List ℕ
guards =
    field_line (codes "Content-Security-Policy")
    (codes "default-src 'none'; script-src 'self'; style-src 'self'; connect-src 'self'; "
    ++ codes "img-src data:; base-uri 'none'; form-action 'none'; frame-ancestors 'none'")
    ++ field_line (codes "X-Content-Type-Options") (codes "nosniff")
    ++ field_line (codes "Referrer-Policy") (codes "no-referrer")
    ++ field_line (codes "Cache-Control") (codes "no-store")
    ++ field_line (codes "Cross-Origin-Opener-Policy") (codes "same-origin")
    ++ field_line (codes "Cross-Origin-Resource-Policy") (codes "same-origin")
    ++ field_line (codes "X-Frame-Options") (codes "DENY")
    ++ field_line (codes "Connection") (codes "close") ++ crlf

abbrev pub head_of : (status kind : List ℕ) → ℕ → List ℕ
head_of status kind n =
    codes "HTTP/1.1 " ++ (status ++ (codes "\r\nContent-Type: " ++ (kind ++ (codes "\r\nContent-Length: "
    ++ (decimal n ++ crlf)))))

-- an answer with a body, which is left out for HEAD
unfoldable pub reply : (status kind body : List ℕ) → Bool → List ℕ
reply status kind body is_shown = head_of status kind (length body) ++ (guards ++ cond is_shown body [])

-- an answer that only has a status
abbrev pub refusal : List ℕ → List ℕ
refusal status = reply status (codes "text/plain") status true

abbrev pub reply_with : Option SiteFile → Bool → List ℕ
reply_with None is_shown = refusal (codes "404 Not Found")
reply_with (Some f) is_shown = reply (codes "200 OK") f.kind.now f.content.items is_shown

-- ---- requests

-- the head of a request: its parts, and how many bytes it has
pub record Request : Type 0 where
  pub method : List ℕ
  pub path : List ℕ
  pub minor : ℕ
  pub fields : Fields
  pub len : ℕ

abbrev pub request_of : RequestHead → Request
request_of h = record {
  method = h.method;
  path = h.target;
  minor = h.minor;
  fields = map name_and_value h.fields;
  len = length (print_request h);
}

-- the parts that spans cover
abbrev pub spanned : List ℕ → List HeaderSpan → RequestSpans → Request
spanned head spans found = record {
  method = span_bytes head found.method;
  path = span_bytes head found.path;
  minor = found.version;
  fields = fields_of head (take found.headers spans);
  len = found.len;
}

unfoldable pub values : Fields → List ℕ → List (List ℕ)
values [] name = []
values (f ∷ fs) name = cond (eq_ignore_case f.0 name) (f.1 ∷ values fs name) (values fs name)

abbrev pub only : List (List ℕ) → Option (List ℕ)
only [] = None
only (v ∷ []) = Some v
only (v ∷ w ∷ more) = None

-- the value of the one field of this name: none if there is no such field, or more than one
abbrev pub value_of : Fields → List ℕ → Option (List ℕ)
value_of fields name = only (values fields name)

-- the address that the web server before the bridge saw: at most 64 bytes of it
abbrev pub address_of : Fields → List ℕ
address_of fields = take 64 (unwrap_or (value_of fields (codes "X-Real-IP")) [])

-- the request comes from a page that may speak with the bridge
abbrev pub is_let_in : Site → Option (List ℕ) → Bool
is_let_in site None = false
is_let_in site (Some origin) = lets_in site origin

-- ---- what answers a request

abbrev pub IsPage : List ℕ → Response → Type 0
IsPage bytes Part = ⊥
IsPage bytes (Page made) = made.items ≡ bytes
IsPage bytes (Socket upgrade) = ⊥

abbrev pub IsPart : Response → Type 0
IsPart Part = Unit {0}
IsPart (Page made) = ⊥
IsPart (Socket upgrade) = ⊥

-- A WebSocket begins after the bytes of the request.
abbrev pub Opens : (accept : List ℕ) (request : ℕ) (address : List ℕ) → Response → Type 0
Opens accept request address Part = ⊥
Opens accept request address (Page made) = ⊥
Opens accept request address (Socket upgrade) =
    (upgrade.answer.items ≡ response_bytes accept []) × (upgrade.request ≡ request)
    × (upgrade.address.items ≡ address)

-- by RFC 6455: the key of the request, or why it is no request for a WebSocket
abbrev pub Upgrades : Request → Result (List ℕ) HandshakeError → Response → Type 0
Upgrades q (Err e) answer = IsPage (refusal (codes "400 Bad Request")) answer
Upgrades q (Ok key) answer =
    (¬ (IsValidKey key) × IsPage (refusal (codes "400 Bad Request")) answer)
    ⊎ (IsValidKey key × Opens (accept_key_of key) q.len (address_of q.fields) answer)

-- a request for the rows
abbrev pub AnswersSocket : Site → Request → Response → Type 0
AnswersSocket site q answer =
    MatchBool (is_let_in site (value_of q.fields (codes "Origin")))
    (Upgrades q (requested_key q.method q.minor q.fields) answer)
    (IsPage (refusal (codes "403 Forbidden")) answer)

-- a request for a file
abbrev pub page_for : Site → (method path : List ℕ) → List ℕ
page_for site method path =
    cond (bytes_eq method (codes "GET")) (reply_with (file_at site.files.items path) true)
    (cond (bytes_eq method (codes "HEAD")) (reply_with (file_at site.files.items path) false)
    (refusal (codes "405 Method Not Allowed")))

abbrev pub AnswersRequest : Site → Request → Response → Type 0
AnswersRequest site q answer =
    MatchBool (bytes_eq q.path (codes "/rows")) (AnswersSocket site q answer)
    (IsPage (page_for site q.method q.path) answer)

-- The bytes begin with a request, or may still become one, or have no request's head of at most 64 fields.
abbrev pub AnswersBytes : Site → List ℕ → Response → Type 0
AnswersBytes site bytes answer =
    ((h : RequestHead) × (rest : List ℕ) × ReadsRequest bytes h rest × AnswersRequest site (request_of h) answer)
    ⊎ ((HasNoRequest bytes × MayBecomeRequest bytes × (length bytes < 16384) × IsPart answer)
    ⊎ ((HasNoRequest bytes × (16384 ≤ length bytes)
    × IsPage (refusal (codes "431 Request Header Fields Too Large")) answer)
    ⊎ (RequestOverflows 64 bytes × IsPage (refusal (codes "400 Bad Request")) answer)))
