-- Where browsers come in, and pages of which origins.
use Rattle.std.specs.Prelude.{◌≡◌, ◌⊎◌, ◌<◌, ◌^◌, ℕ, Bool, true, false, ◌&&◌, ◌||◌, ◌==◌, nat_le, nat_lt, length}
use Rattle.std.specs.Prelude.{List, [], ◌∷◌, ◌++◌, codes, decimal, drop, map, nat_eq}
use Rattle.std.specs.Borrow.{Bor}
use Rattle.std.specs.List.{list_all, list_any, starts_with, AllByRecursion}
use Rattle.std.specs.Str.Parse.{IsNumeral, digits_value, without_leading_plus}
use Rattle.std.specs.Net.Grammar.{IsIpText, IsSocketText}
use Rattle.std.specs.Net.Socket.{socket_port}
use Rattle.std.specs.String.{string_bytes}
use Rattle.std.specs.declared.net.ip_addr.IpAddr.{IpAddr}
use Rattle.std.specs.declared.net.socket_addr.SocketAddr.{SocketAddr}
use Rattle.web_requests.specs.Machine.{IsLoopback}
use Rattle.web_options.specs.declared.fault.WebFault.{WebFault}
use Rattle.web_options.specs.declared.fault.WebFault.TheVariants.{NotLocal, NotOrigin, NoOrigin, NoMemory}
use Rattle.web_options.specs.declared.listening.Listen.{Listen}
use Rattle.web_options.specs.declared.listening.Listen.TheVariants.{Address, Path}

-- ---- where browsers come in

-- it is no address with a port, or that of an address that other machines may reach
abbrev pub IsNotLocal : List ℕ → Type 0
IsNotLocal text =
    ((a : SocketAddr) → ¬ (IsSocketText text a)) ⊎ ((a : SocketAddr) × IsSocketText text a × ¬ (IsLoopback a))

-- a decimal number of 16 bits
abbrev pub IsNumber : List ℕ → Type 0
IsNumber text =
    IsNumeral 10 (without_leading_plus text) × (digits_value 10 (without_leading_plus text) < 2 ^ 16)

-- It has a slash or no colon, and is neither an address without a port nor a port without an address.
pub record IsPath (text : List ℕ) : Type 0 where
  pub shaped : (list_any (λ c. c == 0x2F) text ≡ true) ⊎ (list_any (λ c. c == 0x3A) text ≡ false)
  pub no_address : (a : IpAddr) → ¬ (IsIpText text a)
  pub no_port : ¬ (IsNumber text)

-- an address with its port that only this machine reaches; or else a path
abbrev pub ListensAt : List ℕ → Listen → Type 0
ListensAt text (Address a) = IsSocketText text a × IsLoopback a
ListensAt text (Path path) = (path.now ≡ text) × IsPath text × IsNotLocal text

abbrev pub CantListen : List ℕ → WebFault → Type 0
CantListen text NoMemory = Unit {0}
CantListen text (NotLocal named) = (string_bytes named ≡ text) × IsNotLocal text × ¬ (IsPath text)
CantListen text _ = ⊥

-- ---- origins

-- a to z, 0 to 9, or one of . - _ : [ ]
abbrev pub is_host_byte : ℕ → Bool
is_host_byte c =
    (nat_le 0x61 c && nat_le c 0x7A) || (nat_le 0x30 c && nat_le c 0x39)
    || list_any (λ it. it == c) (codes ".-_:[]")

abbrev pub is_host : List ℕ → Bool
is_host host = nat_lt 0 (length host) && list_all is_host_byte host

-- as a browser sends it: http or https, and a host, maybe with a port
abbrev pub is_origin : List ℕ → Bool
is_origin text =
    (starts_with nat_eq text (codes "https://") && is_host (drop 8 text))
    || (starts_with nat_eq text (codes "http://") && is_host (drop 7 text))

abbrev pub IsOrigin : List ℕ → Type 0
IsOrigin text = is_origin text ≡ true

-- the origins of a page at a port of this machine
abbrev pub local_origins : ℕ → List (List ℕ)
local_origins port = (codes "http://127.0.0.1:" ++ decimal port) ∷ (codes "http://[::1]:" ++ decimal port) ∷ []

-- those that are named; or if none is, those of a page at the address
abbrev pub Origins : List (List ℕ) → Listen → List (List ℕ) → Type 0
Origins [] (Address a) origins = origins ≡ local_origins (socket_port a)
Origins [] (Path path) origins = ⊥
Origins (name ∷ more) listen origins = (origins ≡ name ∷ more) × AllByRecursion IsOrigin (name ∷ more)

abbrev pub IsNoOrigin : List ℕ → WebFault → Type 0
IsNoOrigin name NoMemory = Unit {0}
IsNoOrigin name (NotOrigin text) = (string_bytes text ≡ name) × ¬ (IsOrigin name)
IsNoOrigin name _ = ⊥

-- the first of the names that is no origin
pub record IsWrong (named : List (List ℕ)) (fault : WebFault) : Type 0 where
  pub before : List (List ℕ)
  pub name : List ℕ
  pub after : List (List ℕ)
  pub place : named ≡ before ++ name ∷ after
  pub good : AllByRecursion IsOrigin before
  pub bad : IsNoOrigin name fault

-- a name is wrong; or none is named for a path
abbrev pub HasNoOrigins : List (List ℕ) → Listen → WebFault → Type 0
HasNoOrigins [] (Address a) fault = fault ≡ NoMemory
HasNoOrigins [] (Path path) fault = fault ≡ NoOrigin
HasNoOrigins (name ∷ more) listen fault = IsWrong (name ∷ more) fault

-- what the arguments are
abbrev pub texts : List (Bor (List ℕ)) → List (List ℕ)
texts named = map (λ it. it.now) named
