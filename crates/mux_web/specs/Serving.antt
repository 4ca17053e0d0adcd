-- What the arguments ask for.
use Rattle.std.specs.Prelude.{◌≡◌, ◌⊎◌, ℕ, List, [], ◌∷◌, Option, Some, None, Result, Ok, Err, option_map, pos}
use Rattle.std.specs.IoError.{error_kind, raw_os_error}
use Rattle.std.specs.Net.Socket.{socket_ip}
use Rattle.std.specs.String.{string_bytes}
use Rattle.std.specs.declared.io.Error.{Error}
use Rattle.std.specs.declared.io.ErrorKind.TheVariants.{AddrNotAvailable}
use Rattle.std.specs.declared.net.socket_addr.SocketAddr.{SocketAddr}
use Rattle.mio.specs.declared.net.uds.listener.UnixListener.{UnixListener}
use Rattle.server_system.specs.Paths.{ListensAt as SocketListensAt}
use Rattle.server_system.specs.declared.host.Host.{Ghosts as System}
use Rattle.web_options.specs.Asking.{Serves, select_keys, text_of}
use Rattle.web_options.specs.Listening.{ListensAt, Origins}
use Rattle.web_options.specs.declared.fault.WebFault.{WebFault}
use Rattle.web_options.specs.declared.fault.WebFault.TheVariants as why
use Rattle.web_options.specs.declared.listening.Listen.{Listen}
use Rattle.web_options.specs.declared.listening.Listen.TheVariants.{Address, Path}
use Rattle.web_options.specs.declared.options.WebOptions.{WebOptions}
use Rattle.web_requests.specs.Machine.{AreLocal, IsLocalV4, IsLocalV6}
use Rattle.web_requests.specs.declared.site.Site.{Site}
use Rattle.web_streams.specs.declared.connections.WebListener.{WebListener}
use Rattle.web_streams.specs.declared.connections.WebListener.TheVariants.{Unix}
use Rattle.web_turn.specs.declared.bridge.Bridge.{Bridge}

-- a site for pages of the origins that are named, or that go with where browsers come in
abbrev pub IsAsked : (reads : List ℕ → Result (List ℕ) Error → Type 0) (lies : Result (List ℕ) Error → Type 0)
    → WebOptions → List (List ℕ) → Site → Type 0
IsAsked reads lies o named site =
    (listen : Listen) × (origins : List (List ℕ)) × ListensAt o.listen.now listen × Origins named listen origins
    × Serves reads lies o origins site

-- it serves this site, and has the socket, the folder of links, the bound and the window that the arguments name
pub record DoesAsAsked {S : Type 0} (o : WebOptions) (served : Site) (b : Bridge S) : Type 0 where
  pub site : b.site ≡ served
  pub socket : b.socket ≡ o.socket
  pub links : b.links ≡ o.links
  pub most : b.most ≡ o.most
  pub choice : option_map string_bytes b.halls.choice ≡ option_map select_keys (text_of o.window)

-- ---- where browsers come in

-- the machine lacks the address, or addresses of its kind
abbrev pub IsLacking : Error → Type 0
IsLacking error = (error_kind error ≡ AddrNotAvailable) ⊎ (raw_os_error error ≡ Some (pos 97))

module _ (opens : SocketAddr → Result WebListener Error → Type 0) (address : SocketAddr) where
  -- A listener at the other address that localhost may be. There is none if this address isn't localhost, or if the
  -- machine lacks the other one.
  abbrev pub IsBeside : Option WebListener → Type 0
  IsBeside (Some listener) = (other : SocketAddr) × AreLocal address other × opens other (Ok listener)
  IsBeside None =
      (IsLocalV4 (socket_ip address) ⊎ IsLocalV6 (socket_ip address) → ⊥)
      ⊎ ((other : SocketAddr) × AreLocal address other × (error : Error) × opens other (Err error) × IsLacking error)

  abbrev pub listed : Option WebListener → List WebListener
  listed None = []
  listed (Some listener) = listener ∷ []

  -- the first one listens at the address, and the second one, if there is one, at the other
  abbrev pub IsOpenAt : List WebListener → Type 0
  IsOpenAt listeners =
      (first : WebListener) × opens address (Ok first) × (second : Option WebListener) × IsBeside second
      × (listeners ≡ first ∷ listed second)

  -- the address that is named can't be listened at
  abbrev pub IsNotMade : (named : List ℕ) → WebFault → Type 0
  IsNotMade named why.NoMemory = Unit {0}
  IsNotMade named (why.NotMade name error) = (string_bytes name ≡ named) × opens address (Err error.0)
  IsNotMade named _ = ⊥

  -- the machine has the other address, but it can't be listened at
  abbrev pub IsShared : WebFault → Type 0
  IsShared (why.Shared other error) =
      AreLocal address other × opens other (Err error.0) × (IsLacking error.0 → ⊥)
  IsShared _ = ⊥

  abbrev pub CantOpen : (named : List ℕ) → WebFault → Type 0
  CantOpen named fault = IsNotMade named fault ⊎ IsShared fault

module _ {R A B C : Type 0} (system : System R A B C) where
  -- the only listener is that of the socket at this path
  abbrev pub IsSocketAt : R → List ℕ → List WebListener → Type 0
  IsSocketAt host path listeners =
      (listener : UnixListener) × SocketListensAt system host path listener × (listeners ≡ Unix listener ∷ [])

  abbrev pub IsOpenFor : (SocketAddr → Result WebListener Error → Type 0) → R → Listen → List WebListener → Type 0
  IsOpenFor opens host (Address address) listeners = IsOpenAt opens address listeners
  IsOpenFor opens host (Path path) listeners = IsSocketAt host path.now listeners

-- there is no socket to listen on, for a reason in words
abbrev pub CantBind : WebFault → Type 0
CantBind why.NoMemory = Unit {0}
CantBind (why.Socket reason) = Unit {0}
CantBind _ = ⊥

abbrev pub CantOpenFor : (SocketAddr → Result WebListener Error → Type 0) → (named : List ℕ) → Listen → WebFault → Type 0
CantOpenFor opens named (Address address) fault = CantOpen opens address named fault
CantOpenFor opens named (Path path) fault = CantBind fault
