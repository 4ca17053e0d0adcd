-- What the arguments ask for.
use Rattle.std.specs.Prelude.{◌≡◌, ◌≢◌, ◌⊎◌, ℕ, Bool, true, false, ◌==◌, cond, List, [], ◌∷◌, ◌++◌, codes, length, take}
use Rattle.std.specs.Prelude.{Option, Some, None, IsSome, option_map, unwrap_or, ◌-◌, slice_index, Result, Ok, Err, map}
use Rattle.std.specs.Char.{encode_utf8, is_control}
use Rattle.std.specs.List.{AllByRecursion, flat_map}
use Rattle.std.specs.Str.{chars}
use Rattle.std.specs.Str.Parse.{digits_value, without_leading_plus}
use Rattle.web_options.specs.Listening.{IsNumber}
use Rattle.std.specs.String.{string_bytes}
use Rattle.std.specs.declared.io.Error.{Error}
use Rattle.acl.specs.Names.{named_by}
use Rattle.attach_proto.specs.Texts.{token_of}
use Rattle.clap.specs.Words.{first_value, one_text}
use Rattle.clap.specs.declared.parser.matches.Found.{Found}
use Rattle.std.specs.Borrow.{Bor}
use Rattle.web_requests.specs.declared.site.Site.{Site}
use Rattle.web_requests.specs.declared.site.SiteFile.{SiteFile}
use Rattle.web_requests.specs.declared.site.Watcher.{Watcher}
use Rattle.web_options.specs.declared.fault.WebFault.{WebFault}
use Rattle.web_options.specs.declared.fault.WebFault.TheVariants as why
use Rattle.web_options.specs.declared.options.WebOptions.{WebOptions}

abbrev pub text_of : Option (Bor (List ℕ)) → Option (List ℕ)
text_of given = option_map (λ it. it.now) given

-- each option has the value of the argument of its name
pub record IsAskedFor (f : Found) (o : WebOptions) : Type 0 where
  pub socket : o.socket.now ≡ unwrap_or (first_value f (codes "socket")) []
  pub listen : o.listen.now ≡ unwrap_or (first_value f (codes "listen")) []
  pub watch : text_of o.watch ≡ first_value f (codes "watch")
  pub watch_token : text_of o.watch_token ≡ first_value f (codes "watch-token")
  pub window : text_of o.window ≡ first_value f (codes "window")
  pub links : text_of o.links ≡ first_value f (codes "links")
  pub page : text_of o.page ≡ first_value f (codes "page")
  pub most : (text : List ℕ) → one_text f (codes "most") ≡ Some text → IsNumber text
      → o.most ≡ digits_value 10 (without_leading_plus text)
  pub tells : one_text f (codes "log") ≡ Some (codes "true") → o.tells ≡ true
  pub quiet : one_text f (codes "log") ≡ Some (codes "false") → o.tells ≡ false

-- ---- the window that watchers see

-- A quote ends the quotes, stands alone, and begins them again. A control isn't typed.
abbrev pub quoted : ℕ → List ℕ
quoted c = cond (c == 0x27) (codes "'\\''") (cond (is_control c) [] (encode_utf8 c))

-- the keys of select 'WINDOW' at the prompt
abbrev pub select_keys : List ℕ → List ℕ
select_keys window = 0x01 ∷ (codes ":select '" ++ (flat_map quoted (chars window) ++ codes "'\r"))

-- ---- who watches

-- a file's bytes without a line feed at their end
abbrev pub line_of : List ℕ → List ℕ
line_of file = cond (slice_index file (length file - 1) == 0x0A) (take (length file - 1) file) file

module _ (reads : List ℕ → Result (List ℕ) Error → Type 0) where
  -- what was read at a path has this token, or none
  abbrev pub Holds : List ℕ → Option (List ℕ) → Type 0
  Holds path token = (file : List ℕ) × reads path (Ok file) × (token_of (line_of file) ≡ token)

  -- Anybody may watch only as the user who is named, and only with the token of the file that is named.
  abbrev pub MayWatch : (watch file window : Option (List ℕ)) → Option Watcher → Type 0
  MayWatch (Some name) (Some path) window (Some w) =
      (string_bytes w.name ≡ name) × IsSome (named_by name) × Holds path (Some w.token)
  MayWatch None None None None = Unit {0}
  MayWatch _ _ _ _ = ⊥

  -- the name is no user's, or the file at this path has no token
  abbrev pub HasNoToken : (name path : List ℕ) → WebFault → Type 0
  HasNoToken name path why.NoMemory = Unit {0}
  HasNoToken name path (why.NoName said) = (string_bytes said ≡ name) × (named_by name ≡ None)
  HasNoToken name path (why.NoFile said error) = (string_bytes said ≡ path) × reads path (Err error.0)
  HasNoToken name path (why.NoToken said) = (string_bytes said ≡ path) × Holds path None
  HasNoToken name path _ = ⊥

  -- the user and the file go together, and a window with both
  abbrev pub CantWatch : (watch file window : Option (List ℕ)) → WebFault → Type 0
  CantWatch (Some name) (Some path) window fault = HasNoToken name path fault
  CantWatch None None (Some window) fault = fault ≡ why.NobodyWatches
  CantWatch None None None fault = ⊥
  CantWatch (Some name) None window fault = fault ≡ why.Alone
  CantWatch None (Some path) window fault = fault ≡ why.Alone

-- ---- the page

-- the paths of its files
abbrev pub page_paths : List (List ℕ)
page_paths = codes "/index.html" ∷ codes "/mux.js" ∷ codes "/mux.css" ∷ []

-- the page's folder: the one that is named, or the one beside the program
abbrev pub IsFolder : (Result (List ℕ) Error → Type 0) → Option (List ℕ) → List ℕ → Type 0
IsFolder lies None folder = lies (Ok folder)
IsFolder lies (Some named) folder = folder ≡ named

-- a file's content was read at its own path in the folder
abbrev pub IsRead : (List ℕ → Result (List ℕ) Error → Type 0) → List ℕ → SiteFile → Type 0
IsRead reads folder f = reads (folder ++ string_bytes f.path) (Ok f.content.items)

module _ (reads : List ℕ → Result (List ℕ) Error → Type 0) (lies : Result (List ℕ) Error → Type 0) where
  -- these origins, the page's files and no others, and who watches
  pub record Serves (o : WebOptions) (named : List (List ℕ)) (s : Site) : Type 0 where
    pub origins : map string_bytes s.origins.items ≡ named
    pub paths : map (λ f. string_bytes f.path) s.files.items ≡ page_paths
    pub folder : List ℕ
    pub there : IsFolder lies (text_of o.page) folder
    pub files : AllByRecursion (IsRead reads folder) s.files.items
    pub watcher : MayWatch reads (text_of o.watch) (text_of o.watch_token) (text_of o.window) s.watcher

  -- a file of the page can't be read, or its folder isn't known
  abbrev pub CantRead : WebFault → Type 0
  CantRead why.NoMemory = Unit {0}
  CantRead (why.NoPage path error) = reads (string_bytes path) (Err error.0) ⊎ lies (Err error.0)
  CantRead _ = ⊥

  -- the same, or who watches can't be said
  abbrev pub CantServe : WebOptions → WebFault → Type 0
  CantServe o fault =
      CantRead fault ⊎ CantWatch reads (text_of o.watch) (text_of o.watch_token) (text_of o.window) fault

module _ (is_other : List ℕ → Result Bool Error → Type 0) (socket : List ℕ) where
  -- it was looked at, and nothing else than a socket is known to have its path
  abbrev pub MayBeSocket : Type 0
  MayBeSocket = (found : Result Bool Error) × is_other socket found × (found ≢ Ok true)

  -- something else than a socket has its path
  abbrev pub HasNoSocket : WebFault → Type 0
  HasNoSocket why.NoMemory = Unit {0}
  HasNoSocket (why.NoSocket path) = (string_bytes path ≡ socket) × is_other socket (Ok true)
  HasNoSocket _ = ⊥

-- ---- the status to exit with

-- 2 for invalid arguments, and else 1
abbrev pub status_of : WebFault → ℕ
status_of why.Alone = 2
status_of why.NobodyWatches = 2
status_of (why.NoName name) = 2
status_of (why.NotLocal place) = 2
status_of (why.NotOrigin origin) = 2
status_of why.NoOrigin = 2
status_of _ = 1
