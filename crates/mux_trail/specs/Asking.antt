-- What the arguments ask.
use Rattle.std.specs.Prelude.{◌≡◌, ◌^◌, ◌-◌, ℕ, ℤ, pos, Bool, true, false, if◌then◌else◌, List, [], codes, unwrap_or}
use Rattle.std.specs.Prelude.{Option, Some, None, Ok, int_div, is_some, option_map}
use Rattle.std.specs.Borrow.{Bor}
use Rattle.std.specs.List.{filter_map, list_all}
use Rattle.std.specs.Str.{bytes_eq}
use Rattle.acl.specs.Names.{named_by}
use Rattle.acl.specs.declared.user_id.UserId.{UserId}
use Rattle.clap.specs.Words.{first_value, one_text}
use Rattle.clap.specs.declared.parser.matches.Found.{Found}
use Rattle.jiff.specs.Words.{parse_timestamp}
use Rattle.line_fields.specs.Cutting.{words}
use Rattle.line_fields.specs.Numbers.{number_below}
use Rattle.line_fields.specs.Parts.{bit_in, comma, object_in}
use Rattle.mux_trail.specs.declared.words.LastAsked.{LastAsked}
use Rattle.mux_trail.specs.declared.words.LastAsked.TheVariants as last
use Rattle.mux_trail.specs.declared.words.LogAsked.{LogAsked}
use Rattle.mux_trail.specs.declared.words.RightsAsked.{RightsAsked}
use Rattle.mux_trail.specs.declared.words.RightsAsked.TheVariants as asked
use Rattle.mux_trail.specs.declared.words.TrailArgs.{TrailArgs}
use Rattle.mux_trail.specs.declared.words.Verb.{Verb}
use Rattle.mux_trail.specs.declared.words.Verb.TheVariants as verb
use Rattle.mux_trail.specs.declared.words.WindowWord.{WindowWord}
use Rattle.mux_trail.specs.declared.words.WindowWord.TheVariants as window

-- ---- words

-- the text of an argument, if it is given
abbrev pub text_of : Option (Bor (List ℕ)) → Option (List ℕ)
text_of given = option_map (λ it. it.now) given

-- the text of an argument that must be there
abbrev pub text_at : Found → List ℕ → List ℕ
text_at f name = unwrap_or (first_value f name) []

-- whether a flag is given
abbrev pub IsFlag : Found → List ℕ → Bool → Type 0
IsFlag f name is =
    (one_text f name ≡ Some (codes "true") → is ≡ true) × (one_text f name ≡ Some (codes "false") → is ≡ false)

-- a time in the form of RFC 3339, in milliseconds since 1970
abbrev pub IsTime : List ℕ → ℕ → Type 0
IsTime text ms = (ns : ℤ) × (parse_timestamp text ≡ Ok ns) × (int_div ns (pos 1000000) ≡ pos ms)

-- the time that is given, else another one
abbrev pub IsTimeOf : Option (List ℕ) → ℕ → ℕ → Type 0
IsTimeOf None default ms = ms ≡ default
IsTimeOf (Some word) default ms = IsTime word ms

-- the user of the name that is given
abbrev pub IsUserOf : Option (List ℕ) → Option UserId → Type 0
IsUserOf None None = Unit {0}
IsUserOf (Some name) (Some user) = named_by name ≡ Some user
IsUserOf _ _ = ⊥

-- a number is a serial, and anything else a title
abbrev pub IsWindowOf : Option (List ℕ) → Option WindowWord → Type 0
IsWindowOf None None = Unit {0}
IsWindowOf (Some word) (Some (window.Serial serial)) = number_below (2 ^ 32) word ≡ Some serial
IsWindowOf (Some word) (Some (window.Title title)) = (number_below (2 ^ 32) word ≡ None) × (title.now ≡ word)
IsWindowOf _ _ = ⊥

-- the last entry that counts: a number is its place, and anything else a time
abbrev pub IsLastOf : Option (List ℕ) → LastAsked → Type 0
IsLastOf None last.All = Unit {0}
IsLastOf (Some word) (last.Place place) = number_below (2 ^ 64) word ≡ Some place
IsLastOf (Some word) (last.Time ms) = (number_below (2 ^ 64) word ≡ None) × IsTime word ms
IsLastOf _ _ = ⊥

-- whether each of the words between commas is a user's name
abbrev pub are_named : List ℕ → Bool
are_named names = list_all (λ name. is_some (named_by name)) (words comma names)

-- the users whom the words between commas name
abbrev pub users_named : List ℕ → List UserId
users_named names = filter_map named_by (words comma names)

-- ---- subcommands

-- `log`: the user, the window, and the times between which entries are asked for
pub record IsLogOf (f : Found) (log : LogAsked) : Type 0 where
  pub user : IsUserOf (first_value f (codes "user")) log.user
  pub window : IsWindowOf (first_value f (codes "window")) log.window
  pub since : IsTimeOf (first_value f (codes "since")) 0 log.since
  pub until : IsTimeOf (first_value f (codes "until")) (2 ^ 64 - 1) log.until

-- `who`: with --confined whether these users are confined, each of whom is named by a word between commas
abbrev pub IsWhoOf : Option (List ℕ) → RightsAsked → Type 0
IsWhoOf None asked.Who = Unit {0}
IsWhoOf (Some names) (asked.Confined users) = (users.now ≡ names) × (are_named names ≡ true)
IsWhoOf _ _ = ⊥

-- `why`: the bit of the user on the object, which is a window's serial or a command's name, and else a window's title
abbrev pub IsWhyOf : (user bit object : List ℕ) → RightsAsked → Type 0
IsWhyOf user bit object (asked.Why q) =
    (named_by user ≡ Some q.user) × (bit_in bit ≡ Some q.bit) × (object_in object ≡ Some q.object)
IsWhyOf user bit object (asked.WhyTitled u b title) =
    (named_by user ≡ Some u) × (bit_in bit ≡ Some b) × (object_in object ≡ None) × (title.now ≡ object)
IsWhyOf user bit object _ = ⊥

pub data Way : Type 0 where
  check : Way
  log : Way
  show : Way
  who : Way
  setup : Way
  why : Way

-- `show` stands for the rest
abbrev pub way_of : List ℕ → Way
way_of name =
    if bytes_eq name (codes "check") then check
    else if bytes_eq name (codes "log") then log
    else if bytes_eq name (codes "who") then who
    else if bytes_eq name (codes "setup") then setup
    else if bytes_eq name (codes "why") then why
    else show

-- each subcommand has a verb of its own, and the three that ask about rights have one together
abbrev pub IsVerbOf : Way → Found → Verb → Type 0
IsVerbOf check f verb.Check = Unit {0}
IsVerbOf log f (verb.Log which) = IsLogOf f which
IsVerbOf show f (verb.Show is_json) = IsFlag f (codes "json") is_json
IsVerbOf who f (verb.Ask what) = IsWhoOf (first_value f (codes "confined")) what
IsVerbOf setup f (verb.Ask asked.Setup) = Unit {0}
IsVerbOf why f (verb.Ask what) =
    IsWhyOf (text_at f (codes "user")) (text_at f (codes "bit")) (text_at f (codes "object")) what
IsVerbOf _ _ _ = ⊥

-- what is asked by the subcommand of this name with these arguments
pub record IsAskedBy (name : List ℕ) (f : Found) (a : TrailArgs) : Type 0 where
  pub verb : IsVerbOf (way_of name) f a.verb
  pub path : a.path.now ≡ text_at f (codes "file")
  pub owner : IsUserOf (first_value f (codes "owner")) a.owner
  pub last : IsLastOf (first_value f (codes "at")) a.last
  pub follows : IsFlag f (codes "follow") a.follows

-- the program's arguments mean a subcommand and arguments that ask this
abbrev pub AreAsked : (List (List ℕ) → List ℕ → Found → Type 0) → List (List ℕ) → TrailArgs → Type 0
AreAsked means words a = (name : List ℕ) × (f : Found) × means words name f × IsAskedBy name f a
