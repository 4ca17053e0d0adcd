-- What the arguments of `mux` ask for.
use Rattle.std.specs.Prelude.{◌≡◌, ◌<◌, ◌^◌, ◌⊎◌, ℕ, Bool, true, false, if◌then◌else◌, List, [], codes}
use Rattle.std.specs.Prelude.{Option, Some, None, option_map, unwrap_or}
use Rattle.std.specs.Borrow.{Bor}
use Rattle.std.specs.Str.{bytes_eq}
use Rattle.std.specs.Str.Parse.{IsNumeral, digits_value, without_leading_plus}
use Rattle.clap.specs.Words.{first_value, one_text, rows_of, subcommand_rows_of}
use Rattle.clap.specs.declared.error.kind.ErrorKind.{ErrorKind}
use Rattle.clap.specs.declared.parser.matches.ArgMatches.{ArgMatches}
use Rattle.clap.specs.declared.parser.matches.Found.{Found}
use Rattle.client_words.specs.declared.arguments.Arguments.{Arguments}
use Rattle.client_words.specs.declared.arguments.Subcommand.{Subcommand}
use Rattle.client_words.specs.declared.arguments.Subcommand.TheVariants.{Attach, Window, Command, Ping}

-- ---- the arguments of a subcommand

-- the text of an argument, if it is given
abbrev pub text_of : Option (Bor (List ℕ)) → Option (List ℕ)
text_of given = option_map (λ it. it.now) given

-- the text of an argument; empty if it isn't given
abbrev pub text_at : Found → List ℕ → List ℕ
text_at f name = unwrap_or (first_value f name) []

-- whether a flag is given
pub record IsFlag (f : Found) (name : List ℕ) (is : Bool) : Type 0 where
  pub given : one_text f name ≡ Some (codes "true") → is ≡ true
  pub not_given : one_text f name ≡ Some (codes "false") → is ≡ false
  pub not_taken : one_text f name ≡ None → is ≡ false

-- a decimal number of so many bits
abbrev pub IsNumber : ℕ → List ℕ → Type 0
IsNumber bits text =
    IsNumeral 10 (without_leading_plus text) × (digits_value 10 (without_leading_plus text) < 2 ^ bits)

-- an argument with this text asks for its number, and one without such a number for none
pub record AsksFor (bits : ℕ) (given : Option (List ℕ)) (number : Option ℕ) : Type 0 where
  pub none : given ≡ None → number ≡ None
  pub some : (text : List ℕ) → given ≡ Some text → IsNumber bits text
      → number ≡ Some (digits_value 10 (without_leading_plus text))
  pub other : (text : List ℕ) → given ≡ Some text → (IsNumber bits text → ⊥) → number ≡ None

-- the number of an argument, of 16 bits; 0 if it isn't given
abbrev pub IsNumberAt : Found → List ℕ → ℕ → Type 0
IsNumberAt f name number =
    (asked : Option ℕ) × AsksFor 16 (one_text f name) asked × (number ≡ unwrap_or asked 0)

-- ---- subcommands

-- the subcommand of a name; any other name stands for a command
abbrev pub subcommand_of : List ℕ → Subcommand
subcommand_of name =
    if bytes_eq name (codes "attach") then Attach
    else if bytes_eq name (codes "window") then Window
    else if bytes_eq name (codes "ping") then Ping
    else Command

-- the argument that says for how long a peer tries to come back
abbrev pub again_name : Subcommand → List ℕ
again_name Window = codes "stay"
again_name other = codes "again"

-- each value is that of the argument of its name
pub record AreOf (kind : Subcommand) (f : Found) (a : Arguments) : Type 0 where
  pub subcommand : a.subcommand ≡ kind
  pub socket : a.socket.now ≡ text_at f (codes "socket")
  pub user : a.user.now ≡ text_at f (codes "user")
  pub token : a.token.now ≡ text_at f (codes "token")
  pub rows : IsNumberAt f (codes "rows") a.rows
  pub columns : IsNumberAt f (codes "cols") a.columns
  pub sizes : text_of a.sizes ≡ first_value f (codes "sizes")
  pub why : IsFlag f (codes "why") a.why
  pub leave : AsksFor 8 (one_text f (codes "leave")) a.leave
  pub fit : IsFlag f (codes "fit") a.fit
  pub assist : IsFlag f (codes "assist") a.assist
  pub again : IsNumberAt f (again_name kind) a.again
  pub wait : IsNumberAt f (codes "wait") a.wait
  pub title : a.title.now ≡ text_at f (codes "title")
  pub keep : IsNumberAt f (codes "keep") a.keep
  pub window : AsksFor 8 (one_text f (codes "window")) a.window
  pub line : a.line.now ≡ text_at f (codes "line")

-- the values are those of the subcommand that was found, and of its own arguments
abbrev pub AreFound : ArgMatches → Arguments → Type 0
AreFound matches a = (name : List ℕ) × (f : Found) × (subcommand_rows_of matches ≡ Some (name, rows_of f))
    × AreOf (subcommand_of name) f a

-- ---- the words

-- the program's arguments, and what they were understood as
abbrev pub Means : Type 1
Means = List (List ℕ) → ArgMatches → Type 0

-- the program's arguments, and why they weren't understood
abbrev pub Refuses : Type 1
Refuses = List (List ℕ) → ErrorKind → Type 0

-- the arguments mean matches of which these are the values
abbrev pub AreAsked : Means → List (List ℕ) → Arguments → Type 0
AreAsked means words a = (matches : ArgMatches) × means words matches × AreFound matches a

-- the values of some arguments that were understood
abbrev pub IsAsked : Means → Arguments → Type 0
IsAsked means a = (words : List (List ℕ)) × AreAsked means words a

-- the arguments mean no subcommand, or are refused
abbrev pub AreRefused : Means → Refuses → List (List ℕ) → ℕ → Type 0
AreRefused means refuses words status =
    ((matches : ArgMatches) × means words matches × (subcommand_rows_of matches ≡ None) × (status ≡ 2))
    ⊎ ((kind : ErrorKind) × refuses words kind)
