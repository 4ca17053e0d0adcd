-- What the files of links say, what a link stands for at a time, and how one is taken.
use Rattle.std.specs.Prelude.{◌≡◌, ◌⊎◌, ◌<◌, ◌^◌, ◌==◌, ◌∷◌, ◌++◌, ℕ, List, length, Option, Some, None, IfSome}
use Rattle.std.specs.List.{after_first, before_first, position_or_len}
use Rattle.std.specs.Str.Parse.{IsNumeral, digits_value, without_leading_plus}
use Rattle.std.specs.String.{string_bytes}
use Rattle.web_turn.specs.declared.link_files.FoundLink.{FoundLink}

-- the text's parts before and after its first byte of this value; it has one
pub record IsCut (byte : ℕ) (text before after : List ℕ) : Type 0 where
  pub there : position_or_len (λ b. b == byte) text < length text
  pub front : before ≡ before_first (λ b. b == byte) text
  pub back : after ≡ after_first (λ b. b == byte) text

-- the file of a link: a line NAME TOKEN SECONDS
pub record IsLinkFile (text name token : List ℕ) (end : ℕ) : Type 0 where
  pub later : List ℕ
  pub first : IsCut 0x20 text name later
  pub last : List ℕ
  pub second : IsCut 0x20 later token last
  pub number : List ℕ
  pub rest : List ℕ
  pub third : IsCut 0x0A last number rest
  pub digits : IsNumeral 10 (without_leading_plus number)
  pub fits : digits_value 10 (without_leading_plus number) < 2 ^ 64
  pub value : end ≡ digits_value 10 (without_leading_plus number)

-- it stands for its user and its token before that many seconds after 1970
abbrev pub StandsAt : (text : List ℕ) (seconds : ℕ) (name token : List ℕ) → Type 0
StandsAt text seconds name token = (end : ℕ) × IsLinkFile text name token end × (seconds < end)

-- the path of the link with this secret: the secret is its name in the folder
abbrev pub file_of : (folder secret : List ℕ) → List ℕ
file_of folder secret = folder ++ 0x2F ∷ secret

-- a link that was found has the text that was read at its path, and the time
abbrev pub FindsAt : (tells : ℕ → Type 0) (reads : (path text : List ℕ) → Type 0) (folder secret : List ℕ)
    → Option FoundLink → Type 0
FindsAt tells reads folder secret None = Unit {0}
FindsAt tells reads folder secret (Some found) =
    tells found.seconds × reads (file_of folder secret) (string_bytes found.text)

-- what was read of a link is given if the file at its path was removed
abbrev pub RemovesAt : (removes : (path : List ℕ) → Type 0) (folder : List ℕ) → FoundLink → Option (List ℕ × ℕ)
    → Type 0
RemovesAt removes folder found None = Unit {0}
RemovesAt removes folder found (Some taken) = removes (file_of folder found.secret)

-- A link's file was read, and what was read is taken if the file was removed after that. So a link is good for one use.
abbrev pub TakesLink : (finds : (folder secret : List ℕ) → Option FoundLink → Type 0)
    (removes : (folder : List ℕ) → FoundLink → Option (List ℕ × ℕ) → Type 0) (folder secret : List ℕ)
    → Option (List ℕ × ℕ) → Type 0
TakesLink finds removes folder secret taken =
    (finds folder secret None × (taken ≡ None))
    ⊎ ((found : FoundLink) × finds folder secret (Some found) × removes folder found taken
    × (found.secret ≡ secret) × IfSome taken (λ it. it ≡ (string_bytes found.text, found.seconds)))
