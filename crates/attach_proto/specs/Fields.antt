-- The fields of a payload: what each says, how it is spelled, and how it is read.
use Rattle.std.specs.Prelude.{ℕ, ◌+◌, ◌*◌, ◌/◌, ◌%◌, ◌<◌, nat_lt, ◌==◌, if◌then◌else◌, List, [], ◌∷◌, ◌++◌}
use Rattle.std.specs.Prelude.{length, take, drop, find, Option, Some, None, IfSome}
use Rattle.attach_proto.specs.Texts.{IsToken, IsText, token_of, text_of}
use Rattle.attach_proto.specs.declared.why.Why.{Why}
use Rattle.attach_proto.specs.declared.why.Why.TheVariants as why

-- A field in front of others: a number of two bytes, a byte, the number of a window or none, why a peer goes, a
-- token, a name.
pub data Field : Type 0 where
  Number : Field
  Byte : Field
  WindowNumber : Field
  WhyNumber : Field
  Token : Field
  Name : Field

-- What ends a payload: nothing, a text, any bytes, at least one byte.
pub data Last : Type 0 where
  Nothing : Last
  Text : Last
  Bytes : Last
  NotEmpty : Last

abbrev pub Value : Field → Type 0
Value Number = ℕ
Value Byte = ℕ
Value WindowNumber = Option ℕ
Value WhyNumber = Why
Value Token = List ℕ
Value Name = List ℕ

abbrev pub LastValue : Last → Type 0
LastValue Nothing = Unit {0}
LastValue Text = List ℕ
LastValue Bytes = List ℕ
LastValue NotEmpty = List ℕ

abbrev pub Values : List Field → Last → Type 0
Values [] l = LastValue l
Values (f ∷ fs) l = Value f × Values fs l

-- ---- writing

-- a number of two bytes, the high one first
abbrev pub two : ℕ → List ℕ
two n = n / 256 ∷ n % 256 ∷ []

abbrev pub window_byte : Option ℕ → ℕ
window_byte None = 0xFF
window_byte (Some n) = n

abbrev pub reason : Why → ℕ
reason why.Detached = 0
reason why.Removed = 1
reason why.SingleUser = 2
reason why.Killed = 3
reason why.Quit = 4
reason why.TooFarBehind = 5
reason why.Fault = 6
reason why.TrailFull = 7

-- a name with its length before it
abbrev pub named : List ℕ → List ℕ
named name = length name ∷ name

abbrev pub spelled : (f : Field) → Value f → List ℕ
spelled Number n = two n
spelled Byte n = n ∷ []
spelled WindowNumber n = window_byte n ∷ []
spelled WhyNumber w = reason w ∷ []
spelled Token token = token
spelled Name name = named name

abbrev pub spelled_last : (l : Last) → LastValue l → List ℕ
spelled_last Nothing v = []
spelled_last Text text = text
spelled_last Bytes bytes = bytes
spelled_last NotEmpty bytes = bytes

abbrev pub all_spelled : (fs : List Field) (l : Last) → Values fs l → List ℕ
all_spelled [] l v = spelled_last l v
all_spelled (f ∷ fs) l v = spelled f v.0 ++ all_spelled fs l v.1

abbrev pub IsSome : List ℕ → Type 0
IsSome bytes = 0 < length bytes

-- this value of a field has a spelling, and so does the rest
abbrev pub IsSaid : (f : Field) → Value f → Type 0 → Type 0
IsSaid Number n Rest = Rest
IsSaid Byte n Rest = Rest
IsSaid WindowNumber n Rest = IfSome n (λ w. w < 255) × Rest
IsSaid WhyNumber w Rest = Rest
IsSaid Token token Rest = IsToken token × Rest
IsSaid Name name Rest = (length name < 256) × IsText name × Rest

abbrev pub IsSaidLast : (l : Last) → LastValue l → Type 0
IsSaidLast Nothing v = Unit {0}
IsSaidLast Text text = IsText text
IsSaidLast Bytes bytes = Unit {0}
IsSaidLast NotEmpty bytes = IsSome bytes

abbrev pub AreSaid : (fs : List Field) (l : Last) → Values fs l → Type 0
AreSaid [] l v = IsSaidLast l v
AreSaid (f ∷ fs) l v = IsSaid f v.0 (AreSaid fs l v.1)

-- ---- reading: a field's value, and the bytes after it

infixl 10 ◌>>=◌
abbrev pub ◌>>=◌ : {A B : Type 0} → Option A → (A → Option B) → Option B
(Some x) >>= f = f x
None >>= f = None

abbrev pub two_at : List ℕ → Option (ℕ × List ℕ)
two_at [] = None
two_at (h ∷ []) = None
two_at (h ∷ l ∷ rest) = Some (256 * h + l, rest)

abbrev pub one_at : List ℕ → Option (ℕ × List ℕ)
one_at [] = None
one_at (n ∷ rest) = Some (n, rest)

abbrev pub split_at : ℕ → List ℕ → Option (List ℕ × List ℕ)
split_at n bytes = if nat_lt (length bytes) n then None else Some (take n bytes, drop n bytes)

abbrev pub window_of : ℕ → Option ℕ
window_of n = if n == 0xFF then None else Some n

unfoldable pub window_at : List ℕ → Option (Option ℕ × List ℕ)
window_at bytes = do
  n ← one_at bytes
  Some (window_of n.0, n.1)

abbrev pub all_reasons : List Why
all_reasons =
    why.Detached ∷ why.Removed ∷ why.SingleUser ∷ why.Killed ∷ why.Quit ∷ why.TooFarBehind
    ∷ why.Fault ∷ why.TrailFull ∷ []

-- the reason with this number
abbrev pub why_of : ℕ → Option Why
why_of n = find (λ w. n == reason w) all_reasons

unfoldable pub why_at : List ℕ → Option (Why × List ℕ)
why_at bytes = do
  n ← one_at bytes
  w ← why_of n.0
  Some (w, n.1)

unfoldable pub token_at : List ℕ → Option (List ℕ × List ℕ)
token_at bytes = do
  parts ← split_at 64 bytes
  token ← token_of parts.0
  Some (token, parts.1)

unfoldable pub name_at : List ℕ → Option (List ℕ × List ℕ)
name_at bytes = do
  n ← one_at bytes
  parts ← split_at n.0 n.1
  name ← text_of parts.0
  Some (name, parts.1)

abbrev pub read : (f : Field) → List ℕ → Option (Value f × List ℕ)
read Number bytes = two_at bytes
read Byte bytes = one_at bytes
read WindowNumber bytes = window_at bytes
read WhyNumber bytes = why_at bytes
read Token bytes = token_at bytes
read Name bytes = name_at bytes

abbrev pub end_of : List ℕ → Option (Unit {0})
end_of bytes = if length bytes == 0 then Some tt else None

abbrev pub some_of : List ℕ → Option (List ℕ)
some_of bytes = if length bytes == 0 then None else Some bytes

abbrev pub read_last : (l : Last) → List ℕ → Option (LastValue l)
read_last Nothing bytes = end_of bytes
read_last Text bytes = text_of bytes
read_last Bytes bytes = Some bytes
read_last NotEmpty bytes = some_of bytes
