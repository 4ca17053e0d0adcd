-- The items of a client's keys. C-a is the command key, as in the GNU Screen manual, section
-- Default Key Bindings. This project's own are the edits of the prompt's line (DEL and BS are those
-- of ECMA-48) and its length, 1,024 bytes.
use Rattle.std.specs.Prelude.{◌≡◌, ◌≢◌, ℕ, Bool, true, false, not, ◌&&◌, ◌||◌, nat_lt, ◌==◌, if◌then◌else◌, List, []}
use Rattle.std.specs.Prelude.{◌∷◌, ◌++◌, length, map, find, Option, Some, None, codes, get_or}
use Rattle.std.specs.Option.{option_map}
use Rattle.std.specs.List.{list_all}
use Rattle.command_lang.specs.declared.command.Command.{Command}
use Rattle.command_lang.specs.declared.command.Command.TheVariants.{Next, Prev, Detach, Kill, Split, Focus, Remove}
use Rattle.command_lang.specs.declared.command.Command.TheVariants.{Only, Windows, Displays, Select, Other}

-- A typed byte, the command of a bound key, or a line of the prompt.
pub data Item : Type 0 where
  typed : ℕ → Item
  bound : Command → Item
  line : List ℕ → Item

-- What is open at the end of the keys: nothing, the command key, or a prompt with its line up to
-- here.
pub data Rest : Type 0 where
  nothing : Rest
  command_key : Rest
  prompt : List ℕ → Rest

-- the line of the open prompt
abbrev pub open_line : Rest → Option (List ℕ)
open_line nothing = None
open_line command_key = None
open_line (prompt bytes) = Some bytes

-- the byte of a key with a sign
abbrev pub key : List ℕ → ℕ
key sign = get_or sign 0 0

-- the bytes of other keys: C-a is the command key; ESC, C-c and C-g close a prompt
abbrev pub control_a : ℕ
control_a = 0x01

abbrev pub control_c : ℕ
control_c = 0x03

abbrev pub control_g : ℕ
control_g = 0x07

abbrev pub backspace : ℕ
backspace = 0x08

abbrev pub tab : ℕ
tab = 0x09

abbrev pub line_feed : ℕ
line_feed = 0x0A

abbrev pub carriage_return : ℕ
carriage_return = 0x0D

abbrev pub escape : ℕ
escape = 0x1B

abbrev pub delete : ℕ
delete = 0x7F

abbrev pub colon : ℕ
colon = key (codes ":")

-- The keys that are bound after the command key. A digit selects the window of that name.
abbrev pub bindings : List (ℕ × Command)
bindings =
    (key (codes "n"), Next) ∷ (key (codes " "), Next) ∷ (key (codes "p"), Prev)
    ∷ (key (codes "d"), Detach) ∷ (key (codes "k"), Kill) ∷ (key (codes "S"), Split false)
    ∷ (key (codes "|"), Split true) ∷ (tab, Focus) ∷ (key (codes "X"), Remove)
    ∷ (key (codes "Q"), Only) ∷ (key (codes "w"), Windows) ∷ (key (codes "*"), Displays)
    ∷ (control_a, Other)
    ∷ map (λ k. (k, Select (k ∷ []))) (codes "0123456789")

-- the command that the key is bound to
abbrev pub binding : ℕ → Option Command
binding k = option_map (λ b. b.1) (find (λ b. b.0 == k) bindings)

abbrev pub bound_items : Option Command → List Item
bound_items None = []
bound_items (Some b) = bound b ∷ []

-- the items of a key after the command key, if it doesn't open the prompt
abbrev pub key_items : ℕ → List Item
key_items k = if k == key (codes "a") then typed 1 ∷ [] else bound_items (binding k)

-- A prompt's line, as keys edit it: whether a byte continues a character
abbrev pub continues : ℕ → Bool
continues b = nat_lt 0x7F b && nat_lt b 0xC0

-- the line without its last character: without its trailing bytes and the byte before them
abbrev pub shortened : List ℕ → List ℕ
shortened [] = []
shortened (b ∷ bytes) = if list_all continues bytes then [] else b ∷ shortened bytes

abbrev pub line_after_key : List ℕ → ℕ → List ℕ
line_after_key bytes k =
    if k == backspace || k == delete then shortened bytes
    else if nat_lt k (key (codes " ")) then bytes
    else if nat_lt (length bytes) 1024 then bytes ++ k ∷ []
    else bytes

unfoldable pub line_of : List ℕ → List ℕ → List ℕ
line_of bytes [] = bytes
line_of bytes (k ∷ keys) = line_of (line_after_key bytes k) keys

-- the keys that end a prompt's line, and the keys that close the prompt
abbrev pub ends_line : ℕ → Bool
ends_line k = k == carriage_return || k == line_feed

abbrev pub closes : ℕ → Bool
closes k = k == escape || (k == control_c || k == control_g)

abbrev pub stays : ℕ → Bool
stays k = not (ends_line k || closes k)

-- the item that the key that ends or closes a prompt completes
abbrev pub line_items : List ℕ → ℕ → List Item
line_items bytes k = if ends_line k then line bytes ∷ [] else []

-- Keys, the items that they complete, and what is open at their end. Keys are typed bytes, the
-- command key with the key after it, and prompts. The keys of a prompt edit its line, up to a key
-- that ends it or closes the prompt.
pub data Keys : List ℕ → List Item → Rest → Type 0 where
  none : Keys [] [] nothing
  plain : {k : ℕ} {keys : List ℕ} {given : List Item} {rest : Rest} → k ≢ control_a
      → Keys keys given rest → Keys (k ∷ keys) (typed k ∷ given) rest
  waits : Keys (control_a ∷ []) [] command_key
  behind : {k : ℕ} {keys : List ℕ} {given : List Item} {rest : Rest} → k ≢ colon
      → Keys keys given rest → Keys (control_a ∷ k ∷ keys) (key_items k ++ given) rest
  opens : (edits : List ℕ) → list_all stays edits ≡ true
      → Keys (control_a ∷ colon ∷ edits) [] (prompt (line_of [] edits))
  ends : (edits : List ℕ) (k : ℕ) (keys : List ℕ) {given : List Item} {rest : Rest}
      → list_all stays edits ≡ true → stays k ≡ false → Keys keys given rest
      → Keys (control_a ∷ colon ∷ (edits ++ k ∷ keys)) (line_items (line_of [] edits) k ++ given)
      rest

-- The relation, computed key by key: the items that a key completes after what is open, and what is
-- open after the key.
abbrev pub rest_step : Rest → ℕ → List Item × Rest
rest_step nothing k = if k == control_a then ([], command_key) else (typed k ∷ [], nothing)
rest_step command_key k = if k == colon then ([], prompt []) else (key_items k, nothing)
rest_step (prompt bytes) k =
    if stays k then ([], prompt (line_after_key bytes k)) else (line_items bytes k, nothing)

abbrev pub with_front : List Item → List Item × Rest → List Item × Rest
with_front front later = (front ++ later.0, later.1)

unfoldable pub items_from : Rest → List ℕ → List Item × Rest
items_from rest [] = ([], rest)
items_from rest (k ∷ keys) =
    let step = rest_step rest k in with_front step.0 (items_from step.1 keys)

abbrev pub items : List ℕ → List Item × Rest
items keys = items_from nothing keys
