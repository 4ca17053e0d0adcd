-- A screen's scrollback has the last ones of all lines that left its page.
use Rattle.terminal_model.proofs.Vocabulary.{common_steps, flat_map-append, ◌≡◌, ℕ, zero, suc, ◌≤◌, List, [], ◌∷◌, ◌++◌}
use Rattle.terminal_model.proofs.Vocabulary.{length, take, map, reverse, Option, refl, ap, ◌∙◌, arith, reverse-append}
use Rattle.terminal_model.proofs.Vocabulary.{AllByRecursion, Shifts, mapped, spent, line_resized, Func, Action, Page}
use Rattle.terminal_model.proofs.Vocabulary.{Screen, IsSound, with_state, actions_of, resized, acted_from, acted}
use Rattle.terminal_model.proofs.Vocabulary.{all_acted, effect, Terminal, IsTerminal, read_byte, reads, Writing}
use Rattle.terminal_model.proofs.Vocabulary.{IsWriting, writes, writes_all, lines_of}
use Rattle.terminal_model.specs.declared.action.Action.TheVariants.{Print}
use Rattle.terminal_model.specs.Printing.{printed}
use Rattle.terminal_model.specs.Scrollback.{printed_out, acted_out, all_acted_out, lines_out, left_by_writing, all_left}
use Rattle.terminal_model.specs.Scrollback.{KeepsLast}
use Rattle.terminal_model.proofs.Readings.{effects, acts_of, read_units-is}
use Rattle.terminal_model.proofs.Sound.{IsSound-acted, IsSound-effect}
use Rattle.terminal_model.proofs.Terminals.{IsTerminal-read_byte, IsTerminal-ready, IsTerminal-writes}

-- the first items of a list whose end is cut
take_within : {X : Type 0} (n m : ℕ) (xs ys : List X) → n ≤ m → take n (xs ++ take m ys) ≡ take n (xs ++ ys)
take_within zero m xs ys h = refl
take_within (suc n) m (x ∷ xs) ys h = ap (λ zs. x ∷ zs) (take_within n m xs ys (omega arith))
take_within (suc n) zero [] ys h = absurd (omega arith)
take_within (suc n) (suc m) [] [] h = refl
take_within (suc n) (suc m) [] (y ∷ ys) h = ap (λ zs. y ∷ zs) (take_within n m [] ys (omega arith))

-- lines left a screen on the way to another one
pub record Pushes (x : Screen) (out : Page) (y : Screen) : Type 0 where
  pub keep : y.keep ≡ x.keep
  pub kept : y.kept ≡ take x.keep (reverse out ++ x.kept)

pushes_none : (x y : Screen) → length x.kept ≤ x.keep → y.keep ≡ x.keep → y.kept ≡ x.kept → Pushes x [] y
pushes_none x y few keep kept = grind (arith, common_steps)

pushes_then : (x y z : Screen) (a b : Page) → Pushes x a y → Pushes y b z → Pushes x (a ++ b) z
pushes_then x y z a b h k = grind (arith, common_steps, take_within, reverse-append)

-- a character, printed with other shifts
printed_pushes : (c : Option ℕ) (s : Shifts) (x : Screen) → length x.kept ≤ x.keep → 2 ≤ x.state.columns
    → Pushes x (printed_out c x) (printed c (with_state x (record x.state { shifts = s })))
printed_pushes c s x few room = grind (arith, common_steps)

acted_pushes : (x : Screen) (a : Action) → length x.kept ≤ x.keep → 2 ≤ x.state.columns
    → Pushes x (acted_out x a) (acted x a)
unfolding acted_from
acted_pushes x (Print u) few room = printed_pushes (mapped x.state.shifts u) (spent x.state.shifts u) x few room
acted_pushes x a few room = grind (arith, common_steps)

all_acted_pushes : (x : Screen) (actions : List Action) → IsSound x
    → Pushes x (all_acted_out x actions) (all_acted x actions)
all_acted_pushes x [] h = pushes_none x x h.few refl refl
all_acted_pushes x (a ∷ later) h =
    pushes_then x (acted x a) _ (acted_out x a) _ (acted_pushes x a h.few h.size.least_columns)
    (all_acted_pushes (acted x a) later (IsSound-acted x a h))

effects_push : (x : Screen) (fs : List Func) → IsSound x → Pushes x (lines_of (acts_of x fs)) (effects x fs)
effects_push x [] h = pushes_none x x h.few refl refl
effects_push x (f ∷ later) h =
    pushes_then x (effect x f) _ (lines_out x f) _ (all_acted_pushes x (actions_of f) h)
    (effects_push (effect x f) later (IsSound-effect x f h))

byte_pushes : (t : Terminal) (b : ℕ) → IsTerminal t
    → Pushes t.screen (lines_of (read_byte t b).acts) (read_byte t b).terminal.screen
unfolding read_byte
byte_pushes t b h = grind (arith, read_units-is, effects_push)

pub reads_push : (t : Terminal) (bytes : List ℕ) → IsTerminal t
    → Pushes t.screen (lines_of (reads t bytes).acts) (reads t bytes).terminal.screen
unfolding reads
reads_push t [] h = pushes_none t.screen t.screen h.sound.few refl refl
reads_push t (b ∷ later) h = simp flat_map-append
    (pushes_then t.screen _ _ _ _ (byte_pushes t b h)
    (reads_push (read_byte t b).terminal later (IsTerminal-read_byte t b h)))

-- the last ones of all lines that have left, and of those that leave with one more writing
pub keeps_on : (x y : Screen) (lines out : Page) → KeepsLast lines x → Pushes x out y → KeepsLast (lines ++ out) y
keeps_on x y lines out h k = grind (arith, take_within, reverse-append)

take_map : {X Y : Type 0} (f : X → Y) (n : ℕ) (xs : List X) → map f (take n xs) ≡ take n (map f xs)
take_map f zero xs = refl
take_map f (suc n) [] = refl
take_map f (suc n) (x ∷ xs) = ap (λ ys. f x ∷ ys) (take_map f n xs)

reverse_map : {X Y : Type 0} (f : X → Y) (xs : List X) → map f (reverse xs) ≡ reverse (map f xs)
reverse_map f [] = refl
reverse_map f (x ∷ xs) = grind (arith, common_steps, reverse_map f xs)

resized_keeps : (rows columns : ℕ) (x : Screen) (lines : Page) → KeepsLast lines x
    → KeepsLast (map (line_resized columns) lines) (resized rows columns x)
unfolding resized
resized_keeps rows columns x lines h = grind (arith, take_map, reverse_map)

writes_keep : (t : Terminal) (w : Writing) (lines : Page) → IsTerminal t → KeepsLast lines t.screen
    → KeepsLast (left_by_writing lines t w) (writes t w).terminal.screen
writes_keep t w lines k h = grind (arith, keeps_on, reads_push, resized_keeps, IsTerminal-ready)

pub writing_keeps : (t : Terminal) (ws : List Writing) (lines : Page) → AllByRecursion IsWriting ws → IsTerminal t
    → KeepsLast lines t.screen → KeepsLast (all_left lines t ws) (writes_all t ws).terminal.screen
unfolding writes_all
writing_keeps t [] lines g k h = h
writing_keeps t (w ∷ later) lines g k h = writing_keeps (writes t w).terminal later (left_by_writing lines t w) g.1
    (IsTerminal-writes t w g.0 k) (writes_keep t w lines k h)

pub take_none : {X : Type 0} → (n : ℕ) → take {A = X} n [] ≡ []
take_none n = grind arith

writes_room : (t : Terminal) (w : Writing) → IsTerminal t → (writes t w).terminal.screen.keep ≡ t.screen.keep
unfolding resized
writes_room t w k = grind (arith, reads_push, IsTerminal-ready)

pub writing_keep : (t : Terminal) (ws : List Writing) → AllByRecursion IsWriting ws → IsTerminal t
    → (writes_all t ws).terminal.screen.keep ≡ t.screen.keep
unfolding writes_all
writing_keep t [] g k = refl
writing_keep t (w ∷ later) g k = writing_keep (writes t w).terminal later g.1 (IsTerminal-writes t w g.0 k)
    ∙ writes_room t w k
