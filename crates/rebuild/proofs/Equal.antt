-- What a derived `==` tells: where it is true, the two values are equal.
use Rattle.std.proofs.Common.{◌≡◌, true, false, not, refl, sym, ap, rules, Bool, ◌&&◌, [], ◌∷◌}
use Rattle.std.specs.Prelude.{Some, None}
use Rattle.std.specs.Bool.{beq}
use Rattle.std.specs.Option.{option_eq}
use Rattle.std.specs.Cmp.{booleans_Decides}
use Rattle.std.specs.Cmp.Lexicographic.{pointwise}
use Rattle.std.proofs.lemmas.Bool.{and_parts, not-false, eqb-true as numbers}
use denote.Struct.Declared.{Declared}
use denote.Struct.Cover.{Cover-one}
use Rattle.charsets.specs.contracts.shifts as of_shifts
use Rattle.charsets.specs.contracts.decoder as of_units
use Rattle.cells.specs.contracts.cell as of_cells
use Rattle.cells.specs.contracts.marks as of_marks
use Rattle.cells.specs.contracts.rendition as of_renditions
use Rattle.terminal_model.specs.contracts.state as of_states
use Rattle.cells.proofs.Alike.{same_rendition}

infixr 60 ◌and◌
-- a test that is true of equal values alone
abbrev pub Tells : {A : Type 0} → (A → A → Bool) → Type 0
Tells {A} test = (x y : A) → test x y ≡ true → x ≡ y

-- two values whose `!=` is false
pub unlike : {A : Type 0} {E : A → A → Bool} → Tells E → (x y : A) → false ≡ not (E x y) → x ≡ y
unlike {E = E} f x y e = f x y (not-false _ (sym e))

-- the fields of a struct, one after another, down to the last; and the struct
◌and◌ : {A B : Type 0} {E : A → A → Bool} {F : B → B → Bool} → Tells E → Tells F
    → Tells (λ (x y : A × B). E x.0 y.0 && F x.1 y.1)
◌and◌ f g x y e = let (p, q) = and_parts _ _ e in λ i. (f x.0 y.0 p i, g x.1 y.1 q i)

last : {A : Type 0} {E : A → A → Bool} → Tells E → Tells (λ (x y : A × Unit {0}). E x.0 y.0)
last f x y e = λ i. (f x.0 y.0 e i, tt)

struct : (T : Declared) {E : _} → Tells E → Tells (λ (a b : T.D). E (T.as_values a) (T.as_values b))
struct T f a b e = Cover-one T.cover T.propositions a b (f (T.as_values a) (T.as_values b) e)

pub options : {A : Type 0} {E : A → A → Bool} → Tells E → Tells (option_eq E)
options f None None e = refl
options f None (Some y) e = cc
options f (Some x) None e = cc
options f (Some x) (Some y) e = ap Some (f x y e)

pub lists : {A : Type 0} {E : A → A → Bool} → Tells E → Tells (pointwise E)
lists f [] [] e = refl
lists f [] (y ∷ ys) e = cc
lists f (x ∷ xs) [] e = cc
lists f (x ∷ xs) (y ∷ ys) e = let (p, q) = and_parts _ _ e in λ i. f x y p i ∷ lists f xs ys q i

pub flags : Tells beq
flags x y = (booleans_Decides x y).0

places : Tells of_shifts.PlacePartialEq.TheImpl.eq-value.it
places a b e = search rules

sets : Tells of_shifts.CharacterSetPartialEq.TheImpl.eq-value.it
sets a b e = search rules

codings : Tells of_units.CodingPartialEq.TheImpl.eq-value.it
codings a b e = search rules

shapes : Tells of_cells.ShapePartialEq.TheImpl.eq-value.it
shapes a b e = search rules

renditions : Tells of_renditions.RenditionPartialEq.TheImpl.eq-value.it
renditions a b e = same_rendition a b (numbers _ _ e)

marks : Tells of_marks.PackedMarksPartialEq.TheImpl.eq-value.it
marks a b e = search rules

shifts : Tells of_shifts.ShiftsPartialEq.TheImpl.eq-value.it
shifts = struct of_shifts.Shifts.the_type
    (sets and sets and sets and sets and places and places and last (options places))

modes : Tells of_states.ModesPartialEq.TheImpl.eq-value.it
modes = struct of_states.Modes.the_type
    (flags and flags and flags and flags and flags and flags and flags and last flags)

positions : Tells of_states.PositionPartialEq.TheImpl.eq-value.it
positions = struct of_states.Position.the_type (numbers and last numbers)

pub cells : Tells of_cells.CellPartialEq.TheImpl.eq-value.it
cells = struct of_cells.Cell.the_type (numbers and marks and renditions and shapes and last flags)

pub places_saved : Tells of_states.SavedPartialEq.TheImpl.eq-value.it
places_saved = struct of_states.Saved.the_type
    (numbers and numbers and flags and renditions and flags and shifts and last flags)

pub states : Tells of_states.StatePartialEq.TheImpl.eq-value.it
states = struct of_states.State.the_type
    (numbers and numbers and numbers and numbers and flags and numbers and numbers and renditions and flags and modes
    and shifts and codings and flags and last (options positions))
