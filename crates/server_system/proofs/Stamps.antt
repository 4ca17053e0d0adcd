-- What `==` tells of the stamps of files: it is true exactly of equal values.
use Rattle.std.proofs.Common.{◌≡◌, true, refl, ap, Bool, ◌&&◌}
use Rattle.std.specs.Prelude.{Some, None, unwrap_or}
use Rattle.std.specs.Bool.{Decides}
use Rattle.std.specs.Option.{option_eq}
use Rattle.std.proofs.lemmas.Bool.{and_parts}
use Rattle.std.proofs.lemmas.Bool.Decides.{Decides-eqb as numbers, Decides-int_eq as ints}
use denote.Struct.Declared.{Declared}
use denote.Struct.Cover.{Cover-one}
use Rattle.server_system.specs.contracts.users_file as of_files

infixr 60 ◌and◌
-- a test that is true exactly of equal values
abbrev pub Tells : {A : Type 0} → (A → A → Bool) → Type 0
Tells {A} test = (x y : A) → Decides (test x y) (x ≡ y)

-- the fields of a struct, one after another, down to the last; and the struct
◌and◌ : {A B : Type 0} {E : A → A → Bool} {F : B → B → Bool} → Tells E → Tells F
    → Tells (λ (x y : A × B). E x.0 y.0 && F x.1 y.1)
◌and◌ {A} {B} f g x y = (
  λ e. let (p, q) = and_parts _ _ e in λ i. ((f x.0 y.0).0 p i, (g x.1 y.1).0 q i),
  λ e. λ i. (f x.0 y.0).1 (ap (λ (t : A × B). t.0) e) i && (g x.1 y.1).1 (ap (λ (t : A × B). t.1) e) i,
)

last : {A : Type 0} {E : A → A → Bool} → Tells E → Tells (λ (x y : A × Unit {0}). E x.0 y.0)
last {A} f x y = (
  λ e. λ i. ((f x.0 y.0).0 e i, tt),
  λ e. (f x.0 y.0).1 (ap (λ (t : A × Unit {0}). t.0) e),
)

struct : (T : Declared) {E : _} → Tells E → Tells (λ (a b : T.D). E (T.as_values a) (T.as_values b))
struct T f a b = (
  λ e. Cover-one T.cover T.propositions a b ((f (T.as_values a) (T.as_values b)).0 e),
  λ e. (f (T.as_values a) (T.as_values b)).1 (ap T.as_values e),
)

pub options : {A : Type 0} {E : A → A → Bool} → Tells E → Tells (option_eq E)
options f None None = (λ e. refl, λ e. refl)
options f None (Some y) = (λ e. cc, λ e. cc)
options f (Some x) None = (λ e. cc, λ e. cc)
options f (Some x) (Some y) = (λ e. ap Some ((f x y).0 e), λ e. (f x y).1 (ap (λ o. unwrap_or o x) e))

pub stamps : Tells of_files.StampPartialEq.TheImpl.eq-value.it
stamps = struct of_files.Stamp.the_type
    (numbers and numbers and numbers and ints and ints and ints and ints and numbers and last numbers)
