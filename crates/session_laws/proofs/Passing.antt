-- If the checks of a command passed, x on it and on its window is granted.
use Rattle.session_laws.proofs.Vocabulary.{◌≡◌, Bool, true, false, not, List, [], ◌∷◌, ◌++◌, Option, Some, None, refl}
use Rattle.session_laws.proofs.Vocabulary.{if◌then◌else◌, ◌||◌, option_map, UserId, Write, Execute, Order, name_of}
use Rattle.session_laws.proofs.Vocabulary.{Check, right, must, Needs, Refusal, NotMultiuser, NoWindow, Tables, Window}
use Rattle.session_laws.proofs.Vocabulary.{may_in, Caller, needs, passes, refusal_of, first_fault, checks, checks_by}
use Rattle.session_laws.proofs.Vocabulary.{window_checks, where_needed, has_x, has_x_on, both_true}
use Rattle.std.specs.Option.{is_some}
use Rattle.acl.specs.declared.act.Object.TheVariants as object
use Rattle.session_laws.proofs.Doing.{giving}

pub behind : (t : Tables) (cs ds : List Check) → first_fault t (cs ++ ds) ≡ None → first_fault t ds ≡ None
behind t [] ds is = is
behind t (c ∷ cs) ds is = on (passes t c) is (behind t cs ds) where
  on : (b : Bool) → (if b then first_fault t (cs ++ ds) else Some (refusal_of t c)) ≡ None
      → (first_fault t (cs ++ ds) ≡ None → first_fault t ds ≡ None) → first_fault t ds ≡ None
  on true is rest = rest is
  on false is rest = absurd (cc (is))

pub first_passes : (b : Bool) (o : Option Refusal) (r : Refusal) → (if b then o else Some r) ≡ None → b ≡ true
first_passes true o r is = refl
first_passes false o r is = absurd (cc (is))

there : (t : Tables) (user : UserId) (n : Needs) (b : Bool) (o : Option Window)
    → first_fault t (where_needed b (window_checks user n (option_map (λ (w : Window). w.serial) o))) ≡ None
    → (not b || has_x_on t user o) ≡ true
there t user n false o is = refl
there t user n true None is = absurd (cc (is))
there t user n true (Some w) is =
    first_passes (may_in t user Execute (object.Window w.serial))
    (first_fault t (where_needed n.write (right user Write (object.Window w.serial) ∷ []) ++ where_needed n.lock _)) _
    is

pub passed_has_x : (t : Tables) (k : Caller) (c : Order) → first_fault t (checks t k c) ≡ None
    → has_x t (giving k c) ≡ true
passed_has_x t k c is =
    let n : Needs = needs c in
    let first : Check = right k.user Execute (object.Command (name_of c)) in
    let last : List Check = where_needed n.window
    (window_checks k.user n (option_map (λ (w : Window). w.serial) k.window)) in
    let for_client : List Check = where_needed n.client (must (is_some k.client) NoWindow ∷ []) in
    let for_many : List Check = where_needed n.multiuser (must t.is_multiuser NotMultiuser ∷ []) in
    both_true (may_in t k.user Execute (object.Command (name_of c))) (not n.window || has_x_on t k.user k.window)
    (first_passes (may_in t k.user Execute (object.Command (name_of c))) _ (refusal_of t first) is)
    (there t k.user n n.window k.window
    (behind t for_client last
    (behind t for_many (for_client ++ last) (behind t (first ∷ []) (checks_by t k n) is))))
