-- A fact of each command's deed follows from facts of the ways in which commands answer.
use Rattle.session_laws.proofs.Vocabulary.{◌≡◌, ℕ, Bool, true, false, List, Option, Some, None, Ok, Err, refl, ap, sym}
use Rattle.session_laws.proofs.Vocabulary.{option_and_then, Act, Object, AclFault, Order, Refusal, EntryDenied}
use Rattle.session_laws.proofs.Vocabulary.{LockDenied, Acl, Windows, NoWindow, NoSuchWindow, Tables, Window, Client}
use Rattle.session_laws.proofs.Vocabulary.{client_at, Caller, Deed, Answer, given, unless, refused_if, selects}
use Rattle.session_laws.proofs.Vocabulary.{caller_client, on_client, Given, row_serial}
use Rattle.session_model.specs.Deeds as deeds

-- a refusal that is a command's own
abbrev pub is_plain : Refusal → Bool
is_plain (EntryDenied d) = false
is_plain (LockDenied d) = false
is_plain _ = true

-- a fact of the deed; of a refusal, only that it is a command's own
abbrev pub Either : (Deed → Type 0) → Answer → Type 0
Either P (Ok d) = P d
Either P (Err r) = is_plain r ≡ true

pub by_given : {X : Type 0} (P : Deed → Type 0) (o : Option X) (r : Refusal) (f : X → Answer) → is_plain r ≡ true
    → ((x : X) → o ≡ Some x → Either P (f x)) → Either P (given o r f)
unfolding given
by_given P None r f is on = is
by_given P (Some x) r f is on = on x refl

pub by_unless : {F : Type 0} (P : Deed → Type 0) (of : F → Refusal) (o : Option F) (d : Deed)
    → ((f : F) → is_plain (of f) ≡ true) → P d → Either P (unless of o d)
unfolding unless
by_unless P of None d is p = p
by_unless P of (Some f) d is p = is f

pub by_refused : (P : Deed → Type 0) (b : Bool) (r : Refusal) (d : Deed) → is_plain r ≡ true → (b ≡ false → P d)
    → Either P (refused_if b r d)
unfolding refused_if
by_refused P true r d is p = is
by_refused P false r d is p = p refl

-- a deed that is done if there is no fault
pub by_clear : {F : Type 0} (P : Deed → Type 0) (of : F → Refusal) (o : Option F) (d : Deed)
    → ((f : F) → is_plain (of f) ≡ true) → (o ≡ None → P d) → Either P (unless of o d)
unfolding unless
by_clear P of None d is p = p refl
by_clear P of (Some f) d is p = is f

pub by_changes : (P : Deed → Type 0) (t : Tables) (f : Option AclFault) (objects : Option (List Object))
    (acts : List Object → List Act)
    → (f ≡ None → (all : List Object) → objects ≡ Some all → P (deeds.acting t (acts all)))
    → Either P
    (elim f
    [ Some f ↦ Err (Acl f) | None ↦ given objects (Windows NoSuchWindow) (λ all. Ok (deeds.acting t (acts all))) ])
by_changes P t (Some f) objects acts on = refl
by_changes P t None objects acts on = by_given P objects (Windows NoSuchWindow) (λ all. Ok (deeds.acting t (acts all)))
    refl (on refl)

-- a command that shows a window
pub by_shown : (P : Deed → Type 0) (t : Tables) (k : Caller) (o : Client → Option Window) (r : Refusal)
    → is_plain r ≡ true
    → ((c : Client) (w : Window) → caller_client t k ≡ Some c → o c ≡ Some w → P (selects t c w))
    → Either P (on_client t k (λ c. given (o c) r (λ w. Ok (selects t c w))))
by_shown P t k o r is on =
    by_given P (caller_client t k) NoWindow (λ c. given (o c) r (λ w. Ok (selects t c w))) refl
    (λ c at. by_given P (o c) r (λ w. Ok (selects t c w)) is (λ w there. on c w at there))

-- ---- who gives a command

abbrev pub giving : Caller → Order → Given
giving k c = record { caller = k; order = c }

pub caller_is : (t : Tables) (o : Option ℕ) (c : Client) → option_and_then (client_at t) o ≡ Some c → o ≡ Some c.serial
caller_is t None c is = absurd (cc (is))
caller_is t (Some n) c is = ap Some (sym (row_serial (λ (x : Client). x.serial) t.clients n c is))
