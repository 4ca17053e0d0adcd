-- Each denial names the entry or the holder of the lock that prevents what is asked for.
use Rattle.session_laws.proofs.Vocabulary.{◌≡◌, ℕ, Bool, true, false, not, List, [], ◌∷◌, Option, Some, None, Ok, Err}
use Rattle.session_laws.proofs.Vocabulary.{refl, ap, ◌∙◌, arith, if◌then◌else◌, ◌==◌, ◌||◌, MatchOption, list_any}
use Rattle.session_laws.proofs.Vocabulary.{AllByRecursion, option_map, option_map_or, option_and_then, or_parts}
use Rattle.session_laws.proofs.Vocabulary.{nat_tests, UserId, Bit, Write, Execute, Object, same_user, stops_nobody_but}
use Rattle.session_laws.proofs.Vocabulary.{Order, name_of, Check, right, unlocked, Needs, EntryDenial, LockDenial}
use Rattle.session_laws.proofs.Vocabulary.{Refusal, EntryDenied, LockDenied, row_serial, all_append, passes, refusal_of}
use Rattle.session_laws.proofs.Vocabulary.{first_fault, checks, window_checks, where_needed, typing_checks, Answer}
use Rattle.session_laws.proofs.Vocabulary.{Deed, number_of, denied_on, entry_denial, lock_denial, NamesTruly}
use Rattle.session_laws.proofs.Vocabulary.{IsEntryMissing, IsLockHeld, object_named, numbered, Caller, needs, may_in}
use Rattle.session_laws.proofs.Vocabulary.{has_in, leaders_in, holder_in, Tables, Window, window_at}
use Rattle.acl.specs.declared.act.Object.TheVariants as object
use Rattle.session_laws.proofs.Doing.{is_plain, Either}

-- ---- the first check that fails

abbrev pub OnFault : (Refusal → Type 0) → Option Refusal → Type 0
OnFault P o = MatchOption o (Unit {0}) P

abbrev pub Each : Tables → (Refusal → Type 0) → List Check → Type 0
Each t P cs = AllByRecursion (λ c. passes t c ≡ false → P (refusal_of t c)) cs

pub on_fault : (t : Tables) (P : Refusal → Type 0) (cs : List Check) → Each t P cs → OnFault P (first_fault t cs)
on_fault t P [] all = tt
on_fault t P (c ∷ cs) all = on (passes t c) all.0 (on_fault t P cs all.1) where
  on : (b : Bool) → (b ≡ false → P (refusal_of t c)) → OnFault P (first_fault t cs)
      → OnFault P (if b then first_fault t cs else Some (refusal_of t c))
  on true here rest = rest
  on false here rest = here refl

each_where : (t : Tables) (P : Refusal → Type 0) (b : Bool) (cs : List Check) → Each t P cs
    → Each t P (where_needed b cs)
each_where t P true cs all = all
each_where t P false cs all = tt

-- a fact of the refusal or of the deed of an answer
abbrev pub MatchAnswer : (Refusal → Type 0) → (Deed → Type 0) → Answer → Type 0
MatchAnswer P Q (Ok d) = Q d
MatchAnswer P Q (Err r) = P r

-- what a ruling answers: the refusal of its checks, or its own answer
pub ruled_answer : (P : Refusal → Type 0) (Q : Deed → Type 0) (o : Option Refusal) (a : Answer) → OnFault P o
    → ((r : Refusal) → is_plain r ≡ true → P r) → (o ≡ None → Either Q a)
    → MatchAnswer P Q (elim o as (λ _. Answer) [ Some r ↦ Err r | None ↦ a ])
ruled_answer P Q (Some r) a fails plain own = fails
ruled_answer P Q None (Ok d) fails plain own = own refl
ruled_answer P Q None (Err r) fails plain own = plain r (own refl)

-- ---- missing bits

lacks_each : (t : Tables) (bit : Bit) (o : Object) (us : List UserId)
    → list_any (λ u. has_in t u bit o) us ≡ false → AllByRecursion (λ u. has_in t u bit o ≡ false) us
lacks_each t bit o [] is = tt
lacks_each t bit o (u ∷ us) is =
    let parts = or_parts (has_in t u bit o) (list_any (λ v. has_in t v bit o) us) is in
    (parts.0, lacks_each t bit o us parts.1)

match_some : {X : Type 0} (P : X → Type 0) (o : Option X) (x : X) → o ≡ Some x → P x → MatchOption o ⊥ P
match_some P o x is p = rw is p

-- the entries of the user and of the leaders are false, if the user may not have the bit
pub missing : (t : Tables) (asks : UserId → Bit → Object → Type 0) (user : UserId) (bit : Bit) (o : Object)
    → asks user bit o → object_named t (denied_on t o) ≡ Some o → may_in t user bit o ≡ false
    → NamesTruly t asks (entry_denial t user bit o)
missing t asks user bit o asked named not =
    let led : Bool = list_any (λ leader. has_in t leader bit o) (leaders_in t user) in
    let parts = or_parts (same_user t.owner user || has_in t user bit o) led not in
    let firsts = or_parts (same_user t.owner user) (has_in t user bit o) parts.0 in
    let d : EntryDenial = record {
      user = user;
      bit = bit;
      on = denied_on t o;
      leaders = leaders_in t user;
    } in
    match_some (IsEntryMissing t asks d) (object_named t (denied_on t o)) o named
    (record {
      asked = asked;
      may_not = not;
      entry = firsts.1;
      entries = lacks_each t bit o (leaders_in t user) parts.1;
      leaders = refl;
    })

-- ---- windows that are there

abbrev pub IsListed : Tables → ℕ → Type 0
IsListed t s = (v : Window) × (window_at t s ≡ Some v)

abbrev number_in : Option Window → ℕ
number_in o = option_map_or (λ (w : Window). w.number) o 0

row_named : (o : Option Window) (s : ℕ) (v : Window) → o ≡ Some v → v.serial ≡ s
    → option_and_then (numbered (number_in o)) o ≡ Some (object.Window s)
row_named o s v is same =
    let own : (v.number == v.number) ≡ true = grind (arith, nat_tests) in
    ap (λ o. option_and_then (numbered (number_in o)) o) is
    ∙ ap (λ (b : Bool). if b then Some (object.Window v.serial) else None) own
    ∙ ap (λ n. Some (object.Window n)) same

serial_named : (t : Tables) (s : ℕ) → IsListed t s
    → object_named t (denied_on t (object.Window s)) ≡ Some (object.Window s)
serial_named t s l =
    row_named (window_at t s) s l.0 l.1 (row_serial (λ (w : Window). w.serial) t.windows s l.0 l.1)

locked : (t : Tables) (asks : UserId → Bit → Object → Type 0) (user : UserId) (s : ℕ) (o : Option UserId)
    → holder_in t s ≡ o → IsListed t s → asks user Write (object.Window s)
    → stops_nobody_but user o ≡ false → NamesTruly t asks (lock_denial t s o)
locked t asks user s None is l asked stops = absurd (cc (stops))
locked t asks user s (Some h) is l asked stops =
    let d : LockDenial = record { serial = s; number = number_of t s; holder = h } in
    match_some (IsLockHeld t asks d) (object_named t (denied_on t (object.Window s))) (object.Window s)
    (serial_named t s l) (record { user = user; asked = asked; held = is; other = stops })

-- ---- checks

-- the window is there, and is asked for
abbrev pub IsAsked : Tables → (UserId → Bit → Object → Type 0) → UserId → Option ℕ → Type 0
IsAsked t asks user None = Unit {0}
IsAsked t asks user (Some s) = ((bit : Bit) → asks user bit (object.Window s)) × IsListed t s

window_each : (t : Tables) (asks : UserId → Bit → Object → Type 0) (user : UserId) (n : Needs) (o : Option ℕ)
    → IsAsked t asks user o → Each t (NamesTruly t asks) (window_checks user n o)
window_each t asks user n None asked = ((λ is. tt), tt)
window_each t asks user n (Some s) asked =
    let P : Refusal → Type 0 = NamesTruly t asks in (
      missing t asks user Execute (object.Window s) (asked.0 Execute) (serial_named t s asked.1),
      all_append (λ c. passes t c ≡ false → P (refusal_of t c))
          (where_needed n.write (right user Write (object.Window s) ∷ [])) (where_needed n.lock (unlocked user s ∷ []))
          (each_where t P n.write (right user Write (object.Window s) ∷ [])
          (missing t asks user Write (object.Window s) (asked.0 Write) (serial_named t s asked.1), tt))
          (each_where t P n.lock (unlocked user s ∷ [])
          (locked t asks user s (holder_in t s) refl asked.1 (asked.0 Write), tt)),
    )

pub checks_each : (t : Tables) (asks : UserId → Bit → Object → Type 0) (k : Caller) (c : Order)
    → asks k.user Execute (object.Command (name_of c))
    → IsAsked t asks k.user (option_map (λ (w : Window). w.serial) k.window) → Each t (NamesTruly t asks) (checks t k c)
checks_each t asks k c itself asked =
    let P : Refusal → Type 0 = NamesTruly t asks in
    let n : Needs = needs c in
    let o : Option ℕ = option_map (λ (w : Window). w.serial) k.window in (
      missing t asks k.user Execute (object.Command (name_of c)) itself refl,
      all_append (λ c. passes t c ≡ false → P (refusal_of t c)) (where_needed n.multiuser _) _
          (each_where t P n.multiuser _ ((λ is. tt), tt))
          (all_append (λ c. passes t c ≡ false → P (refusal_of t c)) (where_needed n.client _)
          (where_needed n.window (window_checks k.user n o)) (each_where t P n.client _ ((λ is. tt), tt))
          (each_where t P n.window (window_checks k.user n o) (window_each t asks k.user n o asked))),
    )

abbrev pub IsAskedOfRow : Tables → (UserId → Bit → Object → Type 0) → UserId → Option Window → Type 0
IsAskedOfRow t asks user None = Unit {0}
IsAskedOfRow t asks user (Some v) = asks user Write (object.Window v.serial) × IsListed t v.serial

pub typing_each : (t : Tables) (asks : UserId → Bit → Object → Type 0) (user : UserId) (o : Option Window)
    → IsAskedOfRow t asks user o → Each t (NamesTruly t asks) (typing_checks user o)
typing_each t asks user None asked = ((λ is. tt), tt)
typing_each t asks user (Some v) asked = (
  missing t asks user Write (object.Window v.serial) asked.0 (serial_named t v.serial asked.1),
  (locked t asks user v.serial (holder_in t v.serial) refl asked.1 asked.0, tt),
)

pub plain_names : (t : Tables) (asks : UserId → Bit → Object → Type 0) (r : Refusal) → is_plain r ≡ true
    → NamesTruly t asks r
plain_names t asks (EntryDenied d) is = absurd (cc (is))
plain_names t asks (LockDenied d) is = absurd (cc (is))
plain_names t asks _ is = tt
