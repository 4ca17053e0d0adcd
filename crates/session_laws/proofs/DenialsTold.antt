-- If typed bytes don't reach their window, it is told why.
use Rattle.session_laws.proofs.Vocabulary.{StatusMessage, ◌≡◌, ℕ, Bool, true, false, not, List, [], ◌∷◌, ◌++◌, Option}
use Rattle.session_laws.proofs.Vocabulary.{Some, None, Ok, Err, Result, refl, ap, sym, ◌∙◌, subst, inl, inr, ⊎_elim}
use Rattle.session_laws.proofs.Vocabulary.{if◌then◌else◌, ◌==◌, ◌&&◌, ◌||◌, take, AllByRecursion, list_any, flat_map}
use Rattle.session_laws.proofs.Vocabulary.{option_map_or, bytes_eq, bytes_eq-Decides, UserId, Execute, Order}
use Rattle.session_laws.proofs.Vocabulary.{ParseFault, Item, bound, line, Act, Verdict, Effect, Say, Refusal, NoWindow}
use Rattle.session_laws.proofs.Vocabulary.{UnknownUser, EventValue, Keys, Command, Reply, Entry, Tables, Window, Client}
use Rattle.session_laws.proofs.Vocabulary.{client_at, with_client, focused_window, is_known, may_in, text_of, Caller}
use Rattle.session_laws.proofs.Vocabulary.{caller_of, line_caller, read_line, checks, first_fault, verdicts}
use Rattle.session_laws.proofs.Vocabulary.{typing_checks, Answer, Deed, changing, does, typed_bytes, command_item}
use Rattle.session_laws.proofs.Vocabulary.{taken, step_items, types, says_why, input_in, ordered, message_of, keyed}
use Rattle.session_laws.proofs.Vocabulary.{reading, keys_outcome, unsaid, says_same, answered, commanded, line_ruling}
use Rattle.session_laws.proofs.Vocabulary.{refused, Outcome, IsStep, Given, Typed, has_x, stuffed, typed_by_client}
use Rattle.session_laws.proofs.Vocabulary.{with_order, order_in, ok_of, SomeOf, why_not, why_not_into, IsTold}
use Rattle.session_laws.proofs.Vocabulary.{DenialIsTold, all_weaken, equal, and_first, and_second, row_serial}
use Rattle.acl.specs.declared.act.Object.TheVariants as object
use Rattle.acl.specs.declared.command_name.CommandName.TheVariants as names
use Rattle.command_lang.specs.declared.command.Command.TheVariants as command
use Rattle.session_model.specs.Answering as answering
use Rattle.session_laws.proofs.Doing.{giving}
use Rattle.session_laws.proofs.Unread.{typing_clients}

-- ---- what is said once

abbrev Says : ℕ → List ℕ → List Effect → Type 0
Says client bytes effects = SomeOf (λ f. f ≡ Say client bytes) effects

some_left : {A : Type 0} (P : A → Type 0) (xs ys : List A) → SomeOf P xs → SomeOf P (xs ++ ys)
some_left P [] ys some = absurd some
some_left P (x ∷ xs) ys some = ⊎_elim (λ (here : P x). inl here) (λ later. inr (some_left P xs ys later)) some

some_right : {A : Type 0} (P : A → Type 0) (xs ys : List A) → SomeOf P ys → SomeOf P (xs ++ ys)
some_right P [] ys some = some
some_right P (x ∷ xs) ys some = inr (some_right P xs ys some)

same_say : (s : Effect) (to : ℕ) (bytes : List ℕ) → says_same (Say to bytes) s ≡ true → s ≡ Say to bytes
same_say (Say at said) to bytes is =
    let here : to ≡ at = equal to at (and_first (to == at) (bytes_eq bytes said) is) in
    let alike : bytes ≡ said = (bytes_eq-Decides bytes said).0 (and_second (to == at) (bytes_eq bytes said) is) in
    ap (λ n. Say n said) (sym here) ∙ ap (Say to) (sym alike)
same_say s to bytes is = absurd (cc (is))

said_there : (to : ℕ) (bytes : List ℕ) (said : List Effect) → list_any (says_same (Say to bytes)) said ≡ true
    → Says to bytes said
said_there to bytes [] is = absurd (cc (is))
said_there to bytes (s ∷ said) is = on (says_same (Say to bytes) s) refl is (said_there to bytes said) where
  on : (b : Bool) → says_same (Say to bytes) s ≡ b → (b || list_any (says_same (Say to bytes)) said) ≡ true
      → (list_any (says_same (Say to bytes)) said ≡ true → Says to bytes said) → Says to bytes (s ∷ said)
  on true same is later = inl (same_say s to bytes same)
  on false same is later = inr (later is)

-- what is to be said is in the step: it was said before, or is said now
pub unsaid_told : (said : List Effect) (to : ℕ) (bytes : List ℕ)
    → Says to bytes (said ++ unsaid said (Say to bytes ∷ []))
unsaid_told said to bytes = on (list_any (says_same (Say to bytes)) said) refl where
  on : (b : Bool) → list_any (says_same (Say to bytes)) said ≡ b
      → Says to bytes (said ++ (if not b then Say to bytes ∷ [] else []))
  on true is = some_left (λ f. f ≡ Say to bytes) said [] (said_there to bytes said is)
  on false is = some_right (λ f. f ≡ Say to bytes) said (Say to bytes ∷ []) (inl refl)

pub unsaid_listed : (said : List Effect) (es : List Effect) (to : ℕ) (bytes : List ℕ)
    → Says to bytes (said ++ unsaid said (es ++ Say to bytes ∷ []))
unsaid_listed said [] to bytes = unsaid_told said to bytes
unsaid_listed said (e ∷ es) to bytes = on (list_any (says_same e) said) (unsaid_listed said es to bytes) where
  between : (xs : List Effect) (ys : List Effect) → Says to bytes (xs ++ ys) → Says to bytes (xs ++ e ∷ ys)
  between [] ys some = inr some
  between (x ∷ xs) ys some = ⊎_elim (λ (here : x ≡ Say to bytes). inl here) (λ later. inr (between xs ys later)) some

  on : (b : Bool) → Says to bytes (said ++ unsaid said (es ++ Say to bytes ∷ []))
      → Says to bytes
      (said ++ (if not b then e ∷ unsaid said (es ++ Say to bytes ∷ []) else unsaid said (es ++ Say to bytes ∷ [])))
  on true rest = rest
  on false rest = between said (unsaid said (es ++ Say to bytes ∷ [])) rest

-- ---- typed bytes

abbrev Why : ℕ → List Effect → Option Refusal → Type 0
Why client effects None = Unit {0}
Why client effects (Some r) = Says client (text_of r) effects

-- a failed check of typed bytes is the reason why they don't reach their window
fault_why : (t : Tables) (user : UserId) (o : Option Window) (bytes : List ℕ)
    → first_fault t (typing_checks user o) ≡ why_not t (record { user = user; window = o; bytes = bytes })
fault_why t user None bytes = refl
fault_why t user (Some w) bytes = refl

types_why : (u : Tables) (d : Client) (b : ℕ) (bs : List ℕ)
    → Why d.serial (types u d (b ∷ bs)).effects (first_fault u (typing_checks d.user (focused_window u d)))
types_why u d b bs = on (first_fault u (typing_checks d.user (focused_window u d))) (focused_window u d) where
  on : (x : Option Refusal) (f : Option Window) → Why d.serial (elim x as (λ _. Deed) [
    | Some r ↦ says_why u d.serial r
    | None ↦ record (changing u) { effects = input_in f (b ∷ bs) }
  ]).effects x
  on None f = tt
  on (Some r) f = inl refl

why_left : (client : ℕ) (xs ys : List Effect) (x : Option Refusal) → Why client xs x → Why client (xs ++ ys) x
why_left client xs ys None why = tt
why_left client xs ys (Some r) why = some_left (λ f. f ≡ Say client (text_of r)) xs ys why

-- ---- stuff

abbrev with_checks : Bool → Bool → Refusal → Refusal → Option Refusal → Option Refusal
with_checks a b r s x = if a then (if b then x else Some s) else Some r

checks_why : (a b : Bool) (r s : Refusal) (x : Option Refusal) → (a && (not true || b)) ≡ true
    → with_checks a b r s x ≡ x
checks_why true true r s x is = refl
checks_why true false r s x is = absurd (cc (is))
checks_why false b r s x is = absurd (cc (is))

stuff_why : (t : Tables) (user : UserId) (client : Option ℕ) (w : Window) (bytes : List ℕ)
    → has_x t (giving (record { user = user; client = client; window = Some w }) (command.Stuff bytes)) ≡ true
    → first_fault t (checks t (record { user = user; client = client; window = Some w }) (command.Stuff bytes)) ≡
    why_not_into t user w.serial
stuff_why t user client w bytes has =
    checks_why (may_in t user Execute (object.Command names.Stuff)) (may_in t user Execute (object.Window w.serial)) _ _
    (why_not_into t user w.serial) has

keyed_why : (v : Tables) (client : ℕ) (m : List ℕ → StatusMessage)
    (said : List Effect) (x : Option Refusal) (a : Answer)
    → Why client
    (said ++ unsaid said (keyed v client m (elim x as (λ _. Answer) [ Some r ↦ Err r | None ↦ a ])).effects) x
keyed_why v client m said None a = tt
keyed_why v client m said (Some r) a = unsaid_told said client (text_of r)

abbrev WhyNot : Reply → Option Refusal → Type 0
WhyNot reply None = Unit {0}
WhyNot reply (Some r) = reply ≡ Err r

answered_why : (t : Tables) (k : Caller) (c : Order) (x : Option Refusal)
    → WhyNot
    (answered t (verdicts t (checks t k c)) (elim x as (λ _. Answer) [ Some r ↦ Err r | None ↦ does t k c ])).reply x
answered_why t k c None = tt
answered_why t k c (Some r) = refl

-- if a `stuff` types, it has a window
no_window : (t : Tables) (user : UserId) (client : Option ℕ) (bytes : List ℕ)
    → has_x t (giving (record { user = user; client = client; window = None }) (command.Stuff bytes)) ≡ true → ⊥
no_window t user client bytes has = on (may_in t user Execute (object.Command names.Stuff)) has where
  on : (a : Bool) → (a && (not true || false)) ≡ true → ⊥
  on true is = cc (is)
  on false is = cc (is)

-- ---- what typed bytes there are

-- a fact of the bytes that a command types
stuffed_all : (P : Typed → Type 0) (t : Tables) (user : UserId) (client : Option ℕ) (o : Option Window) (c : Order)
    → ((w : Window) (bytes : List ℕ) → o ≡ Some w → c ≡ command.Stuff bytes
    → has_x t (giving (record { user = user; client = client; window = Some w }) (command.Stuff bytes)) ≡ true
    → P (record { user = user; window = Some w; bytes = bytes }))
    → let g : Given = giving (record { user = user; client = client; window = o }) c in AllByRecursion P
    (stuffed t g c ++ [])
stuffed_all P t user client None (command.Stuff bytes) on = cases
    (has_x t (giving (record { user = user; client = client; window = None }) (command.Stuff bytes)))
    (no_window t user client bytes) where
      cases : (b : Bool) → (b ≡ true → ⊥)
          → AllByRecursion P ((if b then record { user = user; window = None; bytes = bytes } ∷ [] else []) ++ [])
      cases true never = absurd (never refl)
      cases false never = tt
stuffed_all P t user client (Some w) (command.Stuff bytes) on = cases
    (has_x t (giving (record { user = user; client = client; window = Some w }) (command.Stuff bytes)))
    (on w bytes refl refl) where
      cases : (b : Bool) → (b ≡ true → P (record { user = user; window = Some w; bytes = bytes }))
          → AllByRecursion P ((if b then record { user = user; window = Some w; bytes = bytes } ∷ [] else []) ++ [])
      cases true here = (here refl, tt)
      cases false here = tt
stuffed_all P t user client o c on = tt

-- ---- by keys

abbrev TellsIn : ℕ → List Effect → List ℕ → Option Refusal → Type 0
TellsIn client effects [] why = Unit {0}
TellsIn client effects (b ∷ bytes) why = Why client effects why

tells_in : (client : ℕ) (effects : List Effect) (bytes : List ℕ) (why : Option Refusal) → Why client effects why
    → TellsIn client effects bytes why
tells_in client effects [] why is = tt
tells_in client effects (b ∷ bytes) why is = is

typed_tells : (u : Tables) (d : Client) (bytes : List ℕ) (more : List Effect)
    → TellsIn d.serial ((types u d bytes).effects ++ more) bytes
    (first_fault u (typing_checks d.user (focused_window u d)))
typed_tells u d [] more = tt
typed_tells u d (b ∷ bytes) more = why_left d.serial (types u d (b ∷ bytes)).effects more
    (first_fault u (typing_checks d.user (focused_window u d))) (types_why u d b bytes)

module _ (t : Tables) (c : Client) (said : List Effect) (cs : List Client) (read : List ℕ) where
  order_tells : (order : Order)
      → AllByRecursion
      (λ (bs : Typed). TellsIn c.serial
      (said ++ unsaid said (answering.by_line (record t { clients = cs }) (reading read c) (Ok order)).deed.effects)
      bs.bytes (why_not t bs))
      (stuffed t (giving (caller_of t c) order) order ++ [])
  order_tells order =
      let v : Tables = record t { clients = cs } in
      let effects : List Effect = said ++ unsaid said (answering.by_line v (reading read c) (Ok order)).deed.effects in
      stuffed_all (λ (bs : Typed). TellsIn c.serial effects bs.bytes (why_not t bs)) t c.user (Some c.serial)
      (focused_window t c) order
      (λ w bytes at is has.
      let why : first_fault t (checks t (caller_of t c) order) ≡ why_not_into t c.user w.serial =
      ap (λ (o : Option Window). first_fault t
      (checks t (record { user = c.user; client = Some c.serial; window = o }) order)) at
      ∙ ap (λ (x : Order). first_fault t
      (checks t (record { user = c.user; client = Some c.serial; window = Some w }) x)) is
      ∙ stuff_why t c.user (Some c.serial) w bytes has in
      tells_in c.serial effects bytes (why_not_into t c.user w.serial)
      (subst (Why c.serial effects) why
      (keyed_why v c.serial (message_of order) said (first_fault t (checks t (caller_of t c) order))
      (does v (caller_of t c) order))))

  line_tells : (r : Result Order ParseFault)
      → AllByRecursion
      (λ (bs : Typed). TellsIn c.serial
      (said ++ unsaid said (answering.by_line (record t { clients = cs }) (reading read c) r).deed.effects) bs.bytes
      (why_not t bs))
      (flat_map (λ g. stuffed t g g.order) (with_order (caller_of t c) (ok_of r)))
  line_tells (Err f) = tt
  line_tells (Ok order) = order_tells order

  item_tells : (item : Option Item)
      → AllByRecursion
      (λ (bs : Typed). TellsIn c.serial
      (said ++ unsaid said (ordered (record t { clients = cs }) (reading read c) item).deed.effects) bs.bytes
      (why_not t bs))
      (flat_map (λ g. stuffed t g g.order) (with_order (caller_of t c) (order_in item)))
  item_tells (Some (bound order)) = order_tells order
  item_tells (Some (line (b ∷ bs))) = line_tells (read_line (b ∷ bs))
  item_tells item = tt

abbrev Told : Tables → ℕ → List Effect → Typed → Type 0
Told t client effects bs = TellsIn client effects bs.bytes (why_not t bs)

keys_tell : (t : Tables) (client : ℕ) (bytes : List ℕ) (c : Client) → client_at t client ≡ Some c
    → AllByRecursion (Told t c.serial (keys_outcome t c (take (taken c.keys bytes) bytes)).effects)
    (typed_by_client t c bytes ∷ flat_map (λ g. stuffed t g g.order)
    (with_order (caller_of t c) (order_in (command_item (step_items c bytes)))))
keys_tell t client bytes c is =
    let read : List ℕ = take (taken c.keys bytes) bytes in
    let given : List Item = step_items c bytes in
    let d : Client = reading read c in
    let u : Tables = with_client t d in
    let before : Deed = types u d (typed_bytes given) in
    let order : Tables → List Effect = λ v. (ordered v d (command_item given)).deed.effects in (
      subst (TellsIn c.serial (before.effects ++ unsaid before.effects (order before.tables)) (typed_bytes given))
          (fault_why t c.user (focused_window t c) (typed_bytes given))
          (typed_tells u d (typed_bytes given) (unsaid before.effects (order before.tables))),
      typing_clients
          (λ v. AllByRecursion (Told t c.serial (before.effects ++ unsaid before.effects (order v)))
          (flat_map (λ g. stuffed t g g.order) (with_order (caller_of t c) (order_in (command_item given)))))
          t client c d (typed_bytes given) is refl refl
          (λ cs same. item_tells t c before.effects cs read (command_item given)),
    )

-- ---- by a line

abbrev Answers : Tables → Reply → Typed → Type 0
Answers t reply bs = WhyNot reply (why_not t bs)

line_answers : (t : Tables) (user : UserId) (number : Option ℕ) (b : Bool) (r : Result Order ParseFault)
    → AllByRecursion
    (Answers t
    (if b then commanded t (line_ruling t (line_caller t user number) r) else refused t [] UnknownUser).reply)
    (flat_map (λ g. stuffed t g g.order) (if b then with_order (line_caller t user number) (ok_of r) else []))
line_answers t user number false r = tt
line_answers t user number true (Err f) = tt
line_answers t user number true (Ok c) =
    let k : Caller = line_caller t user number in
    let reply : Reply = (commanded t (line_ruling t k (Ok c))).reply in
    stuffed_all (Answers t reply) t user None k.window c
    (λ w bytes at is has.
    let why : first_fault t (checks t k c) ≡ why_not_into t user w.serial =
    ap (λ (o : Option Window). first_fault t (checks t (record { user = user; client = None; window = o }) c)) at
    ∙ ap (λ (x : Order). first_fault t (checks t (record { user = user; client = None; window = Some w }) x)) is
    ∙ stuff_why t user None w bytes has in
    subst (WhyNot reply) why (answered_why t k c (first_fault t (checks t k c))))

-- ---- steps

module _ (t : Tables) (reply : Reply) (acts : List Act) (vs : List Verdict) (effects : List Effect) where
  keys_told : (client : ℕ) (bytes : List ℕ) (bs : Typed) → Told t client effects bs
      → IsTold (record { event = Keys client bytes; reply = reply; acts = acts; verdicts = vs; effects = effects })
      bs.bytes (why_not t bs)
  keys_told client bytes bs is = on bs.bytes (why_not t bs) is where
    on : (bs : List ℕ) (why : Option Refusal) → TellsIn client effects bs why
        → IsTold (record { event = Keys client bytes; reply = reply; acts = acts; verdicts = vs; effects = effects }) bs
        why
    on [] why is = tt
    on (b ∷ bs) None is = tt
    on (b ∷ bs) (Some r) is = is

  line_told : (user : UserId) (number : Option ℕ) (bytes : List ℕ) (bs : Typed) → Answers t reply bs
      → IsTold
      (record { event = Command user number bytes; reply = reply; acts = acts; verdicts = vs; effects = effects })
      bs.bytes (why_not t bs)
  line_told user number bytes bs is = on bs.bytes (why_not t bs) is where
    on : (bs : List ℕ) (why : Option Refusal) → WhyNot reply why
        → IsTold
        (record { event = Command user number bytes; reply = reply; acts = acts; verdicts = vs; effects = effects }) bs
        why
    on [] why is = tt
    on (b ∷ bs) None is = tt
    on (b ∷ bs) (Some r) is = is

  pub told : (event : EventValue)
      → let e : Entry = record { event = event; reply = reply; acts = acts; verdicts = vs; effects = effects } in IsStep
      t e → DenialIsTold t e
  told (Keys client bytes) step = on (client_at t client) refl step.effects where
    on : (o : Option Client) → client_at t client ≡ o
        → effects ≡
        (elim o as (λ _. Outcome)
        [ None ↦ refused t [] NoWindow | Some c ↦ keys_outcome t c (take (taken c.keys bytes) bytes) ]).effects
        → AllByRecursion
        (λ bs. IsTold
        (record { event = Keys client bytes; reply = reply; acts = acts; verdicts = vs; effects = effects })
        bs.bytes (why_not t bs))
        (option_map_or (λ c. typed_by_client t c bytes ∷ []) o [] ++ flat_map (λ g. stuffed t g g.order)
        (option_map_or (λ c. with_order (caller_of t c) (order_in (command_item (step_items c bytes)))) o []))
    on None at is = tt
    on (Some c) at is =
        all_weaken (Told t client effects)
        (λ bs. IsTold
        (record { event = Keys client bytes; reply = reply; acts = acts; verdicts = vs; effects = effects })
        bs.bytes (why_not t bs))
        (typed_by_client t c bytes ∷ flat_map (λ g. stuffed t g g.order)
        (with_order (caller_of t c) (order_in (command_item (step_items c bytes)))))
        (keys_told client bytes)
        (subst
        (λ n. AllByRecursion (Told t n effects)
        (typed_by_client t c bytes ∷ flat_map (λ g. stuffed t g g.order)
        (with_order (caller_of t c) (order_in (command_item (step_items c bytes))))))
        (row_serial (λ (x : Client). x.serial) t.clients client c at)
        (subst
        (λ es. AllByRecursion (Told t c.serial es)
        (typed_by_client t c bytes ∷ flat_map (λ g. stuffed t g g.order)
        (with_order (caller_of t c) (order_in (command_item (step_items c bytes)))))) (sym is)
        (keys_tell t client bytes c at)))
  told (Command user number bytes) step =
      all_weaken (Answers t reply)
      (λ bs. IsTold
      (record { event = Command user number bytes; reply = reply; acts = acts; verdicts = vs; effects = effects })
      bs.bytes (why_not t bs)) _
      (line_told user number bytes)
      (subst
      (λ r. AllByRecursion (Answers t r)
      (flat_map (λ g. stuffed t g g.order)
      (if is_known t user then with_order (line_caller t user number) (ok_of (read_line bytes)) else [])))
      (sym step.reply)
      (line_answers t user number (is_known t user) (read_line bytes)))
  told event step = tt
