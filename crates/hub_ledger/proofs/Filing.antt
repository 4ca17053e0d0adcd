-- What one more step does to the trail under the lock, and what is handed out of it.
use Rattle.hub_ledger.proofs.Vocabulary.{◌≡◌, ℕ, ◌+◌, Bool, true, false, List, [], ◌∷◌, ◌++◌, length, map, Option, Some}
use Rattle.hub_ledger.proofs.Vocabulary.{None, refl, ap, sym, ◌∙◌, subst, arith, length-append, IfOk, Result, Ok, Err}
use Rattle.hub_ledger.proofs.Vocabulary.{is_some, slice_get, if◌then◌else◌, result_ok, append-nil, length-map}
use Rattle.hub_ledger.proofs.Vocabulary.{EventValue, Reply, Kept, filed, kept_of, marked, State, entry_of, Receipt}
use Rattle.hub_ledger.proofs.Vocabulary.{IsReceived, Sitting, StandsLast, Told, stepped}
use Rattle.std.specs.Prelude.{IfSome}
use Rattle.session.specs.Trace.{Entry}
use Rattle.hub_trail.specs.Trails as trails
use Rattle.hub_trail.specs.Filing as filing
use Rattle.hub_trail.specs.Filing.{ending_of}
use Rattle.hub_ledger.specs.Routing.{is_draw}
use Rattle.hub_ledger.specs.States.{Takes}
use Rattle.hub_ledger.specs.Seats.{HasReceipt, IsHanded}

one_filed : (o : Option Kept) (step : Entry) → is_some o ≡ true → length (filing.entry_of o step) ≡ 1
one_filed None step is = absurd (cc (is))
one_filed (Some k) step is = refl

none_filed : (o : Option Kept) (step : Entry) → is_some o ≡ false → filing.entry_of o step ≡ []
none_filed None step is = refl
none_filed (Some k) step is = absurd (cc (is))

marks_stay : (event : EventValue) (marks : List Bool) → length (marked event marks) ≡ length marks
marks_stay event marks = at (is_draw event) where
  at : (b : Bool) → length (if b then marks else map (λ c. true) marks) ≡ length marks
  at true = refl
  at false = length-map marks (λ c. true)

pub one_more : (seat : ℕ) (event : EventValue) (reply : Reply) (typed : Option ℕ) (old new : State)
    → Takes seat event reply typed old new
    → is_some (kept_of event) ≡ true → length new.trail.entries ≡ length old.trail.entries + 1
one_more seat event reply typed old new takes writes =
    let step = entry_of event reply takes.0 takes.1 in
    let more : length new.trail.entries ≡ length (old.trail.entries ++ filed step) = ap
    (λ (t : trails.Trail). length t.entries) takes.2.trail in
    let one : length (filed step) ≡ 1 = one_filed (kept_of event) step writes in
    omega (arith, more, one, length-append old.trail.entries (filed step))

pub no_more : (seat : ℕ) (event : EventValue) (reply : Reply) (typed : Option ℕ) (old new : State)
    → Takes seat event reply typed old new
    → is_some (kept_of event) ≡ false → length new.trail.entries ≡ length old.trail.entries
no_more seat event reply typed old new takes not =
    let step = entry_of event reply takes.0 takes.1 in
    ap (λ (t : trails.Trail). length t.entries) takes.2.trail
    ∙ ap (λ (es : List trails.Entry). length (old.trail.entries ++ es)) (none_filed (kept_of event) step not)
    ∙ ap length (append-nil old.trail.entries)

pub seats_stay : (seat : ℕ) (event : EventValue) (reply : Reply) (typed : Option ℕ) (old new : State)
    → Takes seat event reply typed old new
    → (length new.waiting ≡ length old.waiting) × (length new.marks ≡ length old.marks)
seats_stay seat event reply typed old new takes =
    (takes.2.waiting.seats, ap length takes.2.marks ∙ marks_stay event old.marks)

-- the trail is still that of the session with which the hub began
pub begins_stay : (seat : ℕ) (event : EventValue) (reply : Reply) (typed : Option ℕ) (old new : State)
    → Takes seat event reply typed old new
    → (new.trail.edition ≡ old.trail.edition) × (new.trail.owner ≡ old.trail.owner)
begins_stay seat event reply typed old new takes =
    (ap (λ (t : trails.Trail). t.edition) takes.2.trail, ap (λ (t : trails.Trail). t.owner) takes.2.trail)

pub answered : (o : Option Kept) (place : ℕ) (told : Told) (old new : Sitting) → told.place ≡ Some place
    → IsReceived o told.reply place old.receipts new.receipts
    → new ≡ record (stepped old) { receipts = new.receipts } → HasReceipt o told old new
answered None place told old new at is same = absurd (let none = is.more.1 in cc (none))
answered (Some k) place told old new at is same =
    let kept : is.more.0 ≡ k = (let some = is.more.1 in cc (some)) in
    let items : new.receipts ≡ old.receipts ++ record { place = place; event = k; reply = ending_of told.reply } ∷ [] =
    subst
    (λ (x : Kept). new.receipts ≡ old.receipts ++ record { place = place; event = x; reply = ending_of told.reply }
    ∷ []) kept is.more.2 in
    (place, at, is.below, same ∙ ap (λ (x : List Receipt). record (stepped old) { receipts = x }) items)

-- ---- an entry that is handed out

-- a copy of the entry at a place, for a seat that asks for entries
abbrev pub IsCopied : Bool → List trails.Entry → ℕ → trails.Entry → Type 0
IsCopied asks entries place e = (asks ≡ true) × (slice_get entries place ≡ Some e)

pub copied_there : {E : Type 0} (asks : Bool) (entries : List trails.Entry) (place : ℕ) (e : trails.Entry)
    (r : Result trails.Entry E) (o : Option trails.Entry) → asks ≡ true → slice_get entries place ≡ Some e
    → IfOk r (λ (copy : trails.Entry). copy ≡ e) → o ≡ result_ok r → IfSome o (IsCopied asks entries place)
copied_there asks entries place e (Ok x) o ask at same is =
    subst (λ (y : Option trails.Entry). IfSome y (IsCopied asks entries place)) (sym is)
    (ask, at ∙ ap (λ (y : trails.Entry). Some y) (sym same))
copied_there asks entries place e (Err x) o ask at same is =
    subst (λ (y : Option trails.Entry). IfSome y (IsCopied asks entries place)) (sym is) tt

behind : (es : List trails.Entry) (x : trails.Entry) → slice_get (es ++ x ∷ []) (length es) ≡ Some x
behind [] x = refl
behind (e ∷ es) x = behind es x

-- what follows the earlier entries is the step's entry
step_behind : (o : Option Kept) (step : Entry) (es : List trails.Entry) (e : trails.Entry) → is_some o ≡ true
    → slice_get (es ++ filing.entry_of o step) (length es) ≡ Some e
    → (filing.entry_of o step ≡ e ∷ []) × (o ≡ Some e.event) × (e.reply ≡ ending_of step.reply)
step_behind None step es e writes at = absurd (cc (writes))
step_behind (Some k) step es e writes at =
    let made : trails.Entry = record
    { event = k; verdicts = step.verdicts; acts = step.acts; reply = ending_of step.reply } in
    let there : Some made ≡ Some e = sym (behind es made) ∙ at in
    let same : made ≡ e = cc (there) in (
      ap (λ (x : trails.Entry). x ∷ []) same,
      ap (λ (x : trails.Entry). Some x.event) same,
      sym (ap (λ (x : trails.Entry). x.reply) same),
    )

filed_behind : (seat : ℕ) (event : EventValue) (reply : Reply) (typed : Option ℕ) (old new : State)
    (place : ℕ) (e : trails.Entry) → Takes seat event reply typed old new → is_some (kept_of event) ≡ true
    → place ≡ length old.trail.entries
    → slice_get new.trail.entries place ≡ Some e
    → (new.trail.entries ≡ old.trail.entries ++ e ∷ []) × (kept_of event ≡ Some e.event) × (e.reply ≡ ending_of reply)
filed_behind seat event reply typed old new place e takes writes last at =
    let step = entry_of event reply takes.0 takes.1 in
    let es = old.trail.entries in
    let more : new.trail.entries ≡ es ++ filed step = ap (λ (t : trails.Trail). t.entries) takes.2.trail in
    let here : slice_get (es ++ filed step) (length es) ≡ Some e = (λ i. slice_get (sym more i) (sym last i)) ∙ at in
    let s = step_behind (kept_of event) step es e writes here in
    (more ∙ ap (λ (x : List trails.Entry). es ++ x) s.0, s.1, s.2)

-- the copy is of the entry at the place of the step's entry
pub stands_last : (asks : Bool) (seat : ℕ) (event : EventValue) (reply : Reply) (typed : Option ℕ) (old new : State)
    (place : ℕ) (entry : Option trails.Entry) → Takes seat event reply typed old new → is_some (kept_of event) ≡ true
    → place ≡ length old.trail.entries
    → IfSome entry (IsCopied asks new.trail.entries place) → StandsLast entry old.trail.entries new.trail.entries
stands_last asks seat event reply typed old new place None takes writes last copy = tt
stands_last asks seat event reply typed old new place (Some e) takes writes last copy =
    (filed_behind seat event reply typed old new place e takes writes last copy.1).0

pub handed : (sitting : Sitting) (event : EventValue) (reply : Reply) (typed : Option ℕ) (old new : State)
    (place : ℕ) (entry : Option trails.Entry) → Takes sitting.number event reply typed old new
    → is_some (kept_of event) ≡ true
    → place ≡ length old.trail.entries
    → IfSome entry (IsCopied sitting.asks new.trail.entries place) → IfSome entry (IsHanded sitting event reply)
handed sitting event reply typed old new place None takes writes last copy = tt
handed sitting event reply typed old new place (Some e) takes writes last copy =
    let f = filed_behind sitting.number event reply typed old new place e takes writes last copy.1 in
    record { asks = copy.0; kept = f.1; ending = f.2 }
