-- A new window gives each user what its opener's masks say.
use Rattle.session_laws.proofs.Vocabulary.{◌≡◌, ℕ, Bool, true, false, List, [], ◌∷◌, Some, None, Ok, Err, refl, ap, sym}
use Rattle.session_laws.proofs.Vocabulary.{◌∙◌, if◌then◌else◌, ◌==◌, ◌||◌, unwrap_or, is_ok, AllByRecursion, list_any}
use Rattle.session_laws.proofs.Vocabulary.{UserId, Bit, Act, same_user, followed_by, mask, has, decided, opening}
use Rattle.session_laws.proofs.Vocabulary.{Effect, Verdict, Tables, Window, Client, first_fault, verdicts, outcome}
use Rattle.session_laws.proofs.Vocabulary.{Outcome, left_acts, reply_of, open_checks, opens, new_window, IsStep}
use Rattle.session_laws.proofs.Vocabulary.{EventValue, Open, Reply, Entry, itself, opens_window, IsGivenByMasks}
use Rattle.acl.specs.declared.act.Act.TheVariants as act
use Rattle.acl.specs.declared.act.Object.TheVariants as object
use Rattle.acl.specs.History.{is_known}
use Rattle.session_laws.proofs.Outcomes as outcomes
use Rattle.session_laws.proofs.Listing.{is_listing}
use Rattle.session_laws.proofs.Histories.{same_has}
use Rattle.session_laws.proofs.Events.{all_left}

module _ (t : Tables) (opener : UserId) (user : UserId) (bit : Bit) where
  abbrev granted : Bool
  granted = same_user opener user || mask t.acts opener user bit

  by_opening : (same known : Bool) → known ≡ true → (before : Bool)
      → unwrap_or (if same then Some true else decided known (mask t.acts opener user bit)) before ≡
      (same || mask t.acts opener user bit)
  by_opening true known is before = refl
  by_opening false true is before = refl
  by_opening false false is before = absurd (cc (is))

  at_once : (b : Bool) → b ≡ true → is_known t.owner t.acts user ≡ true → (before : Bool)
      → unwrap_or (if b then opening t.owner t.acts opener user bit else None) before ≡ granted
  at_once true is known before = by_opening (same_user opener user) (is_known t.owner t.acts user) known before
  at_once false is known before = absurd (cc (is))

  opened_has : is_known t.owner t.acts user ≡ true
      → has t.owner (act.Opened opener t.next_window ∷ t.acts) user bit (object.Window t.next_window) ≡ granted
  opened_has known = at_once (t.next_window == t.next_window) (itself t.next_window) known
      (has t.owner t.acts user bit (object.Window t.next_window))

none_opened : (n : ℕ) (acts : List Act) → AllByRecursion (λ a. opens_window n a ≡ false) acts
    → list_any (opens_window n) acts ≡ false
none_opened n [] all = refl
none_opened n (a ∷ acts) all = ap (λ b. b || list_any (opens_window n) acts) all.0 ∙ none_opened n acts all.1

opened_row : (t : Tables) (opener : UserId) (clients : List Client) (user : UserId) (bit : Bit)
    → is_known t.owner t.acts user ≡ true
    → has t.owner (followed_by (act.Opened opener t.next_window ∷ t.acts) (left_acts t.clients clients)) user bit
    (object.Window t.next_window) ≡ (same_user opener user || mask t.acts opener user bit)
opened_row t opener clients user bit known =
    same_has t.edition t.owner (act.Opened opener t.next_window ∷ t.acts) (left_acts t.clients clients)
    (all_left (λ a. is_listing a ≡ false) t.clients clients (λ u w. refl)) user bit (object.Window t.next_window)
    (none_opened t.next_window (left_acts t.clients clients)
    (all_left (λ a. opens_window t.next_window a ≡ false) t.clients clients (λ u w. refl)))
    ∙ opened_has t opener user bit known

abbrev IsMasked : Tables → UserId → Outcome → Type 0
IsMasked t opener o =
    is_ok o.reply ≡ true → (user : UserId) (bit : Bit) → is_known t.owner t.acts user ≡ true →
    has o.tables.owner o.tables.acts user bit (object.Window t.next_window) ≡
    (same_user opener user || mask t.acts opener user bit)

masked : (t : Tables) (opener : UserId) (rows columns keep : ℕ) (title : List ℕ)
    → IsMasked t opener (outcome t (Open opener rows columns keep title))
masked t opener rows columns keep title =
    let v : Window = new_window t rows columns keep title in
    outcomes.passed (IsMasked t opener) t (verdicts t (open_checks t opener rows columns keep title))
    (first_fault t (open_checks t opener rows columns keep title)) (reply_of 0 v.serial v.number None)
    (opens t opener v)
    (λ r is ok. absurd (cc (ok))) (λ is ok user bit known. opened_row t opener t.clients user bit known)

pub given_by_masks : (t : Tables) (event : EventValue) (reply : Reply) (acts : List Act) (vs : List Verdict)
    (effects : List Effect)
    → let e : Entry = record { event = event; reply = reply; acts = acts; verdicts = vs; effects = effects } in IsStep t
    e → IsGivenByMasks t e event reply
given_by_masks t (Open opener rows columns keep title) (Ok done) acts vs effects step =
    masked t opener rows columns keep title (ap is_ok (sym step.reply))
given_by_masks t (Open opener rows columns keep title) (Err r) acts vs effects step = tt
given_by_masks t event reply acts vs effects step = tt
