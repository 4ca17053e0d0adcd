-- Rows of clients, and whose last one goes.
use Rattle.rights.proofs.Vocabulary.{◌≡◌, ◌∙◌, ℕ, Bool, true, false, not, ◌&&◌, ◌||◌, List, [], ◌∷◌, Option, Some, None}
use Rattle.rights.proofs.Vocabulary.{refl, ap, sym, subst, if◌then◌else◌, ◌==◌, list_any, option_map_or, false≢true}
use Rattle.rights.proofs.Vocabulary.{eqb-true, UserId, same_user, Differ, last_in}
use Rattle.std.specs.Prelude.{filter}
use Rattle.acl.proofs.StandsForLemmas.{same_user-true}
use Rattle.acl.proofs.FollowingLemmas.{same_user-sym}
use Rattle.rights.specs.Clients.{user_in, has_other, unless_other}

abbrev pub Row : Type 0
Row = ℕ × UserId

abbrev pub others : List Row → ℕ → List Row
others rows client = filter (λ c. not (c.0 == client)) rows

abbrev pub is_users : UserId → List Row → Bool
is_users u rows = list_any (λ c. same_user c.1 u) rows

-- a row that is kept, or not, of those of a user
kept_one : (k b r s : Bool) → r ≡ s → (if k then b || r else r) ≡ ((k && b) || s)
kept_one true b r s e = ap (λ x. b || x) e
kept_one false b r s e = e

is_users-if : (u : UserId) (k : Bool) (c : Row) (rows : List Row)
    → is_users u (if k then c ∷ rows else rows) ≡ (if k then same_user c.1 u || is_users u rows else is_users u rows)
is_users-if u true c rows = refl
is_users-if u false c rows = refl

pub others-of : (rows : List Row) (client : ℕ) (u : UserId) → is_users u (others rows client) ≡ has_other rows client u
others-of [] client u = refl
others-of (c ∷ rows) client u =
    is_users-if u (not (c.0 == client)) c (others rows client)
    ∙ kept_one (not (c.0 == client)) (same_user c.1 u) (is_users u (others rows client)) (has_other rows client u)
    (others-of rows client u)

-- serials still differ where some rows are kept
or_false : (b c : Bool) → (b || c) ≡ false → (b ≡ false) × (c ≡ false)
or_false true c e = absurd (false≢true (sym e))
or_false false c e = (refl, e)

any_if : (n : ℕ) (k : Bool) (c : Row) (rows : List Row) → (c.0 == n) ≡ false → list_any (λ d. d.0 == n) rows ≡ false
    → list_any (λ d. d.0 == n) (if k then c ∷ rows else rows) ≡ false
any_if n true c rows e f = ap (λ b. b || list_any (λ d. d.0 == n) rows) e ∙ f
any_if n false c rows e f = f

none_kept : (rows : List Row) (client n : ℕ) → list_any (λ d. d.0 == n) rows ≡ false
    → list_any (λ d. d.0 == n) (others rows client) ≡ false
none_kept [] client n e = refl
none_kept (c ∷ rows) client n e =
    let parts : ((c.0 == n) ≡ false)
    × (list_any (λ d. d.0 == n) rows ≡ false) = or_false (c.0 == n) (list_any (λ d. d.0 == n) rows) e in
    any_if n (not (c.0 == client)) c (others rows client) parts.0 (none_kept rows client n parts.1)

differ_if : (k : Bool) (c : Row) (rows : List Row) → list_any (λ d. d.0 == c.0) rows ≡ false → Differ rows
    → Differ (if k then c ∷ rows else rows)
differ_if true c rows e d = (e, d)
differ_if false c rows e d = d

pub differ_on : (rows : List Row) (client : ℕ) → Differ rows → Differ (others rows client)
differ_on [] client d = tt
differ_on (c ∷ rows) client d = differ_if (not (c.0 == client)) c (others rows client) (none_kept rows client c.0 d.0)
    (differ_on rows client d.1)

-- if the client isn't there, all rows are others
all_others : (rows : List Row) (client : ℕ) (u : UserId) → list_any (λ d. d.0 == client) rows ≡ false
    → is_users u rows ≡ has_other rows client u
all_others [] client u e = refl
all_others (c ∷ rows) client u e =
    let parts : ((c.0 == client) ≡ false)
    × (list_any (λ d. d.0 == client) rows ≡ false) = or_false (c.0 == client) (list_any (λ d. d.0 == client) rows) e
    in
    ap (λ b. same_user c.1 u || b) (all_others rows client u parts.1)
    ∙ ap (λ b. (not b && same_user c.1 u) || has_other rows client u) (sym parts.0)

abbrev pub is_mine : UserId → Option UserId → Bool
is_mine u owner = option_map_or (λ x. same_user x u) owner false

or_swap : (s o m : Bool) → (s || (o || m)) ≡ ((s || o) || m)
or_swap true o m = refl
or_swap false o m = refl

or_turn : (s o : Bool) → (s || o) ≡ (o || s)
or_turn true true = refl
or_turn true false = refl
or_turn false true = refl
or_turn false false = refl

split_at : (u : UserId) (c : Row) (rows : List Row) (client : ℕ) (b : Bool)
    → (b ≡ true → is_users u rows ≡ has_other rows client u)
    → is_users u rows ≡ (has_other rows client u || is_mine u (user_in rows client))
    → (same_user c.1 u || is_users u rows) ≡
    (((not b && same_user c.1 u) || has_other rows client u) || is_mine u
    (if b then Some c.1 else user_in rows client))
split_at u c rows client true none below = ap (λ x. same_user c.1 u || x) (none refl)
    ∙ or_turn (same_user c.1 u) (has_other rows client u)
split_at u c rows client false none below = ap (λ x. same_user c.1 u || x) below
    ∙ or_swap (same_user c.1 u) (has_other rows client u) (is_mine u (user_in rows client))

-- a user's rows are others, or the client's
pub split_rows : (rows : List Row) (client : ℕ) (u : UserId) → Differ rows
    → is_users u rows ≡ (has_other rows client u || is_mine u (user_in rows client))
split_rows [] client u d = refl
split_rows (c ∷ rows) client u d =
    split_at u c rows client (c.0 == client)
    (λ e. all_others rows client u
    (subst (λ n. list_any (λ (x : Row). x.0 == n) rows ≡ false) (eqb-true c.0 client e) d.0))
    (split_rows rows client u d.1)

drained : (o s p : Bool) → (s ≡ true → o ≡ p) → ((o || s) && not o) ≡ (not p && s)
drained true true true h = refl
drained true true false h = absurd (false≢true (sym (h refl)))
drained true false true h = refl
drained true false false h = refl
drained false true true h = absurd (false≢true (h refl))
drained false true false h = refl
drained false false true h = refl
drained false false false h = refl

unless : (u x : UserId) (p : Bool)
    → option_map_or (same_user u) (if p then None else Some x) false ≡ (not p && same_user u x)
unless u x true = refl
unless u x false = refl

loses_at : (rows : List Row) (client : ℕ) (u : UserId) (o : Option UserId)
    → ((has_other rows client u || is_mine u o) && not (has_other rows client u)) ≡ option_map_or (same_user u)
    (unless_other rows client o) false
loses_at rows client u None = at (has_other rows client u)
  where
    at : (b : Bool) → ((b || false) && not b) ≡ false
    at true = refl
    at false = refl
loses_at rows client u (Some x) =
    drained (has_other rows client u) (same_user x u) (has_other rows client x)
    (λ e. ap (has_other rows client) (sym (same_user-true x u e)))
    ∙ ap (λ b. not (has_other rows client x) && b) (same_user-sym x u)
    ∙ sym (unless u x (has_other rows client x))

-- the user who loses their last row with the client's
pub last_is : (rows : List Row) (client : ℕ) (u : UserId) → Differ rows
    → (is_users u rows && not (is_users u (others rows client))) ≡ option_map_or (same_user u) (last_in rows client)
    false
last_is rows client u d =
    ap (λ b. b && not (is_users u (others rows client))) (split_rows rows client u d)
    ∙ ap (λ b. (has_other rows client u || is_mine u (user_in rows client)) && not b) (others-of rows client u)
    ∙ loses_at rows client u (user_in rows client)
