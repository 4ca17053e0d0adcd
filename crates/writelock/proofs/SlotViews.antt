-- The locks read by their slots, while slots and locks change.
use Rattle.writelock.proofs.Vocabulary.{◌≡◌, ◌∙◌, ℕ, Bool, true, false, ◌==◌, ap, subst, sym, refl, arith, List, []}
use Rattle.writelock.proofs.Vocabulary.{◌∷◌, Option, Some, None, if◌then◌else◌, true≢false, slice_set, slice_index_or}
use Rattle.writelock.proofs.Vocabulary.{option_map, slot_of, free_slot, is_window, without_window, Lock, lock_at}
use Rattle.std.proofs.Common.{◌≢◌, zero, suc, ◌+◌, ◌<◌, ◌≤◌, nat_le, slice_get, length, map, option_and_then, eq-eqb}
use borrow.Author.Tests.{eqb-true, leb-true, leb-false}
use Rattle.acl.proofs.OpenSlots.{found, slot_of-opened, slot_of-closed, slot_of-free, slot_of-apart, free_slot-empty}

get-set_same : (locks : List Lock) (k : ℕ) (lock : Lock) → k < length locks
    → slice_get (slice_set locks k lock) k ≡ Some lock
get-set_same [] k lock below = absurd (omega arith)
get-set_same (x ∷ locks) zero lock below = refl
get-set_same (x ∷ locks) (suc k) lock below = get-set_same locks k lock (omega arith)

get-set_other : (locks : List Lock) (k j : ℕ) (lock : Lock) → j ≢ k
    → slice_get (slice_set locks k lock) j ≡ slice_get locks j
get-set_other [] k j lock apart = refl
get-set_other (x ∷ locks) zero zero lock apart = absurd (apart refl)
get-set_other (x ∷ locks) zero (suc j) lock apart = refl
get-set_other (x ∷ locks) (suc k) zero lock apart = refl
get-set_other (x ∷ locks) (suc k) (suc j) lock apart = get-set_other locks k j lock (λ e. apart (ap suc e))

get-within : (locks : List Lock) (k : ℕ) → k < length locks → (lock : Lock) × (slice_get locks k ≡ Some lock)
get-within [] k below = absurd (omega arith)
get-within (x ∷ locks) zero below = (x, refl)
get-within (x ∷ locks) (suc k) below = get-within locks k (omega arith)

-- the locks, after the lock of one window is put
pub lock_at-put : (windows : List (Option ℕ)) (locks : List Lock) (w slot : ℕ) (lock : Lock)
    → length windows ≡ length locks → slot_of windows w ≡ Some slot
    → (q : ℕ)
    → lock_at windows (slice_set locks slot lock) q ≡
    (if w == q then option_map (λ _. lock) (lock_at windows locks q) else lock_at windows locks q)
lock_at-put windows locks w slot lock same at q = by (w == q) refl
  where
    below : slot < length locks
    below = omega (arith, same, (found (is_window w) slot windows at).0)

    by : (c : Bool) → (w == q) ≡ c
        → lock_at windows (slice_set locks slot lock) q ≡
        (if c then option_map (λ _. lock) (lock_at windows locks q) else lock_at windows locks q)
    by true e =
        let here : slot_of windows q ≡ Some slot = ap (slot_of windows) (sym (eqb-true w q e)) ∙ at in
        let had = get-within locks slot below in
        ap (option_and_then (λ k. slice_get (slice_set locks slot lock) k)) here ∙ get-set_same locks slot lock below
        ∙ ap (option_map {T = Lock} (λ _. lock)) (sym had.1)
        ∙ ap (λ o. option_map {T = Lock} (λ _. lock) (option_and_then (λ k. slice_get locks k) o)) (sym here)
    by false e = other (slot_of windows q) refl
      where
        other : (o : Option ℕ) → slot_of windows q ≡ o
            → option_and_then (λ k. slice_get (slice_set locks slot lock) k) o ≡ option_and_then
            (λ k. slice_get locks k) o
        other None f = refl
        other (Some k) f = get-set_other locks slot k lock
            (λ g. true≢false (sym (eq-eqb w q (slot_of-apart windows w q slot at (f ∙ ap Some g))) ∙ e))

-- the locks, after a window is opened in a free slot
pub lock_at-opened : (windows : List (Option ℕ)) (locks : List Lock) (w slot : ℕ) (lock : Lock)
    → length windows ≡ length locks → free_slot windows ≡ Some slot → slot_of windows w ≡ None
    → (q : ℕ)
    → lock_at (slice_set windows slot (Some w)) (slice_set locks slot lock) q ≡
    (if w == q then Some lock else lock_at windows locks q)
lock_at-opened windows locks w slot lock same free fresh q =
    ap (option_and_then (λ k. slice_get (slice_set locks slot lock) k))
    (slot_of-opened windows w q slot below (free_slot-empty windows slot free) fresh) ∙ by (w == q)
  where
    below : slot < length windows
    below = (found _ slot windows free).0

    other : (o : Option ℕ) → slot_of windows q ≡ o
        → option_and_then (λ k. slice_get (slice_set locks slot lock) k) o ≡ option_and_then (λ k. slice_get locks k) o
    other None f = refl
    other (Some k) f = get-set_other locks slot k lock (slot_of-free windows q k slot f free)

    by : (c : Bool)
        → option_and_then (λ k. slice_get (slice_set locks slot lock) k) (if c then Some slot else slot_of windows q) ≡
        (if c then Some lock else lock_at windows locks q)
    by true = get-set_same locks slot lock (omega (arith, same, below))
    by false = other (slot_of windows q) refl

-- the locks, after a window is closed
pub lock_at-closed : (windows : List (Option ℕ)) (locks : List Lock) (w q : ℕ)
    → lock_at (map (without_window w) windows) locks q ≡ (if w == q then None else lock_at windows locks q)
lock_at-closed windows locks w q = ap (option_and_then (λ k. slice_get locks k)) (slot_of-closed windows w q)
    ∙ by (w == q)
  where
    by : (c : Bool)
        → option_and_then (λ k. slice_get locks k) (if c then None else slot_of windows q) ≡
        (if c then None else lock_at windows locks q)
    by true = refl
    by false = refl

-- the locks, after each is changed by the window in its slot
pub lock_at-changed : (f : Option ℕ → Lock → Lock) (windows : List (Option ℕ)) (old new : List Lock)
    → ((k : ℕ) → slice_get new k ≡ option_map (f (slice_index_or windows k None)) (slice_get old k))
    → (q : ℕ) → lock_at windows new q ≡ option_map (f (Some q)) (lock_at windows old q)
lock_at-changed f windows old new each q = by (slot_of windows q) refl
  where
    by : (o : Option ℕ) → slot_of windows q ≡ o
        → option_and_then (λ k. slice_get new k) o ≡ option_map (f (Some q)) (option_and_then (λ k. slice_get old k) o)
    by None e = refl
    by (Some k) e = each k
        ∙ ap (λ s. option_map (f s) (slice_get old k))
        (serial (slice_index_or windows k None) (found (is_window q) k windows e).1)
      where
        serial : (s : Option ℕ) → is_window q s ≡ true → s ≡ Some q
        serial None g = absurd (true≢false (sym g))
        serial (Some x) g = ap Some (eqb-true x q g)

-- within a loop that changes each lock with its slot: those below i are changed
pub record ChangedBelow (f : Option ℕ → Lock → Lock) (windows : List (Option ℕ)) (i : ℕ) (old new : List Lock) : Type 0
  where
    pub same_length : length new ≡ length old
    pub below : (k : ℕ) → k < i → slice_get new k ≡ option_map (f (slice_index_or windows k None)) (slice_get old k)
    pub above : (k : ℕ) → i ≤ k → slice_get new k ≡ slice_get old k

pub length-set_lock : (locks : List Lock) (k : ℕ) (lock : Lock) → length (slice_set locks k lock) ≡ length locks
length-set_lock [] k lock = refl
length-set_lock (x ∷ locks) zero lock = refl
length-set_lock (x ∷ locks) (suc k) lock = ap suc (length-set_lock locks k lock)

get_or-get : (locks : List Lock) (k : ℕ) (d lock : Lock) → slice_get locks k ≡ Some lock
    → slice_index_or locks k d ≡ lock
get_or-get [] k d lock e = cc
get_or-get (x ∷ locks) zero d lock e = cc
get_or-get (x ∷ locks) (suc k) d lock e = get_or-get locks k d lock e

pub changed_below-more : (f : Option ℕ → Lock → Lock) (windows : List (Option ℕ)) (i : ℕ) (old new : List Lock)
    (d lock : Lock) → ChangedBelow f windows i old new → i < length old
    → lock ≡ f (slice_index_or windows i None) (slice_index_or new i d)
    → ChangedBelow f windows (i + 1) old (slice_set new i lock)
changed_below-more f windows i old new d lock s within is = record {
  same_length = length-set_lock new i lock ∙ s.same_length;
  below = λ k b. by k b (k == i) refl;
  above = λ k a. get-set_other new i k lock (λ e. let n : k ≡ i = e in absurd (omega arith)) ∙ s.above k (omega arith);
}
  where
    here : slice_get (slice_set new i lock) i ≡ option_map (f (slice_index_or windows i None)) (slice_get old i)
    here =
        let had = get-within new i (omega (arith, s.same_length)) in
        get-set_same new i lock (omega (arith, s.same_length))
        ∙ ap Some (is ∙ ap (f (slice_index_or windows i None)) (get_or-get new i d had.0 had.1))
        ∙ ap (option_map (f (slice_index_or windows i None))) (sym had.1 ∙ s.above i (omega arith))

    by : (k : ℕ) → k < i + 1 → (c : Bool) → (k == i) ≡ c
        → slice_get (slice_set new i lock) k ≡ option_map (f (slice_index_or windows k None)) (slice_get old k)
    by k b true e = subst
        (λ j. slice_get (slice_set new i lock) j ≡ option_map (f (slice_index_or windows j None)) (slice_get old j))
        (sym (eqb-true k i e)) here
    by k b false e =
        let apart : k ≢ i = λ n. true≢false (sym (eq-eqb k i n) ∙ e) in
        get-set_other new i k lock apart ∙ s.below k (omega arith)

-- beyond the end of the list there is no lock
get-past : (locks : List Lock) (k : ℕ) → length locks ≤ k → slice_get locks k ≡ None
get-past [] k over = refl
get-past (x ∷ locks) zero over = absurd (omega arith)
get-past (x ∷ locks) (suc k) over = get-past locks k (omega arith)

pub changed_below-all : (f : Option ℕ → Lock → Lock) (windows : List (Option ℕ)) (i : ℕ) (old new : List Lock)
    → ChangedBelow f windows i old new → length old ≤ i
    → (k : ℕ) → slice_get new k ≡ option_map (f (slice_index_or windows k None)) (slice_get old k)
changed_below-all f windows i old new s over k = by (nat_le i k) refl
  where
    by : (c : Bool) → nat_le i k ≡ c
        → slice_get new k ≡ option_map (f (slice_index_or windows k None)) (slice_get old k)
    by false e = s.below k (omega (arith, leb-false i k e))
    by true e =
        let past : slice_get old k ≡ None = get-past old k (omega (arith, leb-true i k e)) in
        s.above k (leb-true i k e) ∙ past ∙ ap (option_map (f (slice_index_or windows k None))) (sym past)

-- putting the changed lock in place of the lock that is there changes this lock alone
pub changed_at : (f : Lock → Lock) (locks : ℕ → Option Lock) (w : ℕ) (lock : Lock) → locks w ≡ Some lock
    → (q : ℕ)
    → (if w == q then option_map (λ _. f lock) (locks q) else locks q) ≡
    (if w == q then option_map f (locks q) else locks q)
changed_at f locks w lock had q = by (w == q) refl
  where
    by : (c : Bool) → (w == q) ≡ c
        → (if c then option_map (λ _. f lock) (locks q) else locks q) ≡ (if c then option_map f (locks q) else locks q)
    by true e =
        let here : locks q ≡ Some lock = ap locks (sym (eqb-true w q e)) ∙ had in
        ap (option_map {T = Lock} (λ _. f lock)) here ∙ ap (option_map f) (sym here)
    by false e = refl

-- if there is no lock, nothing changes
pub unchanged_at : (f : Lock → Lock) (locks : ℕ → Option Lock) (w : ℕ) → locks w ≡ None → (q : ℕ)
    → locks q ≡ (if w == q then option_map f (locks q) else locks q)
unchanged_at f locks w none q = by (w == q) refl
  where
    by : (c : Bool) → (w == q) ≡ c → locks q ≡ (if c then option_map f (locks q) else locks q)
    by true e =
        let here : locks q ≡ None = ap locks (sym (eqb-true w q e)) ∙ none in
        here ∙ ap (option_map f) (sym here)
    by false e = refl

pub changed_below-next : (f : Option ℕ → Lock → Lock) (windows : List (Option ℕ)) (i : ℕ) (old new : List Lock)
    (d lock : Lock) (s : Option ℕ) → ChangedBelow f windows i old new → i < length old
    → lock ≡ f s (slice_index_or new i d) → s ≡ slice_index_or windows i None
    → ChangedBelow f windows (i + 1) old (slice_set new i lock)
changed_below-next f windows i old new d lock s done within is at =
    changed_below-more f windows i old new d lock done within (is ∙ ap (λ x. f x (slice_index_or new i d)) at)
