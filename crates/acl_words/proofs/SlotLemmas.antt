-- Facts of the slots that windows stand in, while one opens or closes.
use Rattle.std.proofs.Common.{◌≡◌, ◌≢◌, ◌∙◌, ℕ, zero, suc, ◌+◌, ◌<◌, Bool, true, false, ◌==◌, cond, ap, subst}
use Rattle.std.proofs.Common.{sym, refl, arith, List, [], ◌∷◌, Option, Some, None, is_some, is_none, eq-eqb, zero-add}
use Rattle.std.proofs.Common.{if◌then◌else◌, slice_index_or, slice_set, true≢false, length, map, position}
use Rattle.std.proofs.Common.{◌≤◌, ◌-◌, replicate, unwrap_or, length-set}
use Rattle.std.specs.List.{position_from}
use Rattle.std.proofs.lemmas.Iterator.Adapters.{position_from-zero}
use borrow.Author.Tests.{eqb-true}
use Rattle.acl_words.specs.Slots.{is_window, slot_of, without_window, free_slot, filled, SlotsStandFor}

from_zero : (test : Option ℕ → Bool) (ws : List (Option ℕ)) → position test ws ≡ position_from test 0 ws
from_zero test ws = position_from-zero test ws

is_window-without_window : (v w : ℕ) (slot : Option ℕ)
    → is_window v (without_window w slot) ≡ (if w == v then false else is_window v slot)
is_window-without_window v w None = elim (w == v) as (λ c. false ≡ (if c then false else false))
    [ true ↦ refl | false ↦ refl ]
is_window-without_window v w (Some x) = by (x == w) (w == v) (x == v) refl refl refl
  where
    by : (c d e : Bool) → (x == w) ≡ c → (w == v) ≡ d → (x == v) ≡ e
        → is_window v (if c then None else Some x) ≡ (if d then false else e)
    by true true e p q r = refl
    by true false true p q r = absurd (true≢false (sym (eq-eqb w v (sym (eqb-true x w p) ∙ eqb-true x v r)) ∙ q))
    by true false false p q r = refl
    by false true true p q r = absurd (true≢false (sym (eq-eqb x w (eqb-true x v r ∙ sym (eqb-true w v q))) ∙ p))
    by false true false p q r = r
    by false false e p q r = r

-- closing w leaves each other window in its slot
from_closed : (v w i : ℕ) (ws : List (Option ℕ))
    → position_from (is_window v) i (map (without_window w) ws) ≡
    (if w == v then None else position_from (is_window v) i ws)
from_closed v w i [] = elim (w == v) as (λ c. let x : Option ℕ = None in x ≡ (if c then None else None))
    [ true ↦ refl | false ↦ refl ]
from_closed v w i (o ∷ ws) =
    (λ j. cond (is_window-without_window v w o j) (Some i) (from_closed v w (i + 1) ws j)) ∙ by (w == v)
  where
    by : (c : Bool)
        → cond (if c then false else is_window v o) (Some i)
        (if c then None else position_from (is_window v) (i + 1) ws) ≡
        (if c then None else cond (is_window v o) (Some i) (position_from (is_window v) (i + 1) ws))
    by true = refl
    by false = refl

pub slot_of-closed : (ws : List (Option ℕ)) (w v : ℕ)
    → slot_of (map (without_window w) ws) v ≡ (if w == v then None else slot_of ws v)
slot_of-closed ws w v = from_zero (is_window v) (map (without_window w) ws) ∙ from_closed v w 0 ws
    ∙ ap (λ o. if w == v then None else o) (sym (from_zero (is_window v) ws))

-- opening w in a free slot leaves each other window in its slot
from_opened : (v w i slot : ℕ) (ws : List (Option ℕ)) → slot < length ws → slice_index_or ws slot None ≡ None
    → position_from (is_window w) i ws ≡ None
    → position_from (is_window v) i (slice_set ws slot (Some w)) ≡
    (if w == v then Some (i + slot) else position_from (is_window v) i ws)
from_opened v w i slot [] below free fresh = absurd (omega arith)
from_opened v w i zero (None ∷ ws) below free fresh = by (w == v)
  where
    by : (c : Bool)
        → cond c (Some i) (position_from (is_window v) (i + 1) ws) ≡
        (if c then Some (i + 0) else position_from (is_window v) (i + 1) ws)
    by true = ap Some (omega arith)
    by false = refl
from_opened v w i zero (Some x ∷ ws) below free fresh = cc
from_opened v w i (suc slot) (o ∷ ws) below free fresh =
    ap (cond (is_window v o) (Some i)) (from_opened v w (i + 1) slot ws (omega arith) free (rest (is_window w o) fresh))
    ∙ by (is_window v o) (w == v) refl refl
  where
    rest : (c : Bool) → cond c (Some i) (position_from (is_window w) (i + 1) ws) ≡ None
        → position_from (is_window w) (i + 1) ws ≡ None
    rest true e = cc
    rest false e = e

    first : (c : Bool) → cond c (Some i) (position_from (is_window w) (i + 1) ws) ≡ None → c ≡ false
    first true e = cc
    first false e = refl

    by : (c d : Bool) → is_window v o ≡ c → (w == v) ≡ d
        → cond c (Some i) (if d then Some (i + 1 + slot) else position_from (is_window v) (i + 1) ws) ≡
        (if d then Some (i + suc slot) else cond c (Some i) (position_from (is_window v) (i + 1) ws))
    by true true p q = absurd
        (true≢false (sym p ∙ ap (λ x. is_window x o) (sym (eqb-true w v q)) ∙ first (is_window w o) fresh))
    by false true p q = ap Some (omega arith)
    by c false p q = refl

pub slot_of-opened : (ws : List (Option ℕ)) (w v slot : ℕ) → slot < length ws → slice_index_or ws slot None ≡ None
    → slot_of ws w ≡ None
    → slot_of (slice_set ws slot (Some w)) v ≡ (if w == v then Some slot else slot_of ws v)
slot_of-opened ws w v slot below free fresh =
    from_zero (is_window v) (slice_set ws slot (Some w))
    ∙ from_opened v w 0 slot ws below free (sym (from_zero (is_window w) ws) ∙ fresh)
    ∙ (λ j. if w == v then Some (zero-add slot j) else sym (from_zero (is_window v) ws) j)

-- the index at which a search stops is that of an item that passes the test
found_from : (test : Option ℕ → Bool) (i k : ℕ) (ws : List (Option ℕ)) → position_from test i ws ≡ Some k → (j : ℕ)
    × (k ≡ i + j) × (j < length ws) × (test (slice_index_or ws j None) ≡ true)
found_from test i k [] e = cc
found_from test i k (x ∷ xs) e = by (test x) refl e (λ f. found_from test (i + 1) k xs f)
  where
    by : (c : Bool) → test x ≡ c → cond c (Some i) (position_from test (i + 1) xs) ≡ Some k
        → (position_from test (i + 1) xs ≡ Some k → (j : ℕ) × (k ≡ i + 1 + j) × (j < length xs)
        × (test (slice_index_or xs j None) ≡ true))
        → (j : ℕ) × (k ≡ i + j) × (j < suc (length xs)) × (test (slice_index_or (x ∷ xs) j None) ≡ true)
    by true p e rest = let same : i ≡ k = cc in (0, omega arith, omega arith, p)
    by false p e rest = let r = rest e in (suc r.0, omega (arith, r.1), omega (arith, r.2), r.3)

pub found : (test : Option ℕ → Bool) (k : ℕ) (ws : List (Option ℕ)) → position test ws ≡ Some k → (k < length ws)
    × (test (slice_index_or ws k None) ≡ true)
found test k ws e =
    let r = found_from test 0 k ws (sym (from_zero test ws) ∙ e) in
    let same : r.0 ≡ k = omega (arith, r.1) in
    (omega (arith, r.2), subst (λ j. test (slice_index_or ws j None) ≡ true) same r.3)

-- two different windows stand in two different slots
pub slot_of-apart : (ws : List (Option ℕ)) (v w k : ℕ) → slot_of ws v ≡ Some k → slot_of ws w ≡ Some k → v ≡ w
slot_of-apart ws v w k e f = by (slice_index_or ws k None) (found (is_window v) k ws e).1 (found (is_window w) k ws f).1
  where
    by : (o : Option ℕ) → is_window v o ≡ true → is_window w o ≡ true → v ≡ w
    by None p q = absurd (true≢false (sym p))
    by (Some x) p q = sym (eqb-true x v p) ∙ eqb-true x w q

-- a free slot has no window
pub free_slot-empty : (ws : List (Option ℕ)) (k : ℕ) → free_slot ws ≡ Some k → slice_index_or ws k None ≡ None
free_slot-empty ws k e = by (slice_index_or ws k None) (found is_none k ws e).1
  where
    by : (o : Option ℕ) → is_none o ≡ true → o ≡ None
    by None p = refl
    by (Some x) p = absurd (true≢false (sym p))

pub slot_of-free : (ws : List (Option ℕ)) (v k slot : ℕ) → slot_of ws v ≡ Some k → free_slot ws ≡ Some slot → k ≢ slot
slot_of-free ws v k slot e f same =
    true≢false
    (sym (found (is_window v) k ws e).1 ∙ ap (λ j. is_window v (slice_index_or ws j None)) same
    ∙ ap (is_window v) (free_slot-empty ws slot f))

-- a window that opens in a free slot makes one slot more filled
filled-opened : (ws : List (Option ℕ)) (w slot : ℕ) → slot < length ws → slice_index_or ws slot None ≡ None
    → filled (slice_set ws slot (Some w)) ≡ filled ws + 1
filled-opened [] w slot below free = absurd (omega arith)
filled-opened (None ∷ ws) w zero below free = refl
filled-opened (Some x ∷ ws) w zero below free = cc
filled-opened (None ∷ ws) w (suc slot) below free = filled-opened ws w slot (omega arith) free
filled-opened (Some x ∷ ws) w (suc slot) below free = omega (arith, filled-opened ws w slot (omega arith) free)

-- closing a window fills no slot
filled-closed : (ws : List (Option ℕ)) (w : ℕ) → filled (map (without_window w) ws) ≤ filled ws
filled-closed [] w = omega arith
filled-closed (None ∷ ws) w = filled-closed ws w
filled-closed (Some x ∷ ws) w = by (x == w) (filled-closed ws w)
  where
    by : (c : Bool) → filled (map (without_window w) ws) ≤ filled ws
        → filled ((if c then None else Some x) ∷ map (without_window w) ws) ≤ filled ws + 1
    by true rest = omega arith
    by false rest = omega arith

-- closing a window frees the slot that has it
filled-freed : (ws : List (Option ℕ)) (w i k : ℕ) → position_from (is_window w) i ws ≡ Some k
    → filled (map (without_window w) ws) + 1 ≤ filled ws
filled-freed [] w i k at = cc
filled-freed (None ∷ ws) w i k at = filled-freed ws w (i + 1) k at
filled-freed (Some x ∷ ws) w i k at = by (x == w) at (λ e. filled-freed ws w (i + 1) k e)
  where
    by : (c : Bool) → cond c (Some i) (position_from (is_window w) (i + 1) ws) ≡ Some k
        → (position_from (is_window w) (i + 1) ws ≡ Some k → filled (map (without_window w) ws) + 1 ≤ filled ws)
        → filled ((if c then None else Some x) ∷ map (without_window w) ws) + 1 ≤ filled ws + 1
    by true e rest = omega (arith, filled-closed ws w)
    by false e rest = omega (arith, rest e)

-- if no slot is free, each slot is filled
filled-full : (ws : List (Option ℕ)) (i : ℕ) → position_from is_none i ws ≡ None → filled ws ≡ length ws
filled-full [] i none = refl
filled-full (None ∷ ws) i none = cc
filled-full (Some x ∷ ws) i none = omega (arith, filled-full ws (i + 1) none)

filled-replicate : (n : ℕ) → filled (replicate n None) ≡ 0
filled-replicate zero = refl
filled-replicate (suc n) = filled-replicate n

position_from-replicate : (w i n : ℕ) → position_from (is_window w) i (replicate n None) ≡ None
position_from-replicate w i zero = refl
position_from-replicate w i (suc n) = position_from-replicate w (i + 1) n

length-closed : (ws : List (Option ℕ)) (w : ℕ) → length (map (without_window w) ws) ≡ length ws
length-closed [] w = refl
length-closed (x ∷ ws) w = ap suc (length-closed ws w)

-- at first no window is open
pub slots-new : SlotsStandFor (replicate 40 None) (λ w. false) 0
slots-new = record {
  shown = λ w. ap is_some (from_zero (is_window w) (replicate 40 None) ∙ position_from-replicate w 0 40);
  few = omega (arith, filled-replicate 40);
  all = refl;
}

module _ (ws : List (Option ℕ)) (is_open : ℕ → Bool) (count : ℕ) (s : SlotsStandFor ws is_open count) where
  -- while fewer than 40 windows are open, there is a free slot
  pub slots-free : count < 40 → free_slot ws ≡ None → {X : Type 0} → X
  slots-free few none = absurd (omega (arith, s.few, s.all, filled-full ws 0 (sym (from_zero is_none ws) ∙ none)))

  pub slots-opened : (w slot : ℕ) → free_slot ws ≡ Some slot → is_open w ≡ false
      → SlotsStandFor (slice_set ws slot (Some w)) (λ v. unwrap_or (if w == v then Some true else None) (is_open v))
      (count + 1)
  slots-opened w slot free fresh = record {
    shown = λ v. ap is_some (slot_of-opened ws w v slot below empty (none (slot_of ws w) (s.shown w ∙ fresh)))
        ∙ by v (w == v);
    few = omega (arith, s.few, filled-opened ws w slot below empty);
    all = length-set ws slot (Some w) ∙ s.all;
  }
    where
      below : slot < length ws
      below = (found is_none slot ws free).0

      empty : slice_index_or ws slot None ≡ None
      empty = free_slot-empty ws slot free

      none : (o : Option ℕ) → is_some o ≡ false → o ≡ None
      none None e = refl
      none (Some x) e = absurd (true≢false e)

      by : (v : ℕ) (c : Bool)
          → is_some (if c then Some slot else slot_of ws v) ≡ unwrap_or (if c then Some true else None) (is_open v)
      by v true = refl
      by v false = s.shown v

  pub slots-closed : (w : ℕ)
      → SlotsStandFor (map (without_window w) ws) (λ v. unwrap_or (if w == v then Some false else None) (is_open v))
      (if is_open w then count - 1 else count)
  slots-closed w = record {
    shown = λ v. ap is_some (slot_of-closed ws w v) ∙ by v (w == v);
    few = few_left (is_open w) refl;
    all = length-closed ws w ∙ s.all;
  }
    where
      by : (v : ℕ) (c : Bool)
          → is_some (if c then None else slot_of ws v) ≡ unwrap_or (if c then Some false else None) (is_open v)
      by v true = refl
      by v false = s.shown v

      there : (o : Option ℕ) → is_some o ≡ true → slot_of ws w ≡ o → filled (map (without_window w) ws) + 1 ≤ filled ws
      there None e f = absurd (true≢false (sym e))
      there (Some k) e f = filled-freed ws w 0 k (sym (from_zero (is_window w) ws) ∙ f)

      few_left : (c : Bool) → is_open w ≡ c → filled (map (without_window w) ws) ≤ (if c then count - 1 else count)
      few_left true e = omega (arith, s.few, there (slot_of ws w) (s.shown w ∙ e) refl)
      few_left false e = omega (arith, s.few, filled-closed ws w)
