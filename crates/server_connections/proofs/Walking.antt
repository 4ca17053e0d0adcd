-- A walk, visit by visit.
use Rattle.std.proofs.Common.{◌≡◌, ◌<◌, ◌≤◌, ◌+◌, ◌-◌, ℕ, zero, suc, List, Option, Some, None, MutBor}
use Rattle.std.proofs.Common.{refl, sym, subst, arith, inl, inr}
use Rattle.server_connections.specs.Marked.{IsMarked, IsNext, NoneFrom}
use Rattle.server_connections.specs.Walking.{IsVisited, Walks}

-- no key is marked up to the end, if the next one comes after it or if there is none
pub past_end : (words : List ℕ) (from end key : ℕ) → IsNext words from key → end ≤ key
    → (k : ℕ) → from ≤ k → k < end → IsMarked words k → ⊥
past_end words from end key next over k low high = next.first k low (omega (arith, over, high))

pub no_key : (words : List ℕ) (from end : ℕ) (found : Option ℕ) → ((key : ℕ) → found ≡ Some key → ⊥)
    → (found ≡ None → NoneFrom words from) → (k : ℕ) → from ≤ k → k < end → IsMarked words k → ⊥
no_key words from end None none_found none k low high = none refl k low
no_key words from end (Some key) none_found none k low high = absurd (none_found key refl)

module _ {T : Type 0} (awake : T → List ℕ) (visits : MutBor T → ℕ → Unit {0} → MutBor T → Type 0) where
  pub visited_by : (shown left : MutBor T) (key : ℕ) → visits shown key tt left
      → IsVisited awake visits key shown.now left.now
  visited_by shown left key visited =
      record { shown = shown; shows = refl; left = left; leaves = refl; visited = visited }

  -- a visit, and the rest of the walk
  pub with_visit : (end counter from key : ℕ) (words : List ℕ) (old mid new : T) → words ≡ awake old
      → counter < end → key < end → IsNext words from key → IsVisited awake visits key old mid
      → Walks awake visits (end - (counter + 1)) (key + 1) end mid new
      → Walks awake visits (end - counter) from end old new
  with_visit end counter from key words old mid new is more within next visit rest =
      let e : suc (end - (counter + 1)) ≡ end - counter = omega (arith, more) in
      subst (λ (n : ℕ). Walks awake visits n from end old new) e
      (inr (key, mid, within, subst (λ (ws : List ℕ). IsNext ws from key) is next, visit, rest))

  -- no key is left
  pub without_visit : (count from end : ℕ) (words : List ℕ) (old : T) → words ≡ awake old
      → ((key : ℕ) → from ≤ key → key < end → IsMarked words key → ⊥) → Walks awake visits count from end old old
  without_visit zero from end words old is none = refl
  without_visit (suc count) from end words old is none = inl (
    (λ key low high marks. none key low high (subst (λ (ws : List ℕ). IsMarked ws key) (sym is) marks)),
    refl,
  )
