-- The same keys give the same after keys at whose end the same is open.
use Rattle.session_alike.proofs.Vocabulary.{◌≡◌, ℕ, ◌+◌, List, [], ◌∷◌, ◌++◌, refl, ap, sym, ◌∙◌, append_assoc, drop}
use Rattle.session_alike.proofs.Vocabulary.{length, take, unwrap_or, list_any, range_with_len, Item, Rest, items}
use Rattle.session_alike.proofs.Vocabulary.{nothing, rest_step, with_front, items_from, completes, is_command}
use Rattle.session_alike.proofs.Vocabulary.{items_behind, taken, find_same}
use Rattle.std.proofs.Math.Seq.{drop-append_seam}

from_both : (r : Rest) (xs ys : List ℕ)
    → items_from r (xs ++ ys) ≡ with_front (items_from r xs).0 (items_from (items_from r xs).1 ys)
unfolding items_from
from_both r [] ys = refl
from_both r (x ∷ xs) ys =
    ap (with_front (rest_step r x).0) (from_both (rest_step r x).1 xs ys)
    ∙ ap (λ given. (given, (items_from (items_from (rest_step r x).1 xs).1 ys).1))
    (sym (append_assoc (rest_step r x).0 (items_from (rest_step r x).1 xs).0
    (items_from (items_from (rest_step r x).1 xs).1 ys).0))

behind_from : (past keys : List ℕ) → items_behind past keys ≡ (items_from (items past).1 keys).0
behind_from past keys =
    ap (λ (x : List Item × Rest). drop (length (items past).0) x.0) (from_both nothing past keys)
    ∙ drop-append_seam (items past).0 (items_from (items past).1 keys).0

pub rest_from : (past keys : List ℕ) → (items (past ++ keys)).1 ≡ (items_from (items past).1 keys).1
rest_from past keys = ap (λ (x : List Item × Rest). x.1) (from_both nothing past keys)

module _ (k l : List ℕ) (same : (items l).1 ≡ (items k).1) where
  pub behind_same : (keys : List ℕ) → items_behind l keys ≡ items_behind k keys
  behind_same keys = behind_from l keys ∙ ap (λ r. (items_from r keys).0) same ∙ sym (behind_from k keys)

  pub rest_same : (keys : List ℕ) → (items (l ++ keys)).1 ≡ (items (k ++ keys)).1
  rest_same keys = rest_from l keys ∙ ap (λ r. (items_from r keys).1) same ∙ sym (rest_from k keys)

  pub taken_same : (keys : List ℕ) → taken l keys ≡ taken k keys
  taken_same keys =
      ap (λ o. unwrap_or o (length keys))
      (find_same (completes k keys) (completes l keys) (range_with_len 0 (length keys + 1))
      (λ count. ap (list_any is_command) (behind_same (take count keys))))
