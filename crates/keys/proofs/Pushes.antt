-- What a prompt's line is after one more key.
use Rattle.std.proofs.Common.{◌≡◌, ℕ, List, [], ◌∷◌, ◌++◌, sym, ap, ◌∙◌, append_assoc}
use Rattle.std.proofs.lemmas.List.{append-nil}
use Rattle.keys.specs.Grammar.{Item, Rest, rest_step, with_front, items_from, items}

from-push : (k : ℕ) (r : Rest) (keys : List ℕ)
    → items_from r (keys ++ k ∷ []) ≡ with_front (items_from r keys).0 (rest_step (items_from r keys).1 k)
unfolding items_from
from-push k r [] = ap (λ given. (given, (rest_step r k).1)) (append-nil (rest_step r k).0)
from-push k r (x ∷ keys) =
    let s = rest_step r x in
    ap (with_front s.0) (from-push k s.1 keys)
    ∙ ap (λ given. (given, (rest_step (items_from s.1 keys).1 k).1))
    (sym (append_assoc s.0 (items_from s.1 keys).0 (rest_step (items_from s.1 keys).1 k).0))

pub items-push : (k : ℕ) (keys : List ℕ) (r s : Rest) (given : List Item) → (items keys).1 ≡ r
    → rest_step r k ≡ (given, s)
    → items (keys ++ k ∷ []) ≡ ((items keys).0 ++ given, s)
items-push k keys r s given h e = from-push k Rest.nothing keys ∙ ap (λ t. with_front (items keys).0 (rest_step t k)) h
    ∙ ap (with_front (items keys).0) e
