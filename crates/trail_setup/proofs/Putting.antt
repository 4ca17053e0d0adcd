-- Lines of several kinds that are put out one after another.
use Rattle.trail_setup.proofs.Vocabulary.{◌≡◌, ◌∙◌, ◌+◌, ◌<◌, ◌≤◌, ℕ, zero, suc, Bool, true, false, List, [], ◌∷◌, ◌++◌}
use Rattle.trail_setup.proofs.Vocabulary.{refl, sym, subst, ap, map, take, drop, length, arith, slice_index_or}
use Rattle.trail_setup.proofs.Vocabulary.{length-append, Result, Ok, Err, ◌==◌, not, OnOk, filter, nat_tests, are_any}
use Rattle.trail_setup.proofs.Vocabulary.{AllByRecursion, flat_map, list_all, flat_map_more, take_past, Part, PutsAll}
use Rattle.trail_setup.proofs.Vocabulary.{PutsPart, HoldWords, Kind, PutsLines, begun, kind_of, line, on_lines}
use Rattle.trail_rights.proofs.Stepping.{keeps_next, leaves_next}
use Rattle.trail_setup.specs.declared.lines.LineForm.{LineForm}

pub puts_append : (ps qs : List Part) (a b c : List ℕ) → PutsAll ps a b → PutsAll qs b c → PutsAll (ps ++ qs) a c
puts_append [] qs a b c e more = subst (λ (x : List ℕ). PutsAll qs x c) e more
puts_append (p ∷ ps) qs a b c all more = (all.0, all.1, puts_append ps qs all.0 b c all.2 more)

pub puts_more : (ps : List Part) (p : Part) (a b c : List ℕ) → PutsAll ps a b → PutsPart p b c
    → PutsAll (ps ++ p ∷ []) a c
puts_more ps p a b c all more = puts_append ps (p ∷ []) a b c all (c, more, refl)

-- a text after several parts
pub puts_text : {T E : Type 0} (r : Result T E) (ps : List Part) (t a b c : List ℕ) → PutsAll ps a b
    → OnOk r (c ≡ b ++ t) → OnOk r (PutsAll (ps ++ Part.text t ∷ []) a c)
puts_text (Ok x) ps t a b c all e = puts_more ps (Part.text t) a b c all e
puts_text (Err x) ps t a b c all e = tt

map_more : {X Y : Type 0} (f : X → Y) (xs : List X) (x : X) → map f (xs ++ x ∷ []) ≡ map f xs ++ f x ∷ []
map_more f [] x = refl
map_more f (y ∷ xs) x = ap (λ l. f y ∷ l) (map_more f xs x)

-- one more of those that have a line each
pub maps_next : {X : Type 0} (f : X → Part) (xs : List X) (i : ℕ) (x : X) (a b c : List ℕ)
    → take (i + 1) xs ≡ take i xs ++ x ∷ [] → PutsAll (map f (take i xs)) a b → PutsPart (f x) b c
    → PutsAll (map f (take (i + 1) xs)) a c
maps_next f xs i x a b c e all more =
    subst (λ ps. PutsAll ps a c) (sym (ap (map f) e ∙ map_more f (take i xs) x))
    (puts_more (map f (take i xs)) (f x) a b c all more)

-- one more of those that have several
pub flat_next : {X : Type 0} (f : X → List Part) (xs : List X) (i : ℕ) (x : X) (a b c : List ℕ)
    → take (i + 1) xs ≡ take i xs ++ x ∷ [] → PutsAll (flat_map f (take i xs)) a b → PutsAll (f x) b c
    → PutsAll (flat_map f (take (i + 1) xs)) a c
flat_next f xs i x a b c e all more =
    subst (λ ps. PutsAll ps a c) (flat_map_more f [] (take i xs) x ∙ ap (flat_map f) (sym e))
    (puts_append (flat_map f (take i xs)) (f x) a b c all more)

-- ---- words that are put in a loop

pub puts_next : {X : Type 0} (p : X → Bool) (f : X → List ℕ) (xs : List X) (i : ℕ) (x : X) (k : Kind)
    (start out now word : List ℕ) → take (i + 1) xs ≡ take i xs ++ x ∷ [] → p x ≡ true → word ≡ f x
    → HoldWords k start (map f (filter p (take i xs)) ++ word ∷ []) out now
    → HoldWords k start (map f (filter p (take (i + 1) xs))) out now
puts_next p f xs i x k start out now word e is same held =
    subst (λ (ws : List (List ℕ)). HoldWords k start ws out now)
    (ap (λ (w : List ℕ). map f (filter p (take i xs)) ++ w ∷ []) same
    ∙ sym (map_more f (filter p (take i xs)) x) ∙ ap (map f)
    (keeps_next p xs (filter p (take i xs)) i x e is refl)) held

pub leaves_out : {X : Type 0} (p : X → Bool) (f : X → List ℕ) (xs : List X) (i : ℕ) (x : X) (k : Kind)
    (start out now : List ℕ) → take (i + 1) xs ≡ take i xs ++ x ∷ [] → p x ≡ false
    → HoldWords k start (map f (filter p (take i xs))) out now
    → HoldWords k start (map f (filter p (take (i + 1) xs))) out now
leaves_out p f xs i x k start out now e is held =
    subst (λ (ws : List (List ℕ)). HoldWords k start ws out now)
    (ap (map f) (leaves_next p xs (filter p (take i xs)) i x e is refl)) held

-- all words were put
pub put_all : {X : Type 0} (p : X → Bool) (f : X → List ℕ) (xs : List X) (i : ℕ) (k : Kind) (start out now : List ℕ)
    → length xs ≤ i → HoldWords k start (map f (filter p (take i xs))) out now
    → HoldWords k start (map f (filter p xs)) out now
put_all p f xs i k start out now past held =
    subst (λ ys. HoldWords k start (map f (filter p ys)) out now) (take_past i xs past) held

-- the form has changed in nothing
pub reformed : (f g : LineForm) (start : List ℕ) (words : List (List ℕ)) (out now : List ℕ) → f ≡ g
    → HoldWords (kind_of f) start words out now → HoldWords (kind_of g) start words out now
reformed f g start words out now e held = subst (λ (x : LineForm). HoldWords (kind_of x) start words out now) e held

pub all_past : {X : Type 0} (p : X → Bool) (xs : List X) (i : ℕ) (b : Bool) → length xs ≤ i
    → list_all p (drop i xs) ≡ b → true ≡ b
all_past p [] zero b past e = e
all_past p [] (suc i) b past e = e
all_past p (x ∷ xs) zero b past e = absurd (omega (arith, past))
all_past p (x ∷ xs) (suc i) b past e = all_past p xs i b (omega (arith, past)) e

pub nth : {X : Type 0} (P : X → Type 0) (xs : List X) (i : ℕ) (d : X) → i < length xs → AllByRecursion P xs
    → P (slice_index_or xs i d)
nth P [] i d l all = absurd (omega (arith, l))
nth P (x ∷ xs) zero d l all = all.0
nth P (x ∷ xs) (suc i) d l all = nth P xs i d (omega (arith, l)) all.1

-- the kind and the words are others, but the same
pub rewritten : (k m : Kind) (start : List ℕ) (ws vs : List (List ℕ)) (out now : List ℕ) → k ≡ m → ws ≡ vs
    → HoldWords k start ws out now → HoldWords m start vs out now
rewritten k m start ws vs out now e same held =
    subst (λ (x : Kind). HoldWords x start vs out now) e
    (subst (λ (xs : List (List ℕ)). HoldWords k start xs out now) same held)

-- ---- whether something is said

longer : (a b : List ℕ) (x : ℕ) → 0 < length (a ++ x ∷ b)
longer [] b x = omega arith
longer (y ∷ a) b x = omega arith

positive : (n : ℕ) → 0 < n → not (n == 0) ≡ true
positive n l = grind (arith, nat_tests, l)

pub any_said : (k : Kind) (words : List (List ℕ)) (out : List ℕ) → PutsLines k [] words out
    → not (length out == 0) ≡ are_any words
any_said k words out held = go held.lines held.last held.all held.put held.begins
  where
    go : (ls : List (List ℕ × List (List ℕ))) (last : List (List ℕ)) → words ≡ on_lines ls ++ last
        → out ≡ [] ++ flat_map (line k) ls → [] ≡ begun k last → not (length out == 0) ≡ are_any words
    go [] [] all put begins = ap (λ (o : List ℕ). not (length o == 0)) put ∙ sym (ap are_any all)
    go [] (w ∷ ws) all put begins = absurd
        (let same : 0 ≡ length (begun k (w ∷ ws)) = ap (λ (o : List ℕ). length o) begins in
        let some = longer k.head (w ++ flat_map (λ (v : List ℕ). k.between ∷ v) ws) 0x20 in
        omega (arith, same, some))
    go (l ∷ ls) last all put begins =
        let begin : List ℕ = begun k (l.0 ∷ l.1) in
        let end : List ℕ = k.tail ++ 0x0A ∷ [] in
        let rest : List ℕ = flat_map (line k) ls in
        let some : 0 < length ((begin ++ end) ++ rest) = omega (
          arith,
          longer k.head (l.0 ++ flat_map (λ (v : List ℕ). k.between ∷ v) l.1) 0x20,
          length-append begin end,
          length-append (begin ++ end) rest,
        ) in
        ap (λ (o : List ℕ). not (length o == 0)) put ∙ positive (length ((begin ++ end) ++ rest)) some
        ∙ sym (ap are_any all)

-- ---- the parts of an opener

pub one_put : {T E : Type 0} (r : Result T E) (k m : Kind) (start out : List ℕ) (words : List (List ℕ)) → k ≡ m
    → OnOk r (PutsLines k start words out) → OnOk r (PutsAll (Part.lines m words ∷ []) start out)
one_put (Ok x) k m start out words e put = (out, subst (λ (y : Kind). PutsLines y start words out) e put, refl)
one_put (Err x) k m start out words e put = tt

pub lent_put : {T E : Type 0} (r : Result T E) (k m : Kind) (a b c d t u : List ℕ) (words : List (List ℕ)) → k ≡ m
    → b ≡ a ++ t → PutsLines k b words c → OnOk r (d ≡ c ++ u)
    → OnOk r (PutsAll (Part.text t ∷ Part.lines m words ∷ Part.text u ∷ []) a d)
lent_put (Ok x) k m a b c d t u words e first put last =
    (b, first, (c, subst (λ (y : Kind). PutsLines y b words c) e put, (d, last, refl)))
lent_put (Err x) k m a b c d t u words e first put last = tt
