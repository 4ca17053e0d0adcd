-- Keys are read in one way, which is the one that is computed.
use Rattle.std.proofs.Common.{◌≡◌, ◌≢◌, ℕ, Bool, true, false, ◌&&◌, cond, List, [], ◌∷◌, ◌++◌, refl, sym, ap, ◌∙◌}
use Rattle.std.proofs.Common.{subst, arith, append_assoc, true≢false}
use Rattle.std.specs.Prelude.{◌==◌}
use Rattle.std.specs.List.{list_all}
use Rattle.std.proofs.lemmas.Bool.Decides.{nat_tests}
use Rattle.std.proofs.lemmas.List.{append-nil}
use Rattle.keys.specs.Grammar.{Item, typed, Rest, nothing, command_key, prompt, key_items, line_after_key, line_of}
use Rattle.keys.specs.Grammar.{stays, line_items, Keys, rest_step, with_front, items_from, items}

other : (x y : ℕ) → x ≢ y → (x == y) ≡ false
other x y h = grind (arith, nat_tests)

same : (x y : ℕ) → (x == y) ≡ true → x ≡ y
same x y h = grind (arith, nat_tests)

differs : (x y : ℕ) → (x == y) ≡ false → x ≢ y
differs x y h e = grind (arith, nat_tests)

and-parts : (a b : Bool) → (a && b) ≡ true → (a ≡ true) × (b ≡ true)
and-parts true b h = (refl, h)
and-parts false b h = absurd (true≢false (sym h))

-- one more key
step : (r : Rest) (k : ℕ) (keys : List ℕ) (s : List Item × Rest) → rest_step r k ≡ s
    → items_from r (k ∷ keys) ≡ with_front s.0 (items_from s.1 keys)
unfolding items_from
step r k keys s e = ap (λ (t : List Item × Rest). with_front t.0 (items_from t.1 keys)) e

prompt-edits : (bytes edits keys : List ℕ) → list_all stays edits ≡ true
    → items_from (prompt bytes) (edits ++ keys) ≡ items_from (prompt (line_of bytes edits)) keys
unfolding line_of
prompt-edits bytes [] keys h = refl
prompt-edits bytes (k ∷ edits) keys h =
    let p = and-parts (stays k) (list_all stays edits) h in
    step (prompt bytes) k (edits ++ keys) ([], prompt (line_after_key bytes k))
    (ap (λ b. cond b ([], prompt (line_after_key bytes k)) (line_items bytes k, nothing)) p.0)
    ∙ prompt-edits (line_after_key bytes k) edits keys p.1

none-from : (r : Rest) → items_from r [] ≡ ([], r)
unfolding items_from
none-from r = refl

pub keys-are : {keys : List ℕ} {given : List Item} {rest : Rest} → Keys keys given rest → items keys ≡ (given, rest)
keys-are Keys.none = none-from nothing
keys-are (Keys.plain {k = k} {keys = keys} n d) =
    step nothing k keys (typed k ∷ [], nothing)
    (ap (λ b. cond b ([], command_key) (typed k ∷ [], nothing)) (other k 0x01 n))
    ∙ ap (with_front (typed k ∷ [])) (keys-are d)
keys-are Keys.waits = step nothing 0x01 [] ([], command_key) refl ∙ ap (with_front []) (none-from command_key)
keys-are (Keys.behind {k = k} {keys = keys} n d) =
    step nothing 0x01 (k ∷ keys) ([], command_key) refl
    ∙ ap (with_front [])
    (step command_key k keys (key_items k, nothing)
    (ap (λ b. cond b ([], prompt []) (key_items k, nothing)) (other k 0x3A n))
    ∙ ap (with_front (key_items k)) (keys-are d))
keys-are (Keys.opens edits h) =
    step nothing 0x01 (0x3A ∷ edits) ([], command_key) refl
    ∙ ap (with_front []) (step command_key 0x3A edits ([], prompt []) refl
    ∙ ap (with_front [])
    (ap (items_from (prompt [])) (sym (append-nil edits)) ∙ prompt-edits [] edits [] h
    ∙ none-from (prompt (line_of [] edits))))
keys-are (Keys.ends edits k keys h s d) =
    let bytes = line_of [] edits in
    step nothing 0x01 (0x3A ∷ (edits ++ k ∷ keys)) ([], command_key) refl
    ∙ ap (with_front []) (step command_key 0x3A (edits ++ k ∷ keys) ([], prompt []) refl
    ∙ ap (with_front []) (prompt-edits [] edits (k ∷ keys) h
    ∙ step (prompt bytes) k keys (line_items bytes k, nothing)
    (ap (λ b. cond b ([], prompt (line_after_key bytes k)) (line_items bytes k, nothing)) s)
    ∙ ap (with_front (line_items bytes k)) (keys-are d)))

-- what was read before the keys that follow
data Before : Type 0 where
  typing : Before
  waiting : Before
  editing : (edits : List ℕ) → list_all stays edits ≡ true → Before

abbrev before : Before → List ℕ → List ℕ
before typing keys = keys
before waiting keys = 0x01 ∷ keys
before (editing edits h) keys = 0x01 ∷ 0x3A ∷ (edits ++ keys)

abbrev rest_before : Before → Rest
rest_before typing = nothing
rest_before waiting = command_key
rest_before (editing edits h) = prompt (line_of [] edits)

abbrev Holds : List ℕ → List Item × Rest → Type 0
Holds keys r = Keys keys r.0 r.1

line_of-one : (bytes edits : List ℕ) (k : ℕ) → line_of bytes (edits ++ k ∷ []) ≡ line_after_key (line_of bytes edits) k
unfolding line_of
line_of-one bytes [] k = refl
line_of-one bytes (x ∷ edits) k = line_of-one (line_after_key bytes x) edits k

all-one : (edits : List ℕ) (k : ℕ) → list_all stays edits ≡ true → stays k ≡ true
    → list_all stays (edits ++ k ∷ []) ≡ true
all-one [] k h s = ap (λ b. b && true) s
all-one (x ∷ edits) k h s = let p = and-parts (stays x) (list_all stays edits) h in ap
    (λ b. b && list_all stays (edits ++ k ∷ [])) p.0 ∙ all-one edits k p.1 s

empty-line : line_of [] [] ≡ []
unfolding line_of
empty-line = refl

hold : (b : Before) (keys : List ℕ) → Holds (before b keys) (items_from (rest_before b) keys)
unfolding items_from
hold typing [] = Keys.none
hold waiting [] = Keys.waits
hold (editing edits h) [] = subst (λ l. Keys (0x01 ∷ 0x3A ∷ l) [] (prompt (line_of [] edits))) (sym (append-nil edits))
    (Keys.opens edits h)
hold typing (k ∷ keys) = by (k == 0x01) refl (hold waiting keys) (hold typing keys)
  where
    by : (b : Bool) → (k == 0x01) ≡ b → Holds (0x01 ∷ keys) (items_from command_key keys)
        → Holds keys (items_from nothing keys)
        → (let s = cond {A = List Item × Rest} b ([], command_key) (typed k ∷ [], nothing) in Holds (k ∷ keys)
        (with_front s.0 (items_from s.1 keys)))
    by true e w t = subst (λ x. Holds (x ∷ keys) (items_from command_key keys)) (sym (same k 0x01 e)) w
    by false e w t = Keys.plain (differs k 0x01 e) t
hold waiting (k ∷ keys) = by (k == 0x3A) refl (hold (editing [] refl) keys) (hold typing keys)
  where
    by : (b : Bool) → (k == 0x3A) ≡ b → Holds (0x01 ∷ 0x3A ∷ keys) (items_from (prompt (line_of [] [])) keys)
        → Holds keys (items_from nothing keys)
        → (let s = cond {A = List Item × Rest} b ([], prompt []) (key_items k, nothing) in Holds (0x01 ∷ k ∷ keys)
        (with_front s.0 (items_from s.1 keys)))
    by true e p t = subst (λ x. Holds (0x01 ∷ x ∷ keys) (items_from (prompt []) keys)) (sym (same k 0x3A e))
        (subst (λ l. Holds (0x01 ∷ 0x3A ∷ keys) (items_from (prompt l) keys)) empty-line p)
    by false e p t = Keys.behind (differs k 0x3A e) t
hold (editing edits h) (k ∷ keys) = by (stays k) refl (λ s. hold (editing (edits ++ k ∷ []) (all-one edits k h s)) keys)
    (hold typing keys)
  where
    by : (b : Bool) → stays k ≡ b
        → (stays k ≡ true
        → Holds (0x01 ∷ 0x3A ∷ ((edits ++ k ∷ []) ++ keys))
        (items_from (prompt (line_of [] (edits ++ k ∷ []))) keys))
        → Holds keys (items_from nothing keys)
        → (let s = cond {A = List Item × Rest} b ([], prompt (line_after_key (line_of [] edits) k))
        (line_items (line_of [] edits) k, nothing) in
        Holds (0x01 ∷ 0x3A ∷ (edits ++ k ∷ keys)) (with_front s.0 (items_from s.1 keys)))
    by true e p t =
        subst (λ l. Holds (0x01 ∷ 0x3A ∷ l) (items_from (prompt (line_after_key (line_of [] edits) k)) keys))
        (append_assoc edits (k ∷ []) keys)
        (subst (λ l. Holds (0x01 ∷ 0x3A ∷ ((edits ++ k ∷ []) ++ keys)) (items_from (prompt l) keys))
        (line_of-one [] edits k) (p e))
    by false e p t = Keys.ends edits k keys h e t

pub keys-hold : (keys : List ℕ) → Keys keys (items keys).0 (items keys).1
keys-hold keys = hold typing keys
