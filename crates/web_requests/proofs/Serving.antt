-- The values of the headers of one name.
use Rattle.std.proofs.Common.{◌≡◌, ℕ, ◌+◌, ◌<◌, ◌≤◌, Bool, true, false, cond, List, [], ◌∷◌, ◌++◌, length, drop, get_or}
use Rattle.std.proofs.Common.{Bor, Option, None, Some, option_to_list, option_copied, is_some, ap, sym, ◌∙◌, refl}
use Rattle.std.proofs.lemmas.List.{drop_more, drop_all}
use Rattle.httparse.specs.declared.spans.HeaderSpan.{HeaderSpan}
use Rattle.httparse.specs.Spans.{span_bytes}
use Rattle.websocket.specs.Headers.{fields_of, eq_ignore_case}
use Rattle.web_requests.specs.Serving.{values, only}

abbrev blank : HeaderSpan
blank = record { name = record { start = 0; end = 0 }; value = record { start = 0; end = 0 } }

-- the values among the headers from a place on
next_value : (head : List ℕ) (spans : List HeaderSpan) (i : ℕ) (name : List ℕ) → i < length spans
    → values (fields_of head (drop i spans)) name
    ≡ cond (eq_ignore_case (span_bytes head (get_or spans i blank).name) name)
    (span_bytes head (get_or spans i blank).value ∷ values (fields_of head (drop (i + 1) spans)) name)
    (values (fields_of head (drop (i + 1) spans)) name)
unfolding values
next_value head spans i name l =
    ap (λ (s : List HeaderSpan). values (fields_of head s) name) (drop_more spans i blank l)

no_value : (head : List ℕ) (spans : List HeaderSpan) (i : ℕ) (name : List ℕ) → length spans ≤ i
    → values (fields_of head (drop i spans)) name ≡ []
unfolding values
no_value head spans i name l = ap (λ (s : List HeaderSpan). values (fields_of head s) name) (drop_all i spans l)

with_found : (head : List ℕ) (spans : List HeaderSpan) (i : ℕ) (name : List ℕ) → i < length spans
    → eq_ignore_case (span_bytes head (get_or spans i blank).name) name ≡ true
    → values (fields_of head (drop i spans)) name
    ≡ span_bytes head (get_or spans i blank).value ∷ values (fields_of head (drop (i + 1) spans)) name
with_found head spans i name l h =
    next_value head spans i name l
    ∙ ap (λ (b : Bool). cond b
    (span_bytes head (get_or spans i blank).value ∷ values (fields_of head (drop (i + 1) spans)) name)
    (values (fields_of head (drop (i + 1) spans)) name)) h

none_before : (found : Option (Bor (List ℕ))) → is_some found ≡ false → option_to_list (option_copied found) ≡ []
none_before None h = refl
none_before (Some v) h = cc

some_before : (found : Option (Bor (List ℕ))) (v : List ℕ) (more : List (List ℕ)) → is_some found ≡ true
    → None ≡ only (option_to_list (option_copied found) ++ (v ∷ more))
some_before None v more h = cc
some_before (Some w) v more h = refl

-- a second header of the name
pub second : (head : List ℕ) (spans : List HeaderSpan) (i : ℕ) (name : List ℕ) (all : List (List ℕ))
    (found : Option (Bor (List ℕ))) → i < length spans
    → eq_ignore_case (span_bytes head (get_or spans i blank).name) name ≡ true → is_some found ≡ true
    → all ≡ option_to_list (option_copied found) ++ values (fields_of head (drop i spans)) name → None ≡ only all
second head spans i name all found l h s e =
    some_before found (span_bytes head (get_or spans i blank).value)
    (values (fields_of head (drop (i + 1) spans)) name) s
    ∙ ap only (sym (e ∙ ap (λ (t : List (List ℕ)). option_to_list (option_copied found) ++ t)
    (with_found head spans i name l h)))

-- the first one
pub first : (head : List ℕ) (spans : List HeaderSpan) (i : ℕ) (name v : List ℕ) (all : List (List ℕ))
    (found : Option (Bor (List ℕ))) → i < length spans
    → eq_ignore_case (span_bytes head (get_or spans i blank).name) name ≡ true → is_some found ≡ false
    → v ≡ span_bytes head (get_or spans i blank).value
    → all ≡ option_to_list (option_copied found) ++ values (fields_of head (drop i spans)) name
    → all ≡ v ∷ values (fields_of head (drop (i + 1) spans)) name
first head spans i name v all found l h s k e =
    e
    ∙ ap (λ (t : List (List ℕ)). t ++ values (fields_of head (drop i spans)) name) (none_before found s)
    ∙ with_found head spans i name l h
    ∙ ap (λ (w : List ℕ). w ∷ values (fields_of head (drop (i + 1) spans)) name) (sym k)

-- a header of another name
pub other : (head : List ℕ) (spans : List HeaderSpan) (i : ℕ) (name : List ℕ) (all : List (List ℕ))
    (found : Option (Bor (List ℕ))) → i < length spans
    → eq_ignore_case (span_bytes head (get_or spans i blank).name) name ≡ false
    → all ≡ option_to_list (option_copied found) ++ values (fields_of head (drop i spans)) name
    → all ≡ option_to_list (option_copied found) ++ values (fields_of head (drop (i + 1) spans)) name
other head spans i name all found l h e =
    e ∙ ap (λ (t : List (List ℕ)). option_to_list (option_copied found) ++ t) (next_value head spans i name l
    ∙ ap (λ (b : Bool). cond b
    (span_bytes head (get_or spans i blank).value ∷ values (fields_of head (drop (i + 1) spans)) name)
    (values (fields_of head (drop (i + 1) spans)) name)) h)

only_one : (found : Option (Bor (List ℕ))) → option_copied found ≡ only (option_to_list (option_copied found) ++ [])
only_one None = refl
only_one (Some v) = refl

-- no header is left
pub last : (head : List ℕ) (spans : List HeaderSpan) (i : ℕ) (name : List ℕ) (all : List (List ℕ))
    (found : Option (Bor (List ℕ))) → length spans ≤ i
    → all ≡ option_to_list (option_copied found) ++ values (fields_of head (drop i spans)) name
    → option_copied found ≡ only all
last head spans i name all found l e =
    only_one found
    ∙ ap only (sym (e ∙ ap (λ (t : List (List ℕ)). option_to_list (option_copied found) ++ t)
    (no_value head spans i name l)))
