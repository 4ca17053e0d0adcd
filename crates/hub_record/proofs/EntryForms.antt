-- Facts of codes, and of the stored forms that they name.
use Rattle.std.proofs.Common.{◌≡◌, ℕ, zero, suc, ◌<◌, ◌≤◌, List, [], ◌∷◌, ◌++◌, length, Option, Some, refl, ap, ◌∙◌}
use Rattle.std.proofs.Common.{arith}
use Rattle.std.specs.Prelude.{option_to_list, slice_get}
use Rattle.std.specs.List.{AllByRecursion}
use Rattle.std.proofs.lemmas.Grind.{flat_map-append}
use Rattle.hub_trail.specs.Trails.{Entry}
use Rattle.hub_record.specs.EntryLists.{listed}

abbrev pub Below : ℕ → List ℕ → Type 0
Below n codes = AllByRecursion (λ c. c < n) codes

pub below_more : (n m : ℕ) (codes : List ℕ) → n ≤ m → Below n codes → Below m codes
below_more n m [] le all = tt
below_more n m (c ∷ codes) le all = (let l = all.0 in omega (arith, le, l), below_more n m codes le all.1)

pub below_push : (n : ℕ) (codes : List ℕ) (c : ℕ) → Below n codes → c < n → Below n (codes ++ c ∷ [])
below_push n [] c all l = (l, tt)
below_push n (x ∷ codes) c all l = (all.0, below_push n codes c all.1 l)

pub form_there : (forms : List Entry) (c : ℕ) → c < length forms → (e : Entry) × (slice_get forms c ≡ Some e)
form_there [] c l = absurd (omega (arith, l))
form_there (f ∷ forms) zero l = (f, refl)
form_there (f ∷ forms) (suc c) l = form_there forms c (omega (arith, l))

pub below_at : (n : ℕ) (codes : List ℕ) (k c : ℕ) → Below n codes → slice_get codes k ≡ Some c → c < n
below_at n [] k c all is = absurd (cc (is))
below_at n (x ∷ codes) zero c all is = let same : x ≡ c = cc (is) in (let l = all.0 in omega (arith, l, same))
below_at n (x ∷ codes) (suc k) c all is = below_at n codes k c all.1 is

pub as_many : (forms : List Entry) (codes : List ℕ) → Below (length forms) codes
    → length (listed forms codes) ≡ length codes
as_many forms [] all = refl
as_many forms (c ∷ codes) all =
    let at = form_there forms c all.0 in
    ap (λ (o : Option Entry). length (option_to_list o ++ listed forms codes)) at.1
    ∙ ap (λ n. suc n) (as_many forms codes all.1)

same_at : (forms more : List Entry) (c : ℕ) → c < length forms → slice_get (forms ++ more) c ≡ slice_get forms c
same_at [] more c l = absurd (omega (arith, l))
same_at (f ∷ forms) more zero l = refl
same_at (f ∷ forms) more (suc c) l = same_at forms more c (omega (arith, l))

-- a form that is stored after the others changes no entry
pub with_form : (forms more : List Entry) (codes : List ℕ) → Below (length forms) codes
    → listed (forms ++ more) codes ≡ listed forms codes
with_form forms more [] all = refl
with_form forms more (c ∷ codes) all =
    ap (λ (o : Option Entry). option_to_list o ++ listed (forms ++ more) codes) (same_at forms more c all.0)
    ∙ ap (λ (rest : List Entry). option_to_list (slice_get forms c) ++ rest) (with_form forms more codes all.1)

-- a code after the others is an entry after the others: the form of the code
pub with_code : (forms : List Entry) (codes : List ℕ) (c : ℕ) (e : Entry) → slice_get forms c ≡ Some e
    → listed forms (codes ++ c ∷ []) ≡ listed forms codes ++ e ∷ []
with_code forms codes c e at =
    flat_map-append (λ code. option_to_list (slice_get forms code)) codes (c ∷ [])
    ∙ ap (λ (o : Option Entry). listed forms codes ++ (option_to_list o ++ [])) at

pub entry_at : (forms : List Entry) (codes : List ℕ) (k c : ℕ) (e : Entry) → Below (length forms) codes
    → slice_get codes k ≡ Some c → slice_get forms c ≡ Some e → slice_get (listed forms codes) k ≡ Some e
entry_at forms [] k c e all is at = absurd (cc (is))
entry_at forms (x ∷ codes) zero c e all is at =
    let same : x ≡ c = cc (is) in
    ap (λ (o : Option Entry). slice_get (option_to_list o ++ listed forms codes) 0) (ap (slice_get forms) same ∙ at)
entry_at forms (x ∷ codes) (suc k) c e all is at =
    let here = form_there forms x all.0 in
    ap (λ (o : Option Entry). slice_get (option_to_list o ++ listed forms codes) (suc k)) here.1
    ∙ entry_at forms codes k c e all.1 is at
