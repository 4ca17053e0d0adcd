-- Facts of places with codes, and of the stored forms that the codes name.
use Rattle.std.proofs.Common.{◌≡◌, ℕ, zero, suc, ◌<◌, ◌≤◌, List, [], ◌∷◌, ◌++◌, length, Option, Some, None, refl, ap}
use Rattle.std.proofs.Common.{subst, ◌∙◌, arith}
use Rattle.std.specs.Prelude.{IsSome, option_map, option_to_list, slice_get}
use Rattle.std.specs.List.{AllByRecursion}
use Rattle.std.proofs.lemmas.Grind.{flat_map-append}
use Rattle.hub_record.specs.declared.receipts.PlaceCode.{PlaceCode}
use Rattle.hub_record.specs.declared.receipts.Form.{Form}
use Rattle.hub_record.specs.Receipts.{LosesLast, Receipt, receipt_of, told_by}

abbrev pub Below : ℕ → List PlaceCode → Type 0
Below n told = AllByRecursion (λ (t : PlaceCode). t.code < n) told

pub below_more : (n m : ℕ) (told : List PlaceCode) → n ≤ m → Below n told → Below m told
below_more n m [] le all = tt
below_more n m (t ∷ told) le all = (let l = all.0 in omega (arith, le, l), below_more n m told le all.1)

pub below_push : (n : ℕ) (told : List PlaceCode) (t : PlaceCode) → Below n told → t.code < n → Below n (told ++ t ∷ [])
below_push n [] t all l = (l, tt)
below_push n (x ∷ told) t all l = (all.0, below_push n told t all.1 l)

pub below_front : (n : ℕ) (told : List PlaceCode) (t : PlaceCode) → Below n (told ++ t ∷ []) → Below n told
    × (t.code < n)
below_front n [] t all = (tt, all.0)
below_front n (x ∷ told) t all = let rest = below_front n told t all.1 in ((all.0, rest.0), rest.1)

pub form_there : (forms : List Form) (c : ℕ) → c < length forms → (f : Form) × (slice_get forms c ≡ Some f)
form_there [] c l = absurd (omega (arith, l))
form_there (f ∷ forms) zero l = (f, refl)
form_there (f ∷ forms) (suc c) l = form_there forms c (omega (arith, l))

pub below_at : (n : ℕ) (told : List PlaceCode) (k : ℕ) (t : PlaceCode) → Below n told → slice_get told k ≡ Some t
    → t.code < n
below_at n [] k t all is = absurd (cc (is))
below_at n (x ∷ told) zero t all is = let same : x ≡ t = cc (is) in
    (let l = all.0 in let code = ap (λ (y : PlaceCode). y.code) same in omega (arith, l, code))
below_at n (x ∷ told) (suc k) t all is = below_at n told k t all.1 is

pub as_many : (forms : List Form) (told : List PlaceCode) → Below (length forms) told
    → length (told_by forms told) ≡ length told
as_many forms [] all = refl
as_many forms (t ∷ told) all =
    let at = form_there forms t.code all.0 in
    ap (λ (o : Option Form). length (option_to_list (option_map (receipt_of t.place) o) ++ told_by forms told)) at.1
    ∙ ap (λ n. suc n) (as_many forms told all.1)

same_at : (forms more : List Form) (c : ℕ) → c < length forms → slice_get (forms ++ more) c ≡ slice_get forms c
same_at [] more c l = absurd (omega (arith, l))
same_at (f ∷ forms) more zero l = refl
same_at (f ∷ forms) more (suc c) l = same_at forms more c (omega (arith, l))

-- a form that is stored after the others changes no receipt
pub with_form : (forms more : List Form) (told : List PlaceCode) → Below (length forms) told
    → told_by (forms ++ more) told ≡ told_by forms told
with_form forms more [] all = refl
with_form forms more (t ∷ told) all =
    ap (λ (o : Option Form). option_to_list (option_map (receipt_of t.place) o) ++ told_by (forms ++ more) told)
    (same_at forms more t.code all.0)
    ∙ ap (λ (rest : List Receipt). option_to_list (option_map (receipt_of t.place) (slice_get forms t.code)) ++ rest)
    (with_form forms more told all.1)

-- a place and a code after the others are a receipt after the others
pub with_told : (forms : List Form) (told : List PlaceCode) (t : PlaceCode) (f : Form) → slice_get forms t.code ≡ Some f
    → told_by forms (told ++ t ∷ []) ≡ told_by forms told ++ receipt_of t.place f ∷ []
with_told forms told t f at =
    flat_map-append (λ (x : PlaceCode). option_to_list (option_map (receipt_of x.place) (slice_get forms x.code))) told
    (t ∷ [])
    ∙ ap (λ (o : Option Form). told_by forms told ++ (option_to_list (option_map (receipt_of t.place) o) ++ [])) at

pub receipt_at : (forms : List Form) (told : List PlaceCode) (k : ℕ) (t : PlaceCode) (f : Form)
    → Below (length forms) told
    → slice_get told k ≡ Some t → slice_get forms t.code ≡ Some f
    → slice_get (told_by forms told) k ≡ Some (receipt_of t.place f)
receipt_at forms [] k t f all is at = absurd (cc (is))
receipt_at forms (x ∷ told) zero t f all is at =
    let same : x ≡ t = cc (is) in
    ap (λ (y : PlaceCode). slice_get
    (option_to_list (option_map (receipt_of y.place) (slice_get forms y.code)) ++ told_by forms told) 0) same
    ∙ ap (λ (o : Option Form). slice_get (option_to_list (option_map (receipt_of t.place) o) ++ told_by forms told) 0)
    at
receipt_at forms (x ∷ told) (suc k) t f all is at =
    let here = form_there forms x.code all.0 in
    ap (λ (o : Option Form). slice_get (option_to_list (option_map (receipt_of x.place) o) ++ told_by forms told)
    (suc k)) here.1 ∙ receipt_at forms told k t f all.1 is at

-- removing the last place and code removes the last receipt
pub popped : (forms : List Form) (told new : List PlaceCode) (o : Option PlaceCode) → Below (length forms) told
    → told ≡ new ++ option_to_list o → IsSome o → LosesLast (told_by forms told) (told_by forms new)
popped forms told new None all is some = absurd (cc (some))
popped forms told new (Some t) all is some =
    let front = below_front (length forms) new t (subst (Below (length forms)) is all) in
    let f = form_there forms t.code front.1 in
    (receipt_of t.place f.0, ap (told_by forms) is ∙ with_told forms new t f.0 f.1)
