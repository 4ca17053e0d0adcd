-- What a list of seats was told, with one more seat.
use Rattle.hub_ledger.proofs.Vocabulary.{◌≡◌, ℕ, zero, suc, ◌+◌, List, [], ◌∷◌, ◌++◌, Some, false, length, take, drop}
use Rattle.hub_ledger.proofs.Vocabulary.{ap, sym, ◌∙◌, arith, length-append, ◌||◌, slice_get, list_any, append-nil}
use Rattle.hub_ledger.proofs.Vocabulary.{take_all, Receipt, AreNumbered, NoneAsks, Sitting, receipts_of}
use Rattle.std.proofs.lemmas.List.{drop_all}
use Rattle.std.proofs.lemmas.List.Folds.{list_any-append}
use Rattle.std.proofs.lemmas.List.Sums.{sum_by_push}
use Rattle.hub_ledger.specs.Closing.{handed_of}
use Rattle.hub_ledger.proofs.Stripping.{receipts_append}

pub pushed : (all rest : List Sitting) (s : Sitting) → all ≡ rest ++ s ∷ [] → (length all ≡ length rest + 1)
    × (length (receipts_of all) ≡ length (receipts_of rest) + length s.receipts)
pushed all rest s is =
    let more = ap (λ (x : List Receipt). length x) (ap receipts_of is ∙ receipts_append rest (s ∷ [])) in (
      ap length is
          ∙ omega (arith, length-append rest (s ∷ [])),
      omega
          (arith, more, length-append (receipts_of rest) (s.receipts ++ []), length-append s.receipts []),
    )

pub handed_pushed : (all rest : List Sitting) (s : Sitting) → all ≡ rest ++ s ∷ []
    → handed_of all ≡ handed_of rest + s.handed
handed_pushed all rest s is = ap handed_of is ∙ sum_by_push (λ (x : Sitting). x.handed) rest s

-- the slice of all seats, after it was written back
pub written : (new old : List Sitting) (n : ℕ) → n ≡ length old → length new ≡ length old
    → take n (new ++ drop (length new) old) ≡ new
written new old n is same =
    ap (λ (x : List Sitting). take n (new ++ x)) (drop_all (length new) old (omega (arith, same)))
    ∙ ap (take n) (append-nil new) ∙ take_all n new (omega (arith, is, same))

pub none_told : (all rest : List Sitting) (s : Sitting) → all ≡ rest ++ s ∷ [] → receipts_of rest ≡ [] → s.receipts ≡ []
    → receipts_of all ≡ []
none_told all rest s is none here = ap receipts_of is ∙ receipts_append rest (s ∷ []) ∙ (λ i. none i ++ (here i ++ []))

pub none_asks : (all rest : List Sitting) (s : Sitting) → all ≡ rest ++ s ∷ [] → NoneAsks rest → s.asks ≡ false
    → NoneAsks all
none_asks all rest s is none here =
    ap (list_any (λ (x : Sitting). x.asks)) is ∙ list_any-append (λ (x : Sitting). x.asks) rest (s ∷ [])
    ∙ (λ i. none i || (here i || false))

-- a seat after those with numbers from n on
number_at : (rest : List Sitting) (s t : Sitting) (n k : ℕ)
    → ((j : ℕ) (u : Sitting) → slice_get rest j ≡ Some u → u.number ≡ n + j) → s.number ≡ n + length rest
    → slice_get (rest ++ s ∷ []) k ≡ Some t → t.number ≡ n + k
number_at [] s t n zero before is at =
    let here : s ≡ t = cc (at) in
    ap (λ (x : Sitting). x.number) (sym here) ∙ is
number_at [] s t n (suc k) before is at = absurd (cc (at))
number_at (r ∷ rest) s t n zero before is at = before 0 t at
number_at (r ∷ rest) s t n (suc k) before is at =
    let next = number_at rest s t (suc n) k (λ j u h. let b = before (suc j) u h in omega (arith, b))
    (omega (arith, is)) at in
    omega (arith, next)

pub numbered : (all rest : List Sitting) (s : Sitting) → all ≡ rest ++ s ∷ [] → AreNumbered rest
    → s.number ≡ length rest → AreNumbered all
numbered all rest s is before number k t at =
    let here = number_at rest s t 0 k (λ j u h. let b = before j u h in omega (arith, b)) (omega (arith, number))
    (ap (λ (x : List Sitting). slice_get x k) (sym is) ∙ at) in
    omega (arith, here)
