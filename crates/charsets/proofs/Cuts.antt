-- Bytes cut into pieces, wherever the cuts are.
use Rattle.std.proofs.Common.{◌≡◌, ℕ, zero, suc, ◌≤◌, List, [], ◌∷◌, ◌++◌, length, Option, Some, None, refl, sym, ap}
use Rattle.std.proofs.Common.{◌∙◌, arith, append_assoc}
use Rattle.std.proofs.lemmas.Bool.Decides.{nat_tests}
use Rattle.charsets.specs.Utf8.{Piece, piece, cut, codes, with_front}

-- a piece that is known stays, whatever comes after it
stays : (a : ℕ) (bytes later : List ℕ) (p : Piece) → piece a bytes ≡ Some p → piece a (bytes ++ later) ≡ Some p
unfolding piece
stays a [] later p h = grind (arith, nat_tests)
stays a (b ∷ []) later p h = grind (arith, nat_tests)
stays a (b ∷ c ∷ []) later p h = grind (arith, nat_tests)
stays a (b ∷ c ∷ d ∷ bytes) later p h = h

-- the piece lies within the bytes
within : (a : ℕ) (bytes : List ℕ) (p : Piece) → piece a bytes ≡ Some p → p.more ≤ length bytes
unfolding piece
within a [] p h = grind (arith, nat_tests)
within a (b ∷ []) p h = grind (arith, nat_tests)
within a (b ∷ c ∷ []) p h = grind (arith, nat_tests)
within a (b ∷ c ∷ d ∷ bytes) p h = grind (arith, nat_tests)

-- one step of the cut
pub cut-none : (a : ℕ) (bytes : List ℕ) → piece a bytes ≡ None → codes (a ∷ bytes) ≡ ([], a ∷ bytes)
unfolding cut
cut-none a bytes h = cc

pub cut-some : (a : ℕ) (bytes : List ℕ) (p : Piece) → piece a bytes ≡ Some p
    → codes (a ∷ bytes) ≡ with_front p.gives (cut p.more bytes)
unfolding cut
cut-some a bytes p h = cc

-- the cut of a longer list, from the cut of its front
pub cut-append : (skip : ℕ) (bytes later : List ℕ) → skip ≤ length bytes
    → cut skip (bytes ++ later) ≡ with_front (cut skip bytes).0 (codes ((cut skip bytes).1 ++ later))
unfolding cut
cut-append zero [] later h = refl
cut-append (suc skip) [] later h = absurd (omega arith)
cut-append (suc skip) (a ∷ bytes) later h = cut-append skip bytes later (omega arith)
cut-append zero (a ∷ bytes) later h = by (piece a bytes) refl (λ k w. cut-append k bytes later w)
  where
    by : (o : Option Piece) → piece a bytes ≡ o
        → ((k : ℕ) → k ≤ length bytes
        → cut k (bytes ++ later) ≡ with_front (cut k bytes).0 (codes ((cut k bytes).1 ++ later)))
        → codes (a ∷ (bytes ++ later)) ≡ with_front (codes (a ∷ bytes)).0 (codes ((codes (a ∷ bytes)).1 ++ later))
    by None e again = rw (cut-none a bytes e) refl
    by (Some p) e again =
        rw (cut-some a bytes p e, cut-some a (bytes ++ later) p (stays a bytes later p e))
        (ap (with_front p.gives) (again p.more (within a bytes p e))
        ∙ ap (λ l. (l, (codes ((cut p.more bytes).1 ++ later)).1))
        (sym (append_assoc p.gives (cut p.more bytes).0 (codes ((cut p.more bytes).1 ++ later)).0)))

pub codes-go_on : (front later : List ℕ)
    → codes (front ++ later) ≡ with_front (codes front).0 (codes ((codes front).1 ++ later))
codes-go_on front later = cut-append 0 front later (omega arith)
