-- The units of bytes are units that a parser reads.
use Rattle.std.proofs.Common.{◌≡◌, ℕ, zero, suc, true, false, List, [], ◌∷◌, map, Option, Some, None, refl, arith}
use Rattle.std.specs.Prelude.{nat_lt}
use Rattle.std.specs.List.{AllByRecursion, list_all}
use Rattle.std.proofs.lemmas.Bool.{cond_both}
use Rattle.std.proofs.lemmas.Bool.Decides.{nat_tests}
use Rattle.std.proofs.lemmas.List.Folds.{list_all-append}
use Rattle.std.proofs.Math.Utf8.{scalar}
use Rattle.charsets.specs.declared.decoder.Coding.{Coding}
use Rattle.charsets.specs.declared.decoder.Coding.TheVariants.{Utf8, Ecma35}
use Rattle.charsets.specs.declared.decoder.Unit.TheVariants.{Code}
use Rattle.charsets.specs.Utf8.{Piece, is_lead, follows, continues, code_of_3, code_of_4, piece, piece_of_2, piece_of_3}
use Rattle.charsets.specs.Utf8.{piece_of_4, cut, codes}
use Rattle.charsets.specs.Units.{units, unit_of_byte, IsUnit}
use Rattle.charsets.proofs.Cuts.{cut-none, cut-some}

scalar_3 : (a b c : ℕ) → nat_lt a 0xE0 ≡ false → nat_lt a 0xF0 ≡ true → follows a b ≡ true → continues c ≡ true
    → scalar (code_of_3 a b c) ≡ true
scalar_3 a b c l s f t = grind (arith, nat_tests)

scalar_4 : (a b c d : ℕ) → is_lead a ≡ true → nat_lt a 0xF0 ≡ false → follows a b ≡ true → continues c ≡ true
    → continues d ≡ true → scalar (code_of_4 a b c d) ≡ true
scalar_4 a b c d l s f t u = grind (arith, nat_tests)

-- a piece gives codes of characters
abbrev Gives : Option Piece → Type 0
Gives None = Prim.Unit {0}
Gives (Some p) = list_all scalar p.gives ≡ true

gives_4 : (a b c : ℕ) (bytes : List ℕ) → is_lead a ≡ true → nat_lt a 0xF0 ≡ false → follows a b ≡ true
    → continues c ≡ true → Gives (piece_of_4 a b c bytes)
gives_4 a b c [] l s f t = tt
gives_4 a b c (d ∷ bytes) l s f t =
    cond_both (continues d) _ _ Gives (λ u. rw (scalar_4 a b c d l s f t u) refl) (λ u. grind (arith, nat_tests))

gives_3 : (a b : ℕ) (bytes : List ℕ) → is_lead a ≡ true → nat_lt a 0xE0 ≡ false → follows a b ≡ true
    → Gives (piece_of_3 a b bytes)
gives_3 a b [] l s f = tt
gives_3 a b (c ∷ bytes) l s f = cond_both (continues c) _ _ Gives
    (λ t. cond_both (nat_lt a 0xF0) _ _ Gives (λ u. rw (scalar_3 a b c s u f t) refl)
    (λ u. gives_4 a b c bytes l u f t))
    (λ t. grind (arith, nat_tests))

gives_2 : (a : ℕ) (bytes : List ℕ) → is_lead a ≡ true → Gives (piece_of_2 a bytes)
gives_2 a [] l = tt
gives_2 a (b ∷ bytes) l = cond_both (follows a b) _ _ Gives
    (λ f. cond_both (nat_lt a 0xE0) _ _ Gives (λ s. grind (arith, nat_tests)) (λ s. gives_3 a b bytes l s f))
    (λ f. grind (arith, nat_tests))

gives : (a : ℕ) (bytes : List ℕ) → Gives (piece a bytes)
unfolding piece
gives a bytes = cond_both (nat_lt a 0x80) _ _ Gives (λ h. grind (arith, nat_tests))
    (λ h. cond_both (is_lead a) _ _ Gives (λ l. gives_2 a bytes l) (λ l. refl))

scalars-cut : (skip : ℕ) (bytes : List ℕ) → list_all scalar (cut skip bytes).0 ≡ true
unfolding cut
scalars-cut zero [] = refl
scalars-cut (suc skip) [] = refl
scalars-cut (suc skip) (a ∷ bytes) = scalars-cut skip bytes
scalars-cut zero (a ∷ bytes) = by (piece a bytes) refl (gives a bytes) (λ k. scalars-cut k bytes)
  where
    by : (o : Option Piece) → piece a bytes ≡ o → Gives o → ((k : ℕ) → list_all scalar (cut k bytes).0 ≡ true)
        → list_all scalar (codes (a ∷ bytes)).0 ≡ true
    by None e g again = rw (cut-none a bytes e) refl
    by (Some p) e g again = rw (cut-some a bytes p e, list_all-append, g, again p.more) refl

coded : (cs : List ℕ) → list_all scalar cs ≡ true → AllByRecursion IsUnit (map (λ c. Code c) cs)
coded [] h = tt
coded (c ∷ cs) h = (grind arith, coded cs (grind arith))

bytes_units : (bytes : List ℕ) → AllByRecursion IsUnit (map unit_of_byte bytes)
bytes_units [] = tt
bytes_units (b ∷ bytes) = (grind (arith, nat_tests), bytes_units bytes)

pub units-are : (coding : Coding) (bytes : List ℕ) → AllByRecursion IsUnit (units coding bytes).0
units-are Utf8 bytes = coded (codes bytes).0 (scalars-cut 0 bytes)
units-are Ecma35 bytes = bytes_units bytes
