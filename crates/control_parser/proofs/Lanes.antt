-- A run of bytes that pass a test, read a vector at a time through the mask of those that fail it.
use Rattle.control_parser.proofs.Vocabulary.{◌≡◌, ℕ, ◌+◌, ◌-◌, ◌%◌, ◌^◌, ◌<◌, ◌≤◌, leb, not, cond, eqb, List, [], ◌∷◌}
use Rattle.control_parser.proofs.Vocabulary.{map, length, drop, replicate, refl, sym, ap, ap₂, ◌∙◌, arith, w8, Fits}
use Rattle.control_parser.proofs.Vocabulary.{prefix_len, length-map, prefix_len-append, eq-eqb, ne_eqb, nat_tests}
use Rattle.control_parser.proofs.Vocabulary.{is_plain, is_no_plain}
use Rattle.std.proofs.lemmas.Simd.{zip2_splat, map-map, mask_l-mod, chunk-drop, length-chunk, leading_from_mask_l}
use Rattle.std.proofs.lemmas.Simd.{trailing_mask_l}
use Rattle.std.proofs.lemmas.List.Sums.{prefix_len-le-length}
use lib.Lanes.{zip2, mask_l, top, chunk, Each1}
use lib.Count.{count_trailing_zeros}

-- ONE LOAD

abbrev pub at_most : ℕ → ℕ → ℕ
at_most a b = cond (leb a b) 255 0

-- a byte less 20, as a lane wraps
abbrev pub from_blank : ℕ → ℕ
from_blank b = (b + (256 - 0x20)) % 256

splat_left : (h : ℕ → ℕ → ℕ) (y : ℕ) (xs : List ℕ) → zip2 h (replicate (length xs) y) xs ≡ map (h y) xs
splat_left h y [] = refl
splat_left h y (x ∷ xs) = ap (λ r. h y x ∷ r) (splat_left h y xs)

from_splat : (h : ℕ → ℕ → ℕ) (f : ℕ → ℕ) (y n : ℕ) (v a : List ℕ) → length v ≡ n → a ≡ map f v
    → zip2 h (replicate n y) a ≡ map (λ x. h y (f x)) v
from_splat h f y n v a long p =
    ap (zip2 h (replicate n y)) p ∙ ap (λ k. zip2 h (replicate k y) (map f v)) (sym (length-map v f ∙ long))
    ∙ splat_left h y (map f v) ∙ map-map (h y) f v

byte_stops : (b : ℕ) → b < 256 → top 7 (at_most 0x5F (from_blank b)) ≡ is_no_plain b
byte_stops b h = grind (arith, nat_tests)

bytes_stop : (v : List ℕ) → Each1 (Fits w8) v
    → map (top 7) (map (λ b. at_most 0x5F (from_blank b)) v) ≡ map is_no_plain v
bytes_stop [] h = refl
bytes_stop (b ∷ v) h = ap₂ (λ x xs. x ∷ xs) (byte_stops b h.0.fits) (bytes_stop v h.1)

pub stops-masked : (v : List ℕ) → length v ≡ 32 → Each1 (Fits w8) v
    → mask_l
    (map (top 7) (zip2 at_most (replicate 32 0x5F) (zip2 (λ a b. (a + (256 - b)) % 256) v (replicate 32 0x20)))) % 2
    ^ 64 ≡ mask_l (map is_no_plain v)
stops-masked v long fits =
    ap (λ z. mask_l (map (top 7) z) % 2 ^ 64)
    (from_splat at_most from_blank 0x5F 32 v _ long (zip2_splat (λ a b. (a + (256 - b)) % 256) v 32 0x20 long))
    ∙ ap (λ z. mask_l z % 2 ^ 64) (bytes_stop v fits)
    ∙ mask_l-mod (map is_no_plain v) 64 (omega (arith, length-map v is_no_plain))

-- LOAD AFTER LOAD

same_run : (xs : List ℕ) → prefix_len is_plain xs ≡ prefix_len (λ x. not (is_no_plain x)) xs
same_run [] = refl
same_run (x ∷ xs) = grind (arith, same_run xs)

all_pass : (xs : List ℕ) → prefix_len (λ x. not (is_no_plain x)) xs ≡ length xs → mask_l (map is_no_plain xs) ≡ 0
all_pass [] e = refl
all_pass (x ∷ xs) e = grind (arith, prefix_len-le-length (λ y. not (is_no_plain y)) xs, all_pass xs)

split : (d : List ℕ) (i n : ℕ)
    → prefix_len is_plain (drop i d) ≡ cond (eqb (prefix_len is_plain (chunk i n d)) (length (chunk i n d)))
    (length (chunk i n d) + prefix_len is_plain (drop (i + n) d)) (prefix_len is_plain (chunk i n d))
split d i n = ap (prefix_len is_plain) (chunk-drop i n d) ∙ prefix_len-append is_plain (chunk i n d) (drop (i + n) d)

pub run_through : (d : List ℕ) (i n : ℕ) → i + n ≤ length d → mask_l (map is_no_plain (chunk i n d)) ≡ 0
    → prefix_len is_plain (drop i d) ≡ n + prefix_len is_plain (drop (i + n) d)
run_through d i n room none =
    let c = chunk i n d in
    split d i n
    ∙ ap (λ b. cond b (length c + prefix_len is_plain (drop (i + n) d)) (prefix_len is_plain c))
    (eq-eqb _ _ (same_run c ∙ leading_from_mask_l is_no_plain c none))
    ∙ ap (λ k. k + prefix_len is_plain (drop (i + n) d)) (length-chunk i n d room)

pub run_stops : (d : List ℕ) (i n : ℕ) → i + n ≤ length d → n ≤ 64 → 0 < mask_l (map is_no_plain (chunk i n d))
    → prefix_len is_plain (drop i d) ≡ count_trailing_zeros 64 (mask_l (map is_no_plain (chunk i n d)))
run_stops d i n room short some =
    let c = chunk i n d in
    split d i n
    ∙ ap (λ b. cond b (length c + prefix_len is_plain (drop (i + n) d)) (prefix_len is_plain c))
    (ne_eqb _ _ (λ (e : prefix_len is_plain c ≡ length c). omega (arith, all_pass c (sym (same_run c) ∙ e))))
    ∙ same_run c ∙ sym (trailing_mask_l is_no_plain 64 c (omega (arith, length-chunk i n d room)) some)
