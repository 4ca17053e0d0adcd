-- Visible text has no character that is written as an escape.
use Rattle.std.proofs.Common.{◌≡◌, ℕ, zero, suc, ◌<◌, ◌/◌, ◌%◌, nat_lt, ◌&&◌, ◌==◌, Bool, true, false, List, [], ◌∷◌}
use Rattle.std.proofs.Common.{◌++◌, refl, ap, ◌∙◌, arith, codes, ◌⊎◌, ◌-◌, inl, inr}
use Rattle.std.specs.List.{list_all}
use Rattle.std.proofs.lemmas.Bool.Decides.{nat_tests}
use Rattle.client_words.specs.declared.visible.Piece.{Piece}
use Rattle.client_words.specs.declared.visible.Piece.TheVariants.{Kept, Control, C1, Mark, Turn}
use Rattle.client_words.specs.Visible.{is_control, is_c1, is_mark, is_turn, third, longer, piece, digit, control_escape}
use Rattle.client_words.specs.Visible.{turn_code, turn_escape, written, further, visible_behind, visible, are_kept}

-- ---- signs of ASCII are kept, whatever follows

abbrev is_sign : ℕ → Bool
is_sign b = nat_lt 0x1F b && nat_lt b 0x7F

sign_third : (b y : ℕ) (rest : List ℕ) → is_sign b ≡ true → third b y rest ≡ Kept
sign_third b y [] h = refl
sign_third b y (z ∷ rest) h = let other : b == 0xE2 ≡ false = grind (arith, nat_tests) in rw other refl

sign_longer : (b : ℕ) (rest : List ℕ) → is_sign b ≡ true → longer b rest ≡ Kept
sign_longer b [] h = refl
sign_longer b (y ∷ rest) h =
    let other : b == 0xC2 ≡ false = grind (arith, nat_tests) in
    let another : b == 0xD8 ≡ false = grind (arith, nat_tests) in
    rw (other, another) (sign_third b y rest h)

sign_kept : (b : ℕ) (rest : List ℕ) → is_sign b ≡ true → piece b rest ≡ Kept
sign_kept b rest h =
    let plain : is_control b ≡ false = grind (arith, nat_tests) in rw plain (sign_longer b rest h)

signs_kept : (signs rest : List ℕ) → list_all is_sign signs ≡ true → are_kept rest ≡ true
    → are_kept (signs ++ rest) ≡ true
signs_kept [] rest h k = k
signs_kept (b ∷ signs) rest h k = go (is_sign b) refl h (λ i. signs_kept signs rest i k)
  where
    go : (s : Bool) → is_sign b ≡ s → (s && list_all is_sign signs) ≡ true
        → (list_all is_sign signs ≡ true → are_kept (signs ++ rest) ≡ true) → are_kept (b ∷ signs ++ rest) ≡ true
    go true e i later = rw (sign_kept b (signs ++ rest) e) (later i)
    go false e i later = absurd (cc)

-- ---- escapes are signs

digit_sign : (n : ℕ) → n < 16 → is_sign (digit n) ≡ true
digit_sign n h = go (nat_lt n 10) refl
  where
    go : (b : Bool) → nat_lt n 10 ≡ b → is_sign (digit n) ≡ true
    go true e = grind (arith, nat_tests)
    go false e = grind (arith, nat_tests)

control_signs : (b : ℕ) → b < 256 → list_all is_sign (0x5C ∷ control_escape b) ≡ true
control_signs b h =
    let high = digit_sign (b / 16) (omega arith) in
    let low = digit_sign (b % 16) (omega arith) in
    rw (high, low) refl

turn_signs : (n : ℕ) → n < 4096 → list_all is_sign (0x5C ∷ turn_escape n) ≡ true
turn_signs n h =
    let high = digit_sign (n / 256) (omega arith) in
    let middle = digit_sign (n / 16 % 16) (omega arith) in
    let low = digit_sign (n % 16) (omega arith) in
    rw (high, middle, low) refl

-- the escape of a piece that isn't kept
abbrev escape : Piece → List ℕ
escape Kept = []
escape (Control b) = control_escape b
escape (C1 b) = control_escape b
escape Mark = codes "u{61c}"
escape (Turn y z) = turn_escape (turn_code y z)

-- ---- pieces

abbrev Escapes : Piece → ℕ → Type 0
Escapes p x = (written p x ≡ 0x5C ∷ escape p) × (list_all is_sign (0x5C ∷ escape p) ≡ true)

control_small : (x : ℕ) → is_control x ≡ true → x < 256
control_small x h = grind (arith, nat_tests)

c1_small : (x y : ℕ) → is_c1 x y ≡ true → y < 256
c1_small x y h = grind (arith, nat_tests)

third_escapes : (x y : ℕ) (rest : List ℕ) → (third x y rest ≡ Kept → ⊥) → Escapes (third x y rest) x
third_escapes x y [] isnt = absurd (isnt refl)
third_escapes x y (z ∷ rest) isnt = go (is_turn x y z) refl
  where
    go : (b : Bool) → is_turn x y z ≡ b → Escapes (third x y (z ∷ rest)) x
    go true e = rw e (refl, turn_signs (turn_code y z) (omega arith))
    go false e = absurd (isnt (rw e refl))

longer_escapes : (x : ℕ) (rest : List ℕ) → (longer x rest ≡ Kept → ⊥) → Escapes (longer x rest) x
longer_escapes x [] isnt = absurd (isnt refl)
longer_escapes x (y ∷ rest) isnt = go (is_c1 x y) (is_mark x y) refl refl
  where
    go : (b d : Bool) → is_c1 x y ≡ b → is_mark x y ≡ d → Escapes (longer x (y ∷ rest)) x
    go true d e f = rw e (refl, control_signs y (c1_small x y e))
    go false true e f = rw (e, f) (refl, refl)
    go false false e f = rw (e, f) (third_escapes x y rest (λ k. isnt (rw (e, f) k)))

piece_escapes : (x : ℕ) (rest : List ℕ) → (piece x rest ≡ Kept → ⊥) → Escapes (piece x rest) x
piece_escapes x rest isnt = go (is_control x) refl
  where
    go : (b : Bool) → is_control x ≡ b → Escapes (piece x rest) x
    go true e = rw e (refl, control_signs x (control_small x e))
    go false e = rw e (longer_escapes x rest (λ k. isnt (rw e k)))

kept_or : (p : Piece) → (p ≡ Kept) ⊎ (p ≡ Kept → ⊥)
kept_or Kept = inl refl
kept_or (Control b) = inr (λ h. absurd (cc))
kept_or (C1 b) = inr (λ h. absurd (cc))
kept_or Mark = inr (λ h. absurd (cc))
kept_or (Turn y z) = inr (λ h. absurd (cc))

-- ---- the first byte of visible text

-- visible text begins with the first byte of the text, if that is kept, or with a backslash
abbrev First : ℕ → List ℕ → Type 0
First y rest = (visible (y ∷ rest) ≡ y ∷ visible rest) ⊎ ((ws : List ℕ) × (visible (y ∷ rest) ≡ 0x5C ∷ ws))

first : (y : ℕ) (rest : List ℕ) → First y rest
unfolding visible_behind
first y rest = go (kept_or (piece y rest))
  where
    go : (piece y rest ≡ Kept) ⊎ (piece y rest ≡ Kept → ⊥) → First y rest
    go (inl e) = inl (ap (λ p. written p y ++ visible_behind (further p) rest) e)
    go (inr isnt) = inr (
      escape (piece y rest) ++ visible_behind (further (piece y rest)) rest,
      ap (λ (l : List ℕ). l ++ visible_behind (further (piece y rest)) rest) (piece_escapes y rest isnt).0,
    )

none : visible [] ≡ []
unfolding visible_behind
none = refl

not_turn : (x y : ℕ) → is_turn x y 0x5C ≡ false
not_turn x y = grind (arith, nat_tests)

after_backslash : (x : ℕ) (ws : List ℕ) → longer x (0x5C ∷ ws) ≡ Kept
after_backslash x [] = grind (arith, nat_tests)
after_backslash x (w ∷ ws) = grind (arith, nat_tests)

third_kept : (x y : ℕ) (rest : List ℕ) → third x y rest ≡ Kept → third x y (visible rest) ≡ Kept
third_kept x y [] h = ap (third x y) none
third_kept x y (z ∷ rest) h = go (first z rest)
  where
    go : First z rest → third x y (visible (z ∷ rest)) ≡ Kept
    go (inl e) = ap (third x y) e ∙ h
    go (inr e) = ap (third x y) e.1 ∙ (let other = not_turn x y in rw other refl)

longer_kept : (x : ℕ) (rest : List ℕ) → longer x rest ≡ Kept → longer x (visible rest) ≡ Kept
longer_kept x [] h = ap (longer x) none
longer_kept x (y ∷ rest) h = go (first y rest)
  where
    same : (b d : Bool) → is_c1 x y ≡ b → is_mark x y ≡ d → longer x (y ∷ visible rest) ≡ Kept
    same true d e f = absurd (let k = rw e at h in cc)
    same false true e f = absurd (let k = rw (e, f) at h in cc)
    same false false e f = rw (e, f) (third_kept x y rest (rw (e, f) at h))

    go : First y rest → longer x (visible (y ∷ rest)) ≡ Kept
    go (inl e) = ap (longer x) e ∙ same (is_c1 x y) (is_mark x y) refl refl
    go (inr e) = ap (longer x) e.1 ∙ after_backslash x e.0

piece_kept : (x : ℕ) (rest : List ℕ) → piece x rest ≡ Kept → piece x (visible rest) ≡ Kept
piece_kept x rest h = go (is_control x) refl
  where
    go : (b : Bool) → is_control x ≡ b → piece x (visible rest) ≡ Kept
    go true e = absurd (let k = rw e at h in cc)
    go false e = rw e (longer_kept x rest (rw e at h))

-- ---- all of it

pub all_kept : (skip : ℕ) (text : List ℕ) → are_kept (visible_behind skip text) ≡ true
unfolding visible_behind
all_kept skip [] = refl
all_kept (suc skip) (x ∷ rest) = all_kept skip rest
all_kept zero (x ∷ rest) = go (kept_or (piece x rest)) (all_kept 0 rest) (all_kept (further (piece x rest)) rest)
  where
    go : (piece x rest ≡ Kept) ⊎ (piece x rest ≡ Kept → ⊥) → are_kept (visible rest) ≡ true
        → are_kept (visible_behind (further (piece x rest)) rest) ≡ true
        → are_kept (written (piece x rest) x ++ visible_behind (further (piece x rest)) rest) ≡ true
    go (inl e) k l = ap (λ p. are_kept (written p x ++ visible_behind (further p) rest)) e
        ∙ (let is = piece_kept x rest e in rw is k)
    go (inr isnt) k l =
        let p = piece_escapes x rest isnt in
        ap (λ (t : List ℕ). are_kept (t ++ visible_behind (further (piece x rest)) rest)) p.0
        ∙ signs_kept (0x5C ∷ escape (piece x rest)) (visible_behind (further (piece x rest)) rest) p.1 l

-- ---- byte by byte

pub behind_more : (skip x : ℕ) (rest : List ℕ) → 0 < skip
    → visible_behind skip (x ∷ rest) ≡ visible_behind (skip - 1) rest
unfolding visible_behind
behind_more zero x rest h = absurd (omega arith)
behind_more (suc skip) x rest h =
    let same : skip ≡ suc skip - 1 = omega arith in ap (λ n. visible_behind n rest) same

pub behind_first : (x : ℕ) (rest : List ℕ)
    → visible_behind 0 (x ∷ rest) ≡ written (piece x rest) x ++ visible_behind (further (piece x rest)) rest
unfolding visible_behind
behind_first x rest = refl

pub behind_end : (skip : ℕ) → visible_behind skip [] ≡ []
unfolding visible_behind
behind_end skip = refl
