-- A field that is read is the field that was written, and what was written is read again.
use Rattle.std.proofs.Common.{◌≡◌, ℕ, suc, ◌+◌, ◌*◌, ◌/◌, ◌%◌, ◌<◌, ◌≤◌, Bool, true, false, ◌&&◌, cond, ltb, eqb, List}
use Rattle.std.proofs.Common.{[], ◌∷◌, ◌++◌, length, get_or, take, drop, Option, Some, None, refl, sym, ap, subst, ◌∙◌}
use Rattle.std.proofs.Common.{arith, inl, inr}
use Rattle.std.specs.Prelude.{IfSome, find}
use Rattle.std.specs.List.{list_all}
use Rattle.std.specs.Str.{is_utf8}
use Rattle.std.proofs.lemmas.Bool.Decides.{nat_tests}
use Rattle.std.proofs.lemmas.Bool.{cases_lt, ltb-false, le-ltb, eqb-true}
use Rattle.std.proofs.lemmas.List.{take_at, drop_at, take-append-drop, length-append, length-take, get_or-drop}
use Rattle.std.proofs.lemmas.List.{get_or-take, get_or_past, nil_from_length}
use Rattle.attach_proto.specs.Texts.{token_of, text_of, is_token, is_digit, IsToken, IsText}
use Rattle.attach_proto.specs.declared.why.Why.{Why}
use Rattle.attach_proto.specs.declared.why.Why.TheVariants as why
use Rattle.attach_proto.specs.Fields.{two, named, window_byte, reason, all_reasons, ◌>>=◌, one_at, two_at, split_at}
use Rattle.attach_proto.specs.Fields.{window_of, window_at, why_of, why_at, token_at, name_at, end_of, some_of}

abbrev pub IsBytes : List ℕ → Type 0
IsBytes bytes = (i : ℕ) → get_or bytes i 0 < 256

pub IsBytes-drop : (n : ℕ) (bytes : List ℕ) → IsBytes bytes → IsBytes (drop n bytes)
IsBytes-drop n bytes h i = rw get_or-drop (h (n + i))

pub IsBytes-take : (n : ℕ) (bytes : List ℕ) → IsBytes bytes → IsBytes (take n bytes)
IsBytes-take n bytes h i =
    elim (cases_lt i n) [
      | inl lt ↦ rw (get_or-take n bytes i 0 lt) (h i)
      | inr le ↦ rw (get_or_past (take n bytes) i 0 (omega (arith, length-take n bytes))) (omega arith)
    ]

-- the value of a step that didn't fail
pub bind_some : {A B : Type 0} (r : Option A) (f : A → Option B) (y : B) → (r >>= f) ≡ Some y → (x : A) × (r ≡ Some x)
    × (f x ≡ Some y)
bind_some (Some x) f y e = (x, refl, e)
bind_some None f y e = absurd cc

abbrev some : {A : Type 0} → A → Option A
some x = Some x

pub some_is : {A : Type 0} (x y : A) → some x ≡ some y → x ≡ y
some_is x y e = cc

pub if_some : {A : Type 0} (b : Bool) (x y : A) → cond b (Some x) None ≡ Some y → (b ≡ true) × (x ≡ y)
if_some true x y e = (refl, cc)
if_some false x y e = absurd cc

pub if_none : {A : Type 0} (b : Bool) (x y : A) → cond b None (Some x) ≡ Some y → (b ≡ false) × (x ≡ y)
if_none true x y e = absurd cc
if_none false x y e = (refl, cc)

pub both_true : (a b : Bool) → (a && b) ≡ true → (a ≡ true) × (b ≡ true)
both_true true b e = (refl, e)
both_true false b e = absurd cc

-- a text was read from the front
pub record Takes (bytes text rest : List ℕ) : Type 0 where
  pub parts : bytes ≡ text ++ rest
  pub rest_fits : IsBytes rest

-- ---- numbers

pub two_takes : (bytes : List ℕ) (x : ℕ × List ℕ) → IsBytes bytes → two_at bytes ≡ Some x → Takes bytes (two x.0) x.1
    × (x.0 < 65536)
two_takes [] x fits e = absurd cc
two_takes (h ∷ []) x fits e = absurd cc
two_takes (h ∷ l ∷ rest) x fits e =
    let high : h < 256 = fits 0 in
    let low : l < 256 = fits 1 in
    let e1 : (256 * h + l) / 256 ≡ h = omega arith in
    let e2 : (256 * h + l) % 256 ≡ l = omega arith in
    subst (λ (y : ℕ × List ℕ). Takes (h ∷ l ∷ rest) (two y.0) y.1 × (y.0 < 65536)) (some_is (256 * h + l, rest) x e)
    (record { parts = rw (e1, e2) refl; rest_fits = λ i. fits (suc (suc i)) }, omega arith)

pub two_is : (n : ℕ) → 256 * (n / 256) + n % 256 ≡ n
two_is n = omega arith

pub two_again : (n : ℕ) (rest : List ℕ) → two_at (two n ++ rest) ≡ Some (n, rest)
two_again n rest = let e : 256 * (n / 256) + n % 256 ≡ n = omega arith in rw e refl

pub one_takes : (bytes : List ℕ) (x : ℕ × List ℕ) → IsBytes bytes → one_at bytes ≡ Some x → Takes bytes (x.0 ∷ []) x.1
    × (x.0 < 256)
one_takes [] x fits e = absurd cc
one_takes (n ∷ rest) x fits e =
    subst (λ (y : ℕ × List ℕ). Takes (n ∷ rest) (y.0 ∷ []) y.1 × (y.0 < 256)) (some_is (n, rest) x e)
    (record { parts = refl; rest_fits = λ i. fits (suc i) }, fits 0)

-- ---- parts

pub record Parts (n : ℕ) (bytes front rest : List ℕ) : Type 0 where
  pub takes : Takes bytes front rest
  pub len : length front ≡ n
  pub front_fits : IsBytes front

pub split_takes : (n : ℕ) (bytes : List ℕ) (x : List ℕ × List ℕ) → IsBytes bytes → split_at n bytes ≡ Some x
    → Parts n bytes x.0 x.1
split_takes n bytes x fits e =
    let g = if_none (ltb (length bytes) n) (take n bytes, drop n bytes) x e in
    let long : n ≤ length bytes = ltb-false _ _ g.0 in
    subst (λ (y : List ℕ × List ℕ). Parts n bytes y.0 y.1) g.1 (record {
      takes = record { parts = sym (take-append-drop n bytes); rest_fits = IsBytes-drop n bytes fits };
      len = omega (arith, length-take n bytes);
      front_fits = IsBytes-take n bytes fits;
    })

pub split_again : (n : ℕ) (front rest : List ℕ) → length front ≡ n → split_at n (front ++ rest) ≡ Some (front, rest)
split_again n front rest len =
    let long : ltb (length (front ++ rest)) n ≡ false = le-ltb _ _ (omega (arith, length-append front rest)) in
    rw (long, take_at front rest n len, drop_at front rest n len) refl

-- ---- tokens and names

pub token_takes : (bytes : List ℕ) (x : List ℕ × List ℕ) → IsBytes bytes → token_at bytes ≡ Some x → Takes bytes x.0 x.1
    × IsToken x.0
unfolding token_at
token_takes bytes x fits e =
    let a = bind_some (split_at 64 bytes) (λ p. token_of p.0 >>= λ t. Some (t, p.1)) x e in
    let b = bind_some (token_of a.0.0) (λ t. Some (t, a.0.1)) x a.2 in
    let p = split_takes 64 bytes a.0 fits a.1 in
    let g = if_some (is_token a.0.0) a.0.0 b.0 b.1 in
    let moved : Takes bytes b.0 a.0.1
    × IsToken b.0 = subst (λ (t : List ℕ). Takes bytes t a.0.1 × IsToken t) g.1 (p.takes, g.0) in
    subst (λ (y : List ℕ × List ℕ). Takes bytes y.0 y.1 × IsToken y.0) (some_is (b.0, a.0.1) x b.2) moved

pub token_again : (token rest : List ℕ) → IsToken token → token_at (token ++ rest) ≡ Some (token, rest)
unfolding token_at
token_again token rest h =
    let len : length token ≡ 64 = eqb-true _ _ (both_true (eqb (length token) 64) (list_all is_digit token) h).0 in
    rw (split_again 64 token rest len, h) refl

pub text_takes : (bytes t : List ℕ) → text_of bytes ≡ Some t → (bytes ≡ t) × IsText t
text_takes bytes t e =
    let g = if_some (is_utf8 bytes) bytes t e in
    subst (λ (y : List ℕ). (bytes ≡ y) × IsText y) g.1 (refl, g.0)

pub text_again : (t : List ℕ) → IsText t → text_of t ≡ Some t
text_again t h = rw h refl

pub record IsNamed (bytes name rest : List ℕ) : Type 0 where
  pub parts : bytes ≡ named name ++ rest
  pub rest_fits : IsBytes rest
  pub short : length name < 256
  pub is_text : IsText name

pub name_takes : (bytes : List ℕ) (x : List ℕ × List ℕ) → IsBytes bytes → name_at bytes ≡ Some x
    → IsNamed bytes x.0 x.1
unfolding name_at
name_takes bytes x fits e =
    let a = bind_some (one_at bytes) (λ n. split_at n.0 n.1 >>= λ p. text_of p.0 >>= λ t. Some (t, p.1)) x e in
    let b = bind_some (split_at a.0.0 a.0.1) (λ p. text_of p.0 >>= λ t. Some (t, p.1)) x a.2 in
    let d = bind_some (text_of b.0.0) (λ t. Some (t, b.0.1)) x b.2 in
    let one = one_takes bytes a.0 fits a.1 in
    let p = split_takes a.0.0 a.0.1 b.0 one.0.rest_fits b.1 in
    let t = text_takes b.0.0 d.0 d.1 in
    let whole : bytes ≡ named b.0.0 ++ b.0.1 = one.0.parts ∙ ap (λ (r : List ℕ). a.0.0 ∷ r) p.takes.parts
    ∙ ap (λ (n : ℕ). n ∷ (b.0.0 ++ b.0.1)) (sym p.len) in
    let moved : IsNamed bytes d.0 b.0.1 = subst (λ (n : List ℕ). IsNamed bytes n b.0.1) t.0
    (record
    { parts = whole; rest_fits = p.takes.rest_fits; short = omega (arith, p.len, one.1); is_text = rw t.0 t.1 }) in
    subst (λ (y : List ℕ × List ℕ). IsNamed bytes y.0 y.1) (some_is (d.0, b.0.1) x d.2) moved

pub name_again : (name rest : List ℕ) → IsText name → name_at (named name ++ rest) ≡ Some (name, rest)
unfolding name_at
name_again name rest h = rw (split_again (length name) name rest refl, h) refl

-- ---- the number of a window, and why a peer goes

byte_is : (n : ℕ) (b : Bool) → eqb n 0xFF ≡ b → n ≡ window_byte (cond b None (Some n))
byte_is n true e = eqb-true _ _ e
byte_is n false e = refl

byte_fits : (n : ℕ) (b : Bool) → n < 256 → eqb n 0xFF ≡ b → IfSome (cond b None (Some n)) (λ n. n < 255)
byte_fits n true lt e = tt
byte_fits n false lt e = let ne : n ≡ 0xFF → ⊥ = grind arith in omega arith

pub window_takes : (bytes : List ℕ) (x : Option ℕ × List ℕ) → IsBytes bytes → window_at bytes ≡ Some x
    → Takes bytes (window_byte x.0 ∷ []) x.1 × IfSome x.0 (λ n. n < 255)
unfolding window_at
window_takes bytes x fits e =
    let a = bind_some (one_at bytes) (λ n. Some (window_of n.0, n.1)) x e in
    let one = one_takes bytes a.0 fits a.1 in
    let byte : a.0.0 ≡ window_byte (window_of a.0.0) = byte_is a.0.0 (eqb a.0.0 0xFF) refl in
    let whole : bytes ≡ window_byte (window_of a.0.0) ∷ a.0.1 = one.0.parts ∙ ap (λ (n : ℕ). n ∷ a.0.1) byte in
    subst (λ (y : Option ℕ × List ℕ). Takes bytes (window_byte y.0 ∷ []) y.1 × IfSome y.0 (λ n. n < 255))
    (some_is (window_of a.0.0, a.0.1) x a.2)
    (record { parts = whole; rest_fits = one.0.rest_fits }, byte_fits a.0.0 (eqb a.0.0 0xFF) one.1 refl)

window_is : (w : Option ℕ) → IfSome w (λ n. n < 255) → window_of (window_byte w) ≡ w
window_is None h = refl
window_is (Some n) h = let ne : eqb n 0xFF ≡ false = grind arith in rw ne refl

pub window_again : (w : Option ℕ) (rest : List ℕ) → IfSome w (λ n. n < 255)
    → window_at (window_byte w ∷ rest) ≡ Some (w, rest)
unfolding window_at
window_again w rest h = rw (window_is w h) refl

-- one test of a chain
chosen : {A : Type 0} (b : Bool) (x z : A) (y : Option A) (P : Type 0) → cond b (Some x) y ≡ Some z
    → (b ≡ true → x ≡ z → P) → (y ≡ Some z → P) → P
chosen true x z y P e f g = f refl (some_is x z e)
chosen false x z y P e f g = g e

-- an item that is found passes the test
pub found : {A : Type 0} (test : A → Bool) (xs : List A) (z : A) → find test xs ≡ Some z → test z ≡ true
found test [] z e = absurd cc
found test (x ∷ xs) z e = chosen (test x) x z (find test xs) (test z ≡ true) e
    (λ passes same. ap test (sym same) ∙ passes) (found test xs z)

reason_is : (n : ℕ) (w : Why) → why_of n ≡ Some w → n ≡ reason w
reason_is n w e = eqb-true n (reason w) (found (λ v. eqb n (reason v)) all_reasons w e)

pub why_takes : (bytes : List ℕ) (x : Why × List ℕ) → IsBytes bytes → why_at bytes ≡ Some x
    → Takes bytes (reason x.0 ∷ []) x.1
unfolding why_at
why_takes bytes x fits e =
    let a = bind_some (one_at bytes) (λ n. why_of n.0 >>= λ w. Some (w, n.1)) x e in
    let b = bind_some (why_of a.0.0) (λ w. Some (w, a.0.1)) x a.2 in
    let one = one_takes bytes a.0 fits a.1 in
    let whole : bytes ≡ reason b.0 ∷ a.0.1 = one.0.parts ∙ ap (λ (n : ℕ). n ∷ a.0.1) (reason_is a.0.0 b.0 b.1) in
    subst (λ (y : Why × List ℕ). Takes bytes (reason y.0 ∷ []) y.1) (some_is (b.0, a.0.1) x b.2)
    (record { parts = whole; rest_fits = one.0.rest_fits })

why_is : (w : Why) → why_of (reason w) ≡ Some w
why_is why.Detached = refl
why_is _ = refl

pub why_again : (w : Why) (rest : List ℕ) → why_at (reason w ∷ rest) ≡ Some (w, rest)
unfolding why_at
why_again w rest = rw (why_is w) refl

-- ---- the end of a payload

pub end_takes : (bytes : List ℕ) (u : Unit {0}) → end_of bytes ≡ Some u → bytes ≡ []
end_takes bytes u e = nil_from_length bytes (eqb-true _ _ (if_some (eqb (length bytes) 0) tt u e).0)

positive : (n : ℕ) → eqb n 0 ≡ false → 0 < n
positive n e = grind (arith, nat_tests)

not_zero : (n : ℕ) → 0 < n → eqb n 0 ≡ false
not_zero n h = grind (arith, nat_tests)

pub some_takes : (bytes b : List ℕ) → some_of bytes ≡ Some b → (bytes ≡ b) × (0 < length b)
some_takes bytes b e =
    let g = if_none (eqb (length bytes) 0) bytes b e in
    let t : 0 < length bytes = positive (length bytes) g.0 in
    subst (λ (y : List ℕ). (bytes ≡ y) × (0 < length y)) g.1 (refl, t)

pub some_again : (b : List ℕ) → 0 < length b → some_of b ≡ Some b
some_again b h = rw (not_zero (length b) h) refl
