-- The spelling of a function that draws use is one of the functions of a draw.
use Rattle.std.proofs.Common.{◌≡◌, ℕ, ◌+◌, ◌*◌, ◌/◌, ◌%◌, ◌<◌, ◌≤◌, nat_lt, ◌==◌, ◌&&◌, ◌||◌, Bool, true, false, List}
use Rattle.std.proofs.Common.{[], ◌∷◌, ◌++◌, refl, sym, subst, arith, length, Some, None, append-nil, if◌then◌else◌}
use Rattle.std.proofs.Common.{◌⊎◌, length-append}
use lib.Utf8.{scalar_cases}
use Rattle.std.specs.Char.{encode_utf8, IsScalar}
use Rattle.std.specs.List.{list_all, flat_map}
use Rattle.std.proofs.lemmas.Bool.Decides.{nat_tests}
use Prim.Native.Char.{code}
use Rattle.control_parser.specs.declared.parser.Func.{Func}
use Rattle.control_parser.specs.declared.parser.Func.TheVariants.{Print, High, Control, Esc, Csi}
use Rattle.control_parser.specs.Grammar.{is_graphic}
use Rattle.control_parser.specs.Spelling.{spelling, decimal, digit, parameter, numerals, IsGivenInUtf8}
use Rattle.draw_check.specs.Functions.{is_function, is_second, ends_lead, ends_values, ends_control, ends_mode}
use Rattle.draw_check.specs.Functions.{is_value, is_last, is_short}
use Rattle.draw_check.specs.Used.{is_used, is_mode_used}

-- ---- characters

one_byte : (c : ℕ) → is_graphic c ≡ true → c < 0x80 → is_function (c ∷ []) ≡ true
one_byte c h s = grind (arith, nat_tests)

lead : (a : ℕ) (bytes : List ℕ) → 0xC1 < a → a < 0xF5 → ends_lead a bytes ≡ true → is_function (a ∷ bytes) ≡ true
lead a bytes low high ends = grind (arith, nat_tests)

second : (a b : ℕ) → 0x80 ≤ b → b < 0xC0 → (a ≡ 0xC2 → 0xA0 ≤ b) → (a ≡ 0xE0 → 0xA0 ≤ b) → (a ≡ 0xED → b < 0xA0)
    → (a ≡ 0xF0 → 0x90 ≤ b) → (a ≡ 0xF4 → b < 0x90) → is_second a b ≡ true
second a b low high two three surrogates four most = grind (arith, nat_tests)

after_two : (a b : ℕ) → a < 0xE0 → is_second a b ≡ true → ends_lead a (b ∷ []) ≡ true
after_two a b less is = grind (arith, nat_tests)

after_three : (a b c : ℕ) → 0xE0 ≤ a → a < 0xF0 → is_second a b ≡ true → 0x80 ≤ c → c < 0xC0
    → ends_lead a (b ∷ c ∷ []) ≡ true
after_three a b c more less is low high = grind (arith, nat_tests)

after_four : (a b c d : ℕ) → 0xF0 ≤ a → is_second a b ≡ true → 0x80 ≤ c → c < 0xC0 → 0x80 ≤ d → d < 0xC0
    → ends_lead a (b ∷ c ∷ d ∷ []) ≡ true
after_four a b c d more is low high low' high' = grind (arith, nat_tests)

two_bytes : (c : ℕ) → is_graphic c ≡ true → 0x80 ≤ c → c < 0x800
    → is_function ((192 + c / 64) ∷ (128 + c % 64) ∷ []) ≡ true
two_bytes c h more less =
    let graphic : 0xA0 ≤ c = grind (arith, nat_tests) in
    let is : is_second (192 + c / 64) (128 + c % 64) ≡ true = second (192 + c / 64) (128 + c % 64) (omega arith)
    (omega arith) (λ e. omega arith) (λ e. omega arith) (λ e. omega arith) (λ e. omega arith) (λ e. omega arith) in
    lead (192 + c / 64) ((128 + c % 64) ∷ []) (omega arith) (omega arith)
    (after_two (192 + c / 64) (128 + c % 64) (omega arith) is)

three_bytes : (c : ℕ) → IsScalar c → 0x800 ≤ c → c < 0x10000
    → is_function ((224 + c / 4096) ∷ (128 + c / 64 % 64) ∷ (128 + c % 64) ∷ []) ≡ true
three_bytes c s more less =
    let range : (c < 55296) ⊎ ((57344 ≤ c) × (c < 1114112)) = scalar_cases c s in
    let a : ℕ = 224 + c / 4096 in
    let b : ℕ = 128 + c / 64 % 64 in
    let is : is_second a b ≡ true = second a b (omega arith) (omega arith) (λ e. omega arith) (λ e. omega arith)
    (λ e. omega arith) (λ e. omega arith) (λ e. omega arith) in
    lead a (b ∷ (128 + c % 64) ∷ []) (omega arith) (omega arith)
    (after_three a b (128 + c % 64) (omega arith) (omega arith) is (omega arith) (omega arith))

four_bytes : (c : ℕ) → 0x10000 ≤ c → c < 0x110000
    → is_function ((240 + c / 262144) ∷ (128 + c / 4096 % 64) ∷ (128 + c / 64 % 64) ∷ (128 + c % 64) ∷ []) ≡ true
four_bytes c more less =
    let a : ℕ = 240 + c / 262144 in
    let b : ℕ = 128 + c / 4096 % 64 in
    let is : is_second a b ≡ true = second a b (omega arith) (omega arith) (λ e. omega arith) (λ e. omega arith)
    (λ e. omega arith) (λ e. omega arith) (λ e. omega arith) in
    lead a (b ∷ (128 + c / 64 % 64) ∷ (128 + c % 64) ∷ []) (omega arith) (omega arith)
    (after_four a b (128 + c / 64 % 64) (128 + c % 64) (omega arith) is (omega arith) (omega arith) (omega arith)
    (omega arith))

glyph : (c : ℕ) → is_graphic c ≡ true → IsScalar c → is_function (encode_utf8 c) ≡ true
unfolding encode_utf8
glyph c h s = go (nat_lt c 128) (nat_lt c 2048) (nat_lt c 65536) refl refl refl
  where
    go : (x y z : Bool) → nat_lt c 128 ≡ x → nat_lt c 2048 ≡ y → nat_lt c 65536 ≡ z
        → is_function (encode_utf8 c) ≡ true
    go true y z e f g = rw e (one_byte c h (grind (arith, nat_tests)))
    go false true z e f g = rw (e, f) (two_bytes c h (grind (arith, nat_tests)) (grind (arith, nat_tests)))
    go false false true e f g = rw (e, f, g) (three_bytes c s (grind (arith, nat_tests)) (grind (arith, nat_tests)))
    go false false false e f g = rw (e, f, g) (four_bytes c (grind (arith, nat_tests)) (grind (arith, nat_tests)))

-- ---- values

all_append : (xs ys : List ℕ) → list_all is_value xs ≡ true → list_all is_value ys ≡ true
    → list_all is_value (xs ++ ys) ≡ true
all_append [] ys h k = k
all_append (x ∷ xs) ys h k = go (is_value x) refl h (all_append xs ys)
  where
    go : (b : Bool) → is_value x ≡ b → (b && list_all is_value xs) ≡ true
        → (list_all is_value xs ≡ true → list_all is_value ys ≡ true → list_all is_value (xs ++ ys) ≡ true)
        → list_all is_value (x ∷ xs ++ ys) ≡ true
    go true e i later = rw e (later i k)
    go false e i later = absurd (cc)

digit_value : (n : ℕ) → is_value (digit n) ≡ true
digit_value n = grind (arith, nat_tests)

decimal_values : (n : ℕ) → list_all is_value (decimal n) ≡ true
unfolding decimal
decimal_values n = go (nat_lt n 10) (nat_lt n 100) (nat_lt n 1000) refl refl refl
  where
    go : (x y z : Bool) → nat_lt n 10 ≡ x → nat_lt n 100 ≡ y → nat_lt n 1000 ≡ z
        → list_all is_value (decimal n) ≡ true
    go true y z e f g = rw (e, digit_value n) refl
    go false true z e f g = rw (e, f, digit_value (n / 10), digit_value n) refl
    go false false true e f g = rw (e, f, g, digit_value (n / 100), digit_value (n / 10), digit_value n) refl
    go false false false e f g =
        rw (e, f, g, digit_value (n / 1000), digit_value (n / 100), digit_value (n / 10), digit_value n) refl

decimal_short : (n : ℕ) → length (decimal n) ≤ 4
unfolding decimal
decimal_short n = go (nat_lt n 10) (nat_lt n 100) (nat_lt n 1000) refl refl refl
  where
    go : (x y z : Bool) → nat_lt n 10 ≡ x → nat_lt n 100 ≡ y → nat_lt n 1000 ≡ z → length (decimal n) ≤ 4
    go true y z e f g = rw e (omega arith)
    go false true z e f g = rw (e, f) (omega arith)
    go false false true e f g = rw (e, f, g) (omega arith)
    go false false false e f g = rw (e, f, g) (omega arith)

parameter_values : (n : ℕ) → list_all is_value (parameter n) ≡ true
parameter_values n = go (n == 0) refl
  where
    go : (b : Bool) → n == 0 ≡ b → list_all is_value (parameter n) ≡ true
    go true e = rw e refl
    go false e = rw e (decimal_values n)

parameter_short : (n : ℕ) → length (parameter n) ≤ 4
parameter_short n = go (n == 0) refl
  where
    go : (b : Bool) → n == 0 ≡ b → length (parameter n) ≤ 4
    go true e = rw e (omega arith)
    go false e = rw e (decimal_short n)

abbrev later : List ℕ → List ℕ
later ns = flat_map (λ m. 0x3B ∷ parameter m) ns

later_values : (ns : List ℕ) → list_all is_value (later ns) ≡ true
later_values [] = refl
later_values (n ∷ ns) = all_append (parameter n) (later ns) (parameter_values n) (later_values ns)

later_short : (ns : List ℕ) → length (later ns) ≤ 5 * length ns
later_short [] = omega arith
later_short (n ∷ ns) =
    let here = parameter_short n in
    let there = later_short ns in
    simp length-append (omega arith)

numerals_values : (ns : List ℕ) → list_all is_value (numerals ns) ≡ true
numerals_values [] = refl
numerals_values (n ∷ ns) = all_append (parameter n) (later ns) (parameter_values n) (later_values ns)

numerals_short : (ns : List ℕ) → length ns ≤ 16 → length (numerals ns) ≤ 79
numerals_short [] h = omega arith
numerals_short (n ∷ ns) h =
    let here = parameter_short n in
    let there = later_short ns in
    simp length-append (omega arith)

-- ---- control sequences

values_end : (text : List ℕ) (last n : ℕ) → list_all is_value text ≡ true → n + length text ≤ 79 → is_last last ≡ true
    → ends_values n (text ++ last ∷ []) ≡ true
values_end [] last n h few is =
    let none : is_value last ≡ false = grind (arith, nat_tests) in rw (none, is) refl
values_end (b ∷ text) last n h few is = go (is_value b) (nat_lt n 79) refl refl h
    (λ k. values_end text last (n + 1) k (omega arith) is)
  where
    go : (v l : Bool) → is_value b ≡ v → nat_lt n 79 ≡ l → (v && list_all is_value text) ≡ true
        → (list_all is_value text ≡ true → ends_values (n + 1) (text ++ last ∷ []) ≡ true)
        → ends_values n (b ∷ text ++ last ∷ []) ≡ true
    go true true e f i go_on = rw (e, f) (go_on i)
    go true false e f i go_on = absurd (let lots : 79 ≤ n = grind (arith, nat_tests) in omega arith)
    go false l e f i go_on = absurd (cc)

control : (bytes : List ℕ) → ends_values 0 bytes ≡ true → ends_control bytes ≡ true
control [] h = h
control (b ∷ bytes) h = go (b == code "?") refl
  where
    go : (m : Bool) → b == code "?" ≡ m → ends_control (b ∷ bytes) ≡ true
    go true e =
        let is : b ≡ code "?" = grind (arith, nat_tests) in
        absurd (let wrong = subst (λ x. ends_values 0 (x ∷ bytes) ≡ true) is h in cc)
    go false e = rw e h

unmarked : (params : List ℕ) (last : ℕ) → length params ≤ 16 → is_last last ≡ true
    → ends_control ((numerals params ++ []) ++ last ∷ []) ≡ true
unmarked params last few is = rw append-nil (control (numerals params ++ last ∷ [])
    (values_end (numerals params) last 0 (numerals_values params) (omega (arith, numerals_short params few)) is))

switched : (last : ℕ) → (last == code "h" || last == code "l") ≡ true → (n : ℕ) → (n == 1 || n == 25) ≡ true
    → ends_mode ((numerals (n ∷ []) ++ []) ++ last ∷ []) ≡ true
unfolding decimal
switched last h n k = go (n == 1) refl
  where
    go : (b : Bool) → n == 1 ≡ b → ends_mode ((numerals (n ∷ []) ++ []) ++ last ∷ []) ≡ true
    go true e =
        let is : n ≡ 1 = grind (arith, nat_tests) in
        subst (λ m. ends_mode ((numerals (m ∷ []) ++ []) ++ last ∷ []) ≡ true) (sym is) (rw h refl)
    go false e =
        let is : n ≡ 25 = grind (arith, nat_tests) in
        subst (λ m. ends_mode ((numerals (m ∷ []) ++ []) ++ last ∷ []) ≡ true) (sym is) (rw h refl)

turned_off : (n last : ℕ) → (n == 7 && last == code "l") ≡ true
    → ends_mode ((numerals (n ∷ []) ++ []) ++ last ∷ []) ≡ true
unfolding decimal
turned_off n last h =
    let is : n ≡ 7 = grind (arith, nat_tests) in
    let off : last == code "l" ≡ true = grind (arith, nat_tests) in
    subst (λ m. ends_mode ((numerals (m ∷ []) ++ []) ++ last ∷ []) ≡ true) (sym is) (rw off refl)

marked : (params : List ℕ) (last : ℕ) → is_mode_used params last ≡ true
    → ends_mode ((numerals params ++ []) ++ last ∷ []) ≡ true
marked [] last h = absurd (cc)
marked (n ∷ m ∷ more) last h = absurd (cc)
marked (n ∷ []) last h = go (n == 1 || n == 25) refl h
  where
    go : (b : Bool) → (n == 1 || n == 25) ≡ b
        → (if b then last == code "h" || last == code "l" else n == 7 && last == code "l") ≡ true
        → ends_mode ((numerals (n ∷ []) ++ []) ++ last ∷ []) ≡ true
    go true e k = switched last k n e
    go false e k = turned_off n last k

-- ---- functions

short : (last : ℕ) → is_short last ≡ true → is_function (0x1B ∷ last ∷ []) ≡ true
short last h = grind (arith, nat_tests)

coding : (i last : ℕ) → (i == code "%" && last == code "G") ≡ true → is_function (0x1B ∷ i ∷ last ∷ []) ≡ true
coding i last h =
    let is : i ≡ code "%" = grind (arith, nat_tests) in
    let end : last ≡ code "G" = grind (arith, nat_tests) in
    rw (is, end) refl

mode : (mark : ℕ) (params : List ℕ) (last : ℕ) → (mark == code "?" && is_mode_used params last) ≡ true
    → is_function (0x1B ∷ 0x5B ∷ mark ∷ (numerals params ++ []) ++ last ∷ []) ≡ true
mode mark params last h = go (mark == code "?") refl h
  where
    go : (b : Bool) → mark == code "?" ≡ b → (b && is_mode_used params last) ≡ true
        → is_function (0x1B ∷ 0x5B ∷ mark ∷ (numerals params ++ []) ++ last ∷ []) ≡ true
    go true e k = rw e (marked params last k)
    go false e k = absurd (cc)

pub used_is_function : (f : Func) → IsGivenInUtf8 f → is_used f ≡ true → is_function (spelling f) ≡ true
used_is_function (Print c) given used = glyph c given.0.0 given.0.1
used_is_function (High b) given used = absurd (cc)
used_is_function (Control c) given used = absurd (cc)
used_is_function (Esc [] last) given used = short last used
used_is_function (Esc (i ∷ []) last) given used = coding i last used
used_is_function (Esc (i ∷ j ∷ more) last) given used = absurd (cc)
used_is_function (Csi None params [] last) given used = unmarked params last given.0.2 used
used_is_function (Csi (Some mark) params [] last) given used = mode mark params last used
used_is_function (Csi None params (i ∷ more) last) given used = absurd (cc)
used_is_function (Csi (Some mark) params (i ∷ more) last) given used = absurd (cc)
