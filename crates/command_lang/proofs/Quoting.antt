-- What is quoted reads back as it was.
use Rattle.command_lang.proofs.Vocabulary.{◌≡◌, ◌≢◌, ℕ, ◌+◌, ◌-◌, ◌*◌, ◌/◌, ◌%◌, ◌<◌, Bool, true, false, ◌&&◌, ◌||◌}
use Rattle.command_lang.proofs.Vocabulary.{cond, List, [], ◌∷◌, ◌++◌, refl, ap, ◌∙◌, arith, Option, Some, None, nat_lt}
use Rattle.command_lang.proofs.Vocabulary.{◌==◌, nat_tests, is_octal, octal_front, Escaped, Character, Double, quoted}
use Rattle.command_lang.specs.Printing.{octal}

backslash_apart : ◌≢◌ {A = ℕ} 0x5C 0x22
backslash_apart h = omega (arith, h)

no_octal : (c : ℕ) (cs : List ℕ) → is_octal c ≡ false → octal_front (c ∷ cs) ≡ None
no_octal c [] h = refl
no_octal c (x ∷ []) h = refl
no_octal c (x ∷ y ∷ cs) h = ap
    (λ b. cond ((b && nat_lt c 0x32) && (is_octal x && is_octal y))
    (Some (((c - 0x30) * 8 + (x - 0x30)) * 8 + (y - 0x30))) None) h

-- the three forms in which a character is written between "
backslashed : (c : ℕ) (cs text : List ℕ) (end : Option (List ℕ)) → is_octal c ≡ false → Double cs text end
    → Double (0x5C ∷ c ∷ cs) (c ∷ text) end
backslashed c cs text end h d = Double.more backslash_apart (Character.escape (Escaped.itself (no_octal c cs h))) d

plainly : (c : ℕ) (cs text : List ℕ) (end : Option (List ℕ)) → c ≢ 0x22 → c ≢ 0x5C → Double cs text end
    → Double (c ∷ cs) (c ∷ text) end
plainly c cs text end h k d = Double.more h (Character.plain k) d

lt_true : (a b : ℕ) → a < b → nat_lt a b ≡ true
lt_true a b h = grind (arith, nat_tests)

octal_value : (c a b d : ℕ) → c < 128 → a ≡ c / 64 % 8 → b ≡ c / 8 % 8 → d ≡ c % 8
    → ((48 + a - 48) * 8 + (48 + b - 48)) * 8 + (48 + d - 48) ≡ c
octal_value c a b d h e f g = omega (arith, h, e, f, g)

octal_is : (c : ℕ) (cs : List ℕ) → c < 128 → octal_front (octal c ++ cs) ≡ Some c
octal_is c cs l =
    let t :
    ((is_octal (48 + c / 64 % 8) && nat_lt (48 + c / 64 % 8) 50) &&
    (is_octal (48 + c / 8 % 8) && is_octal (48 + c % 8))) ≡ true =
    λ j. (((lt_true 47 (48 + c / 64 % 8) (omega arith) j && lt_true (48 + c / 64 % 8) 56 (omega (arith, l)) j) &&
    lt_true (48 + c / 64 % 8) 50 (omega (arith, l)) j)
    && ((lt_true 47 (48 + c / 8 % 8) (omega arith) j && lt_true (48 + c / 8 % 8) 56 (omega arith) j) &&
    (lt_true 47 (48 + c % 8) (omega arith) j && lt_true (48 + c % 8) 56 (omega arith) j))) in
    ap (λ b. cond b (Some (((48 + c / 64 % 8 - 48) * 8 + (48 + c / 8 % 8 - 48)) * 8 + (48 + c % 8 - 48))) None) t
    ∙ ap (λ n. Some n) (octal_value c (c / 64 % 8) (c / 8 % 8) (c % 8) l refl refl refl)

octally : (c : ℕ) (cs text : List ℕ) (end : Option (List ℕ)) → c < 128 → Double cs text end
    → Double (0x5C ∷ (octal c ++ cs)) (c ∷ text) end
octally c cs text end l d = Double.more backslash_apart (Character.escape (Escaped.octal (octal_is c cs l))) d

-- what is written between " reads back
pub quoted_reads : (cs rest : List ℕ) → Double (quoted cs ++ 0x22 ∷ rest) cs (Some rest)
quoted_reads [] rest = Double.closed
quoted_reads (c ∷ cs) rest = by (c == 0x22) (c == 0x5C) (nat_lt c 0x20 || c == 0x7F) refl refl refl
    (quoted_reads cs rest)
  where
    by : (q b o : Bool) → (c == 0x22) ≡ q → (c == 0x5C) ≡ b → (nat_lt c 0x20 || c == 0x7F) ≡ o
        → Double (quoted cs ++ 0x22 ∷ rest) cs (Some rest)
        → Double ((cond (q || b) (0x5C ∷ c ∷ []) (cond o (0x5C ∷ octal c) (c ∷ [])) ++ quoted cs) ++ 0x22 ∷ rest)
        (c ∷ cs) (Some rest)
    by true b o e f g again = backslashed c (quoted cs ++ 0x22 ∷ rest) cs (Some rest) (grind (arith, nat_tests, e))
        again
    by false true o e f g again = backslashed c (quoted cs ++ 0x22 ∷ rest) cs (Some rest) (grind (arith, nat_tests, f))
        again
    by false false true e f g again = octally c (quoted cs ++ 0x22 ∷ rest) cs (Some rest) (grind (arith, nat_tests, g))
        again
    by false false false e f g again = plainly c (quoted cs ++ 0x22 ∷ rest) cs (Some rest)
        (λ k. grind (arith, nat_tests, e, k)) (λ k. grind (arith, nat_tests, f, k)) again
