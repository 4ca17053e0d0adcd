-- Texts as tests.
use Rattle.std.proofs.Common.{◌≡◌, ℕ, Bool, true, false, List, Some, None, refl}
use Rattle.std.specs.Str.{IsUtf8, is_utf8}
use Rattle.std.proofs.lemmas.Str.{IsUtf8-from_is_utf8, is_utf8-from_IsUtf8}
use Rattle.attach_proto.specs.Texts.{text_of}

pub text_is : (bytes made : List ℕ) → IsUtf8 bytes → made ≡ bytes → text_of bytes ≡ Some made
text_is bytes made h e = rw (is_utf8-from_IsUtf8 bytes h, e) refl

not_true : (b : Bool) → (b ≡ true → ⊥) → b ≡ false
not_true true h = absurd (h refl)
not_true false h = refl

pub text_isnt : (bytes : List ℕ) → (IsUtf8 bytes → ⊥) → text_of bytes ≡ None
text_isnt bytes h = let e : is_utf8 bytes ≡ false = not_true (is_utf8 bytes) (λ t. h (IsUtf8-from_is_utf8 bytes t)) in
    rw e refl
