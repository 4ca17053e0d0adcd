-- A title is read as text.
use Rattle.session.proofs.Vocabulary.{◌≡◌, ℕ, List, ap, ◌∙◌, refl, Bool, true, false, cond, Some, None, option_copied}
use Rattle.session.proofs.Vocabulary.{Result, Ok, Err, MatchResult, IsUtf8, is_utf8, if_utf8}
use Rattle.std.specs.Borrow.{Bor}
use Rattle.std.specs.Result.{result_ok}
use Rattle.std.proofs.lemmas.Str.{IsUtf8-from_is_utf8, is_utf8-from_IsUtf8}

as_title : (bytes : List ℕ) (is : Bool) → is ≡ true → Some bytes ≡ cond is (Some bytes) None
as_title bytes true e = refl
as_title bytes false e = cc

no_title : (bytes : List ℕ) (is : Bool) → (is ≡ true → ⊥) → None ≡ cond is (Some bytes) None
no_title bytes true h = absurd (h refl)
no_title bytes false h = refl

pub title_read : {E : Type 0} (Why : E → Type 0) (r : Result (Bor (List ℕ)) E) (bytes : List ℕ)
    → MatchResult r (λ title. (title.now ≡ bytes) × IsUtf8 bytes) (λ e. ¬ IsUtf8 bytes × Why e)
    → option_copied (result_ok r) ≡ if_utf8 (Some bytes)
title_read Why (Ok title) bytes h = ap Some h.0 ∙ as_title bytes (is_utf8 bytes) (is_utf8-from_IsUtf8 bytes h.1)
title_read Why (Err e) bytes h = no_title bytes (is_utf8 bytes) (λ is. h.0 (IsUtf8-from_is_utf8 bytes is))
