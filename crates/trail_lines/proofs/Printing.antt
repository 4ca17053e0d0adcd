-- What loops print, from its end; titles.
use Rattle.trail_lines.proofs.Vocabulary.{◌≡◌, ℕ, List, [], ◌∷◌, ◌++◌, ap, refl, sym, ◌∙◌, append_assoc, append-nil}
use Rattle.trail_lines.proofs.Vocabulary.{Bool, true, false, cond, Option, Some, None, option_copied, Result, Ok}
use Rattle.trail_lines.proofs.Vocabulary.{Err, MatchResult, codes, map, IsUtf8, is_utf8, flat_map, map_push, UserId}
use Rattle.trail_lines.proofs.Vocabulary.{name_of, behind, title_of}
use Rattle.std.specs.Borrow.{Bor}
use Rattle.std.specs.Result.{result_ok}
use Rattle.std.proofs.lemmas.Str.{IsUtf8-from_is_utf8, is_utf8-from_IsUtf8}
use Rattle.std.proofs.lemmas.List.Concat.{flat_map-append}

pub behind_push : (separator : List ℕ) (items : List (List ℕ)) (item : List ℕ)
    → behind separator (items ++ item ∷ []) ≡ behind separator items ++ (separator ++ item)
behind_push separator [] item = ap (λ more. separator ++ more) (append-nil item)
behind_push separator (first ∷ items) item =
    ap (λ more. separator ++ (first ++ more)) (behind_push separator items item)
    ∙ ap (λ more. separator ++ more) (sym (append_assoc first (behind separator items) (separator ++ item)))
    ∙ sym (append_assoc separator (first ++ behind separator items) (separator ++ item))

as_title : (bytes : List ℕ) (is : Bool) → is ≡ true → Some bytes ≡ cond is (Some bytes) None
as_title bytes true e = refl
as_title bytes false e = cc

no_title : (bytes : List ℕ) (is : Bool) → (is ≡ true → ⊥) → None ≡ cond is (Some bytes) None
no_title bytes true h = absurd (h refl)
no_title bytes false h = refl

pub title_read : {E : Type 0} (Why : E → Type 0) (r : Result (Bor (List ℕ)) E) (bytes : List ℕ)
    → MatchResult r (λ title. (title.now ≡ bytes) × IsUtf8 bytes) (λ e. ¬ IsUtf8 bytes × Why e)
    → option_copied (result_ok r) ≡ title_of bytes
title_read Why (Ok title) bytes h = ap Some h.0 ∙ as_title bytes (is_utf8 bytes) (is_utf8-from_IsUtf8 bytes h.1)
title_read Why (Err e) bytes h = no_title bytes (is_utf8 bytes) (λ is. h.0 (IsUtf8-from_is_utf8 bytes is))

abbrev others_text : List UserId → List ℕ
others_text users = behind (codes ",") (map name_of users)

-- one name more, after a comma
pub one_more : (out₀ out₁ out₂ out₃ : List ℕ) (users : List UserId) (user : UserId) (more : List UserId)
    → out₁ ≡ out₀ ++ others_text users → out₂ ≡ out₁ ++ codes "," → out₃ ≡ out₂ ++ name_of user
    → more ≡ users ++ user ∷ [] → out₃ ≡ out₀ ++ others_text more
one_more out₀ out₁ out₂ out₃ users user more e₁ e₂ e₃ e =
    e₃ ∙ ap (λ o. o ++ name_of user) e₂ ∙ append_assoc out₁ (codes ",") (name_of user)
    ∙ ap (λ o. o ++ (codes "," ++ name_of user)) e₁ ∙ append_assoc out₀ (others_text users) (codes "," ++ name_of user)
    ∙ ap (λ o. out₀ ++ o)
    (sym (behind_push (codes ",") (map name_of users) (name_of user))
    ∙ ap (behind (codes ",")) (sym (map_push name_of users user)))
    ∙ ap (λ u. out₀ ++ others_text u) (sym e)

-- what is printed of one more, after a mark
pub mark_more : {X : Type 0} (text : X → List ℕ) (out₀ out₁ out₂ out₃ mark own : List ℕ) (done more : List X) (x : X)
    → out₁ ≡ out₀ ++ flat_map text done → out₂ ≡ out₁ ++ mark → out₃ ≡ out₂ ++ own
    → text x ≡ mark ++ own → more ≡ done ++ x ∷ [] → out₃ ≡ out₀ ++ flat_map text more
mark_more text out₀ out₁ out₂ out₃ mark own done more x e₁ e₂ e₃ is e =
    e₃ ∙ ap (λ o. o ++ own) (e₂ ∙ ap (λ o. o ++ mark) e₁)
    ∙ append_assoc (out₀ ++ flat_map text done) mark own ∙ append_assoc out₀ (flat_map text done) (mark ++ own)
    ∙ ap (λ o. out₀ ++ (flat_map text done ++ o)) (sym is ∙ sym (append-nil (text x)))
    ∙ ap (λ o. out₀ ++ o) (sym (flat_map-append text done (x ∷ [])))
    ∙ ap (λ xs. out₀ ++ flat_map text xs) (sym e)
