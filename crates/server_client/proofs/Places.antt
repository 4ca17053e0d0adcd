-- The folder of a path, by its last '/'.
use Rattle.std.proofs.Common.{◌≡◌, ◌∙◌, ℕ, List, [], ◌∷◌, ◌++◌, take, drop, refl, sym, ap, ap₂, subst, arith, eqb}
use Rattle.std.proofs.Common.{Option, None}
use Rattle.std.specs.List.{Contains}
use Rattle.std.specs.Option.{MatchOption}
use Rattle.std.specs.Str.{NoCharPasses}
use Rattle.std.specs.Str.Pattern.{RFindsChar, SplitsAroundMatch}
use Rattle.std.proofs.lemmas.Grind.{get_or_default_zero}
use Rattle.std.proofs.lemmas.List.{take-append-drop}
use Rattle.std.proofs.lemmas.List.Elements.{Contains-append_right}
use Rattle.std.proofs.lemmas.Str.Pattern.{NoCharPasses-char, drop_at_char}
use Rattle.server_client.specs.Comebacks.{IsIn}

-- what a match says of no value
pub none_of : {A : Type 0} (o : Option A) (P : Type 0) (Q : A → Type 0) → o ≡ None → MatchOption o P Q → P
none_of o P Q none h = subst (λ p. MatchOption p P Q) none h

has_none : (l : List ℕ) → NoCharPasses (λ d. eqb d 47) l → Contains l 47 → ⊥
has_none l none c =
    NoCharPasses-char 47 l c.0 none (omega arith) c.1 (sym (get_or_default_zero l c.0 47 c.1) ∙ c.2)

has_slash : (folder name : List ℕ) → Contains (folder ++ 47 ∷ name) 47
has_slash folder name = Contains-append_right folder (47 ∷ name) 47 (0, omega arith, refl)

-- a path without '/' is in no folder
pub in_none : (path : List ℕ) → NoCharPasses (λ d. eqb d 47) path → (folder : List ℕ) → IsIn path folder → folder ≡ []
in_none path none folder h =
    absurd (has_none path none (subst (λ l. Contains l 47) (sym h.whole) (has_slash folder h.name)))

-- what comes before the last '/' is the folder
pub in_front : (path front back : List ℕ) → SplitsAroundMatch (RFindsChar 47) path front back → IsIn path front
in_front path front back (i, j, found, is_front, is_back, a, b, d) = record {
  name = back;
  whole =
      sym (take-append-drop i path) ∙ ap (λ l. take i path ++ l) (drop_at_char 47 path i j found.1 (omega arith))
      ∙ ap₂ (λ f b. f ++ 47 ∷ b) (sym is_front) (sym is_back);
  last = λ c. has_none (drop j path) found.0 (subst (λ l. Contains l 47) is_back c);
}

-- a path has no other folder than the root if nothing comes before its last '/'
pub in_root : (path front folder : List ℕ) → IsIn path front → front ≡ [] → IsIn path folder → folder ≡ []
in_root path front [] h none g = refl
in_root path front (x ∷ folder) h none g =
    let same : 47 ∷ h.name ≡ x ∷ (folder ++ 47 ∷ g.name) =
    ap (λ f. f ++ 47 ∷ h.name) (sym none) ∙ sym h.whole ∙ g.whole in
    absurd (h.last (subst (λ l. Contains l 47) (sym (ap (λ (l : List ℕ). drop 1 l) same)) (has_slash folder g.name)))
