-- Actions in turn.
use Rattle.vt_screen.proofs.Vocabulary.{◌≡◌, ℕ, List, [], ◌∷◌, ◌++◌, Option, Some, None, refl, sym, ap, ◌∙◌, subst}
use Rattle.vt_screen.proofs.Vocabulary.{append-nil, Code, Action, Print, alone, Screen, acted, all_acted}
use Rattle.vt_screen.proofs.Vocabulary.{all_acted_places, prints, Stored, Performs}
use Rattle.terminal_model.specs.Reports.{all_answered}

-- characters aren't answered
pub answers_prints : (x : Screen) (codes : List ℕ) → all_answered x (prints codes) ≡ []
answers_prints x [] = refl
answers_prints x (c ∷ codes) = answers_prints (acted x (Print (Code c))) codes

performed : (old new : Stored) (actions : List Action) → Performs old actions new → new ≡ record
    { screen = all_acted old.screen actions; places = all_acted_places old.screen actions old.places }
performed old new actions h =
    ap (λ (x : Screen). record { screen = x; places = new.places }) h.screen
    ∙ ap (λ (ps : List ℕ). record { screen = all_acted old.screen actions; places = ps }) h.places

-- at most one action before others
pub performs-on : (old mid new : Stored) (first : Option Action) (later : List Action) → Performs old (alone first) mid
    → Performs mid later new → Performs old (alone first ++ later) new
performs-on old mid new None later h k = subst (λ (x : Stored). Performs x later new) (performed old mid [] h) k
performs-on old mid new (Some a) later h k =
    let rest = subst (λ (x : Stored). Performs x later new) (performed old mid (a ∷ []) h) k in
    record {
      screen = rest.screen;
      places = rest.places;
      silent = ap (λ v. v ++ all_answered (acted old.screen a) later) (sym (append-nil _) ∙ h.silent) ∙ rest.silent;
    }

pub performs-none : (x : Stored) → Performs x [] x
performs-none x = record { screen = refl; places = refl; silent = refl }
