-- Actions that are performed one after another.
use Rattle.vt_screen.proofs.Vocabulary.{◌≡◌, ℕ, List, [], ◌∷◌, ◌++◌, refl, ◌∙◌, Action, Screen, IsSound, acted}
use Rattle.vt_screen.proofs.Vocabulary.{all_acted, IsSound-acted, Display, IsFit, screen_of, acted_places}
use Rattle.vt_screen.proofs.Vocabulary.{all_acted_places}
use Rattle.vt_screen.proofs.SizeLemmas.{acted_columns}
use Rattle.vt_screen.proofs.Widths.{fit_after}

-- a display that performed them is fit
all_acted_columns : (x : Screen) (actions : List Action) → (all_acted x actions).state.columns ≡ x.state.columns
all_acted_columns x [] = refl
all_acted_columns x (a ∷ later) = all_acted_columns (acted x a) later ∙ acted_columns x a

all_acted_sound : (x : Screen) (actions : List Action) → IsSound x → IsSound (all_acted x actions)
all_acted_sound x [] h = h
all_acted_sound x (a ∷ later) h = all_acted_sound (acted x a) later (IsSound-acted x a h)

pub all_acted_fit : (d later : Display) (actions : List Action) → IsFit d
    → screen_of later ≡ all_acted (screen_of d) actions → later.ring.columns ≡ d.ring.columns → IsFit later
all_acted_fit d later actions fit e ring =
    fit_after d later (all_acted (screen_of d) actions) fit e (all_acted_sound (screen_of d) actions fit.sound)
    (all_acted_columns (screen_of d) actions) ring

-- actions after others
pub all_acted-append : (x : Screen) (a b : List Action) → all_acted x (a ++ b) ≡ all_acted (all_acted x a) b
all_acted-append x [] b = refl
all_acted-append x (a ∷ as') b = all_acted-append (acted x a) as' b

pub all_acted_places-append : (x : Screen) (a b : List Action) (places : List ℕ)
    → all_acted_places x (a ++ b) places ≡ all_acted_places (all_acted x a) b (all_acted_places x a places)
all_acted_places-append x [] b places = refl
all_acted_places-append x (a ∷ as') b places = all_acted_places-append (acted x a) as' b (acted_places x.state a places)
