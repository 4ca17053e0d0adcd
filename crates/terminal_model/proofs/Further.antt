-- First frames, acts one after another, and the functions of frames.
use Rattle.terminal_model.proofs.Vocabulary.{nat_tests, common_steps, ◌≡◌, ℕ, Bool, List, [], ◌∷◌, ◌++◌, Some, None}
use Rattle.terminal_model.proofs.Vocabulary.{refl, sym, arith, append-nil, spelling, Esc, Csi, Func, Action, Page}
use Rattle.terminal_model.proofs.Vocabulary.{Screen, IsSound, plain_sequence, private_sequence, rendered}
use Rattle.terminal_model.proofs.Vocabulary.{private_mode_set, Act, ready, Draws, IsListed, IsDrawn, AreSpelled}
use Rattle.terminal_model.proofs.Vocabulary.{frame_start, IsPlain, mode_final, keypad_final}
use Rattle.terminal_model.specs.Shows.{blank_view}
use Rattle.terminal_model.proofs.Sound.{IsPage-blank, tabs-start}

-- the beginning of a first frame

pub IsSound-frame_start : (x : Screen) → IsSound x → IsSound (frame_start x)
IsSound-frame_start x h = grind (arith, common_steps, IsPage-blank, tabs-start)

pub IsPlain-frame_start : (x : Screen) → IsSound x → IsPlain (frame_start x)
IsPlain-frame_start x h = grind (arith, common_steps, IsSound-frame_start)

pub IsDrawn-frame_start : (x : Screen) → IsSound x
    → IsDrawn (blank_view x.state.rows x.state.columns) (ready (frame_start x))
IsDrawn-frame_start x h = grind (arith, common_steps)

-- acts, one after another

pub draws-append : (old page : Page) (a b : List Act) → Draws old page a → Draws old page b → Draws old page (a ++ b)
draws-append old page a b h k = grind (arith, common_steps)

pub spelled-append : (a b : List ℕ) (as' bs : List Act) → AreSpelled a as' → AreSpelled b bs
    → AreSpelled (a ++ b) (as' ++ bs)
spelled-append a b as' bs h k = grind (arith, common_steps)

pub spelled-one : (x : Screen) (f : Func) → AreSpelled (spelling f) (record { before = x; func = f } ∷ [])
spelled-one x f = sym (append-nil (spelling f))

-- listed functions

pub cursor-listed : (rows line column : ℕ) → IsListed rows (Csi None (line ∷ column ∷ []) [] 0x48)
unfolding plain_sequence
cursor-listed rows line column = record { acts = omega arith; named = refl; in_order = refl }

pub cells-listed : (rows n : ℕ) → IsListed rows (Csi None (n ∷ []) [] 0x58)
unfolding plain_sequence
cells-listed rows n = record { acts = omega arith; named = refl; in_order = refl }

pub line-listed : (rows : ℕ) → IsListed rows (Csi None (0 ∷ []) [] 0x4B)
unfolding plain_sequence
line-listed rows = record { acts = omega arith; named = refl; in_order = refl }

pub rendered-listed : (rows n : ℕ) (a : Action) → rendered n ≡ Some a → IsListed rows (Csi None (n ∷ []) [] 0x6D)
unfolding plain_sequence
rendered-listed rows n a h = grind (arith, nat_tests)

pub mode-listed : (rows : ℕ) (on : Bool) (n : ℕ) (a : Action) → private_mode_set on n ≡ Some a
    → IsListed rows (Csi (Some 0x3F) (n ∷ []) [] (mode_final on))
unfolding private_sequence
mode-listed rows on n a h = grind (arith, nat_tests)

pub keypad-listed : (rows : ℕ) (on : Bool) → IsListed rows (Esc [] (keypad_final on))
keypad-listed rows on = grind (arith, nat_tests)
