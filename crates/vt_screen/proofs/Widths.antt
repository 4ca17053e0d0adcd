-- The size of a display's page.
use Rattle.vt_screen.proofs.Vocabulary.{◌≡◌, ℕ, length, sym, ap, ◌∙◌, IsGridSize, line_at, Action, NextLine, Screen}
use Rattle.vt_screen.proofs.Vocabulary.{IsSound, starting, with_state, indexed, moved_to, resized, acted, acted_from}
use Rattle.vt_screen.proofs.Vocabulary.{IsSound-acted, IsSound-resized, IsSound-starting, Display, IsFit, screen_of}
use Rattle.vt_screen.proofs.SizeLemmas.{acted_columns}

-- the cursor's line is as wide as the page
pub line_width : (d : Display) → IsFit d → length (line_at d.page.lines d.state.line) ≡ d.state.columns
line_width d fit = fit.sound.sized.width d.state.line fit.sound.cursor.0

-- a display that shows a sound screen, whose kept lines are as wide, is fit
fit_of : (later : Display) (x : Screen) → screen_of later ≡ x → IsSound x → later.ring.columns ≡ x.state.columns
    → IsFit later
fit_of later x e sound ring = record {
  sound = rw e sound;
  columns = ring ∙ sym (ap (λ (y : Screen). y.state.columns) e);
}

pub fit_after : (d later : Display) (x : Screen) → IsFit d → screen_of later ≡ x → IsSound x
    → x.state.columns ≡ d.state.columns → later.ring.columns ≡ d.ring.columns → IsFit later
fit_after d later x fit e sound w ring = fit_of later x e sound (ring ∙ fit.columns ∙ sym w)

-- a display that performed an action is fit
pub acted_fit : (d later : Display) (a : Action) → IsFit d → screen_of later ≡ acted (screen_of d) a
    → later.ring.columns ≡ d.ring.columns → IsFit later
acted_fit d later a fit e ring = fit_after d later (acted (screen_of d) a) fit e
    (IsSound-acted (screen_of d) a fit.sound) (acted_columns (screen_of d) a) ring

-- a display that went to the next line is fit
pub next_line_fit : (d later : Display) → IsFit d
    → screen_of later ≡ indexed (with_state (screen_of d) (moved_to d.state d.state.line 0))
    → later.ring.columns ≡ d.ring.columns → IsFit later
unfolding acted_from
next_line_fit d later fit e ring = acted_fit d later NextLine fit e ring

-- a new display is fit
pub starting_fit : (d : Display) (rows columns keep : ℕ) → IsGridSize rows columns
    → screen_of d ≡ starting rows columns keep → d.ring.columns ≡ columns → IsFit d
starting_fit d rows columns keep size e ring = fit_of d (starting rows columns keep) e
    (IsSound-starting rows columns keep size) ring

-- a display that took another size is fit
pub resized_fit : (later : Display) (x : Screen) (rows columns : ℕ) → IsGridSize rows columns → IsSound x
    → screen_of later ≡ resized rows columns x → later.ring.columns ≡ columns → IsFit later
unfolding resized
resized_fit later x rows columns size sound e ring = fit_of later (resized rows columns x) e
    (IsSound-resized rows columns x size sound) ring
