use Rattle.windows.proofs.Vocabulary.{◌≡◌, ◌∙◌, ℕ, Bool, ap, sym, List, Option, Some, None, is_above, first_free}
use Rattle.windows.proofs.Vocabulary.{StandFor, Window, IfSome, IsFree, if_true, if_false}
use Rattle.windows_model.specs.Table as model
use Rattle.windows.specs.Standing as standing
use Rattle.windows.proofs.Nearest.{above_both, free_both}
use Rattle.windows.proofs.windows.Windows.number_for.Goals as goal

above_is : (s : ℕ) (b : Bool) (lent ws now : List Window) (rows : List model.Window) → b ≡ is_above s lent → lent ≡ ws
    → ws ≡ now → StandFor rows now → standing.is_above s rows ≡ b
above_is s b lent ws now rows is same view st = sym
    (is ∙ ap (λ xs. is_above s xs) (same ∙ view) ∙ above_both s rows now st)

pub returns-then-is_above-clause-number : goal.returns-then-is_above-clause-number
returns-then-is_above-clause-number c = λ rows st.
    c.first_free.ensures ∙ ap (λ (ws : List Window). first_free ws) (c.as_slice-rows.ensures ∙ c.self.view_is)
    ∙ free_both rows c.args.self.now st
    ∙ sym
    (if_true (standing.is_above c.args.serial rows) _ _
    (above_is c.args.serial c.is_above.result _ _ c.args.self.now rows c.is_above.ensures c.as_slice-rows.ensures
    c.self.view_is st ∙ c.if-is_above.true))

pub returns-else-is_above-clause-number : goal.returns-else-is_above-clause-number
returns-else-is_above-clause-number c = λ rows st.
    sym (if_false (standing.is_above c.args.serial rows) _ _
    (above_is c.args.serial c.is_above.result _ _ c.args.self.now rows c.is_above.ensures c.as_slice-rows.ensures
    c.self.view_is st ∙ c.if-is_above.false))

pub returns-then-is_above-clause-free : goal.returns-then-is_above-clause-free
returns-then-is_above-clause-free c = some_free c.first_free.result c.args.self.now
    (c.first_free.ensures ∙ ap (λ (ws : List Window). first_free ws) (c.as_slice-rows.ensures ∙ c.self.view_is))
  where
    some_free : (o : Option ℕ) (ws : List Window) → o ≡ first_free ws → IfSome o (IsFree ws)
    some_free None ws is = tt
    some_free (Some n) ws is = λ rows st. sym (free_both rows ws st) ∙ sym is
