use Rattle.windows.proofs.Vocabulary.{◌≡◌, ◌∙◌, sym, ap, subst, true, List, ◌∷◌, ◌++◌, [], is_title, Window, AreRows}
use Rattle.windows.proofs.Rows.{small_free, rows_added}
use Rattle.windows.proofs.Answering.{one_opened}
use Rattle.windows.proofs.windows.Windows.open.Goals as goal

pub returns-clause-answer : goal.returns-clause-answer
returns-clause-answer c =
    let named : is_title c.args.title.now ≡ true = sym c.is_title.ensures ∙ c.if-not-is_title.false in
    one_opened c.in-Some.number c.args.self.now c.push.new.self c.args.serial c.in-Some.number c.args.size.rows
    c.args.size.columns c.args.size.keep c.args.title.now c.in_ok-window.window
    (λ ms st. sym (c.in-Some.ensures.number ms st)) named c.in_ok-window.ensures.ok
    (c.in_ok-push.ensures.ok ∙ ap (λ (ws : List Window). ws ++ c.in_ok-window.window ∷ []) c.self.view_is)

pub returns-clause-last : goal.returns-clause-last
returns-clause-last c = (
  c.in_ok-window.window,
  c.in_ok-push.ensures.ok
      ∙ ap (λ (ws : List Window). ws ++ c.in_ok-window.window ∷ []) c.self.view_is,
)

pub returns-clause-row : goal.returns-clause-row
returns-clause-row c = record {
  window = c.in_ok-window.window;
  serial_is = c.in_ok-window.ensures.ok.serial_is;
  number_is = c.in_ok-window.ensures.ok.number_is;
  small = small_free c.args.self.now c.in-Some.number c.in-Some.ensures.first;
  last = c.in_ok-push.ensures.ok ∙ ap (λ (ws : List Window). ws ++ c.in_ok-window.window ∷ []) c.self.view_is;
}

pub invariant_of-self-2 : goal.invariant_of-self-2
invariant_of-self-2 c =
    subst AreRows
    (sym (c.in_ok-push.ensures.ok ∙ ap (λ (ws : List Window). ws ++ c.in_ok-window.window ∷ []) c.self.view_is))
    (rows_added c.args.self.now c.in_ok-window.window c.args.serial c.in-Some.number c.in-Some.ensures.above
    c.in-Some.ensures.first
    c.in_ok-window.ensures.ok.serial_is c.in_ok-window.ensures.ok.number_is
    (subst AreRows c.self.view_is c.self.invariant))
