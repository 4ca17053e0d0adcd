use Rattle.server_loop.proofs.Vocabulary.{◌≡◌, ◌∙◌, ℕ, true, false, ap, refl, sym, rules, state_of}
use Rattle.server_loop.proofs.Telling.{if_false, if_true}
use Rattle.server_loop.proofs.own.Loop.serve_window.Goals as goal

pub returns-then-not-may_print : goal.returns-then-not-may_print
returns-then-not-may_print g c =
    let no : c.may_print.result ≡ false = search rules in
    record { outcome = if_false _ _ _ (sym c.may_print.ensures ∙ no) refl }

pub returns-then-serve : goal.returns-then-serve
returns-then-serve g c =
    let may : c.may_print.result ≡ true = search rules in
    let yes : c.serve.result ≡ true = search rules in
    let mid = state_of c.serve.new.self in
    record {
      outcome = if_true _ _ _ (sym c.may_print.ensures ∙ may) (
        mid,
        c.serve.ensures.serves,
        if_true _ _ _ (sym c.serve.ensures.due ∙ yes)
            (ap (λ (n : ℕ). record mid { next = n }) c.saturating_add-self.ensures),
      );
    }

pub returns-else-serve : goal.returns-else-serve
returns-else-serve g c =
    let may : c.may_print.result ≡ true = search rules in
    let no : c.serve.result ≡ false = search rules in
    record {
      outcome = if_true _ _ _ (sym c.may_print.ensures ∙ may) (
        state_of c.serve.new.self,
        c.serve.ensures.serves,
        if_false _ _ _ (sym c.serve.ensures.due ∙ no) refl,
      );
    }
