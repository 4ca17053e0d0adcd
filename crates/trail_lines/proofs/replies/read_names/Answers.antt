use Rattle.trail_lines.proofs.Vocabulary.{◌≡◌, ◌∷◌, sym, ◌∙◌, ap, option_copied, words_behind, comma, leaders_of}
use Rattle.trail_lines.proofs.Reading.{no_name, too_many, one_leader, all_leaders}
use Rattle.trail_lines.proofs.replies.read_names.Goals as goal
use Rattle.trail_lines.proofs.replies.read_names.Goals.{After-next_word}

-- the first of the words that are left
first : (c : After-next_word)
    → words_behind comma (option_copied c.names.rest) ≡ c.next_word.result.0.now ∷ words_behind comma
    (option_copied c.next_word.result.1)
first c = ap (λ rest. words_behind comma (option_copied rest)) c.in-Some.is ∙ c.next_word.ensures

pub returns-in_err-of : goal.returns-in_err-of
returns-in_err-of c =
    c.from_residual.ensures
    ∙ no_name _ _ _ c.names.leaders (first (goal.at.returns-in_err-of c).After-next_word) c.in_err-of.ensures.named
    ∙ c.names.invariant

pub returns-in_err-leaders : goal.returns-in_err-leaders
returns-in_err-leaders c =
    c.from_residual-in_err-leaders.ensures
    ∙ too_many _ _ _ c.names.leaders (first (goal.at.returns-in_err-leaders c).After-next_word) _
    c.in_ok-of.ensures.named c.in_err-leaders.ensures ∙ c.names.invariant

pub names-preserved : goal.names-preserved
names-preserved c =
    one_leader _ _ _ c.names.leaders (first (goal.at.names-preserved c).After-next_word) _ _ c.in_ok-of.ensures.named
    c.in_ok-leaders.ensures ∙ c.names.invariant

pub returns : goal.returns
returns c =
    sym (all_leaders c.names.leaders)
    ∙ ap (λ rest. leaders_of (words_behind comma (option_copied rest)) c.names.leaders) (sym c.in_default.is)
    ∙ c.names.invariant
