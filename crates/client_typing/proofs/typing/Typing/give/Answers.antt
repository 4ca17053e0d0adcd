use Rattle.std.proofs.Common.{ℕ, List, [], ◌∷◌, ◌++◌, ◌∙◌, refl, sym, subst, append_assoc}
use Rattle.keys.specs.Grammar.{control_a, colon, carriage_return, items_from}
use Rattle.keys.specs.Kept.{StandsFor}
use Rattle.client_typing.proofs.Fitting.{given-alone}
use Rattle.client_typing.proofs.typing.Typing.give.Goals as goal

pub returns-clause-follows : goal.returns-clause-follows
returns-clause-follows c = λ before h.
    let front : List ℕ = control_a ∷ colon ∷ [] in
    let line : List ℕ = c.args.line.now in
    let last : List ℕ = carriage_return ∷ [] in
    subst (λ (keys : List ℕ). StandsFor c.follow_all-3.new.self.keys keys)
    (append_assoc (before ++ front) line last ∙ append_assoc before front (line ++ last))
    (c.follow_all-3.ensures.follows ((before ++ front) ++ line)
    (c.follow_all-2.ensures.follows (before ++ front) (c.follow_all.ensures.follows before h)))

pub returns-clause-rests : goal.returns-clause-rests
unfolding items_from
returns-clause-rests c = λ is rests.
    sym (returns-clause-follows c [] (sym rests)) ∙ given-alone c.args.line.now [] is refl
