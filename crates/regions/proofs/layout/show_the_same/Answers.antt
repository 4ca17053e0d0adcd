use Rattle.std.proofs.Common.{◌≡◌, ◌↔◌, true, sym, ◌∙◌, rules}
use Rattle.std.specs.Cmp.Lexicographic.{pointwise_decides}
use Rattle.regions.specs.declared.layout.Shown.{Shown}
use Rattle.regions.specs.contracts.layout.ShownPartialEq.TheImpl.{eq-value}
use Rattle.regions.proofs.layout.show_the_same.Goals as goal

decides : (a b : Shown) → (eq-value.it a b ≡ true) ↔ (a ≡ b)
decides a b = search rules

pub returns : goal.returns
returns c =
    let are_same = pointwise_decides decides c.args.shown.now c.args.others.now in
    ((λ yes. are_same.0 (sym c.eq.ensures ∙ yes)), (λ same. c.eq.ensures ∙ are_same.1 same))
