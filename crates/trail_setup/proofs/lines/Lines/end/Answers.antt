use Rattle.trail_setup.proofs.Vocabulary.{◌≡◌, ◌∙◌, ℕ, List, [], ◌∷◌, ◌++◌, sym, ap, subst, rules, PutsLines, kind_of}
use Rattle.trail_setup.proofs.Filling.{ended, three}
use Rattle.trail_setup.proofs.lines.Lines.end.Goals as goal

pub returns-clause-puts : goal.returns-clause-puts
returns-clause-puts c = λ start words h.
    let k = kind_of c.args.self.now.form in
    let text : c.extend_from_slice-3.new.self.items
    ≡ c.args.out.now.items ++ (c.args.self.now.line.items ++ (k.tail ++ 0x0A ∷ [])) =
    three c.args.out.now.items c.extend_from_slice.new.self.items c.extend_from_slice-2.new.self.items
    c.extend_from_slice-3.new.self.items c.args.self.now.line.items k.tail (0x0A ∷ [])
    (c.in_ok-extend_from_slice.ensures.items
    ∙ ap (λ (l : List ℕ). c.args.out.now.items ++ l) c.as_slice.ensures.value)
    c.in_ok-extend_from_slice-2.ensures.items c.in_ok-extend_from_slice-3.ensures.items in
    let some : c.args.self.now.line.items ≡ [] → ⊥ = λ none. search rules in
    subst (λ (t : List ℕ). PutsLines k start words t) (sym text)
    (ended k start words c.args.out.now.items c.args.self.now.line.items h.lines h.last some h.all h.put h.begins)
