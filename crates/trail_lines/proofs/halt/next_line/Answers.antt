use Rattle.trail_lines.proofs.Vocabulary.{◌≡◌, ◌++◌, ◌∷◌, [], ℕ, List, ◌∙◌, ap, sym, subst, arith, rules, false, ◌==◌}
use Rattle.trail_lines.proofs.Vocabulary.{nat_tests, ComesAs, OfKnown}
use Rattle.trail_lines.specs.declared.halt.NextLine.TheVariants as came
use Rattle.trail_lines.proofs.Coming.{came_whole, came_torn}
use Rattle.trail_lines.proofs.halt.next_line.Goals as goal

pub returns-in-Some-eq10 : goal.returns-in-Some-eq10
returns-in-Some-eq10 g c =
    let line = c.pop.new.self.items in
    came_whole _ _ _ _ line c.clear.ensures.items c.in_ok-read_until.ensures.bytes
    c.in_ok-read_until.ensures.rest
    (c.in-Some-eq10.ensures.items ∙ ap (λ x. line ++ x ∷ []) c.in-Some-eq10.field-0-test)

pub returns-in_ok-push-in-Some : goal.returns-in_ok-push-in-Some
returns-in_ok-push-in-Some g c =
    let other : (c.in-Some.byte == 0x0A) ≡ false =
    first_of (search (rules, c.in-Some.byte-test), grind (arith, nat_tests, c.in-Some.byte-test)) in
    subst (λ (line : List ℕ). OfKnown (g.R.Read.remaining c.args.reader.now)
    (g.R.Read.remaining c.read_until.new.self) (ComesAs came.Torn line))
    (sym c.in_ok-push-in-Some.ensures.items)
    (came_torn _ _ _ _ c.pop.new.self.items c.in-Some.byte other c.clear.ensures.items
    c.in_ok-read_until.ensures.bytes c.in_ok-read_until.ensures.rest c.in-Some.ensures.items)
