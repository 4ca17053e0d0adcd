use Rattle.std.proofs.Common.{◌≡◌, ◌+◌, ◌++◌, ◌∷◌, [], ℕ, List, Option, take, get_or, ap, sym, ◌∙◌, arith}
use Rattle.std.proofs.Common.{IsTrue, ◌↔◌, subst}
use Rattle.std.proofs.lemmas.Grind.{common_steps}
use Rattle.std.proofs.lemmas.List.{take_more}
use Rattle.draw_check.specs.declared.place.DrawPlace.{DrawPlace}
use Rattle.draw_check.specs.Functions.{BeginDraws}
use Rattle.draw_check.specs.Places.{next_in, after}
use Rattle.draw_check.proofs.Reading.{after_one, one_more, decides}
use Rattle.draw_check.proofs.DrawCheck.feed.Goals.{in-Some, in-None}
use Rattle.draw_check.proofs.DrawCheck.feed.Goals as goal

pub loop-byte-preserved : goal.loop-byte-preserved
loop-byte-preserved c =
    let bytes : List ℕ = c.args.bytes.now in
    let i : ℕ = c.loop-byte.byte-index in
    let byte : ℕ = get_or bytes i 0 in
    let before : Option DrawPlace = c.args.self.now in
    let more : take (i + 1) bytes ≡ take i bytes ++ byte ∷ [] = take_more bytes i 0 c.loop-byte-test.true in
    let now : after before (take (i + 1) bytes) ≡ next_in c.loop-byte.self-inside.place byte = ap (after before) more
    ∙ after_one (take i bytes) byte before ∙ ap (λ place. next_in place byte) (sym c.loop-byte.invariant) in
    elim c.match-self.branch [
      | in-Some w ↦ w.self-is ∙ w.next-self-inside.ensures ∙ sym (now ∙ ap (λ place. next_in place byte) w.in-Some.is)
      | in-None w ↦ w.self-is ∙ sym (now ∙ ap (λ place. next_in place byte) w.in-None.is)
    ]

pub returns-clause-stands : goal.returns-clause-stands
returns-clause-stands c = λ came h.
    let bytes : List ℕ = c.args.bytes.now in
    let all : take c.loop-byte.byte-index bytes ≡ bytes = grind (arith, common_steps) in
    c.loop-byte.invariant ∙ ap (after c.args.self.now) all ∙ ap (λ place. after place bytes) h ∙ one_more came bytes

pub returns-clause-passes : goal.returns-clause-passes
returns-clause-passes c = λ came h.
    let bytes : List ℕ = c.args.bytes.now in
    let all : take c.loop-byte.byte-index bytes ≡ bytes = grind (arith, common_steps) in
    subst (λ is. IsTrue is ↔ BeginDraws (came ++ bytes)) (sym c.is_some.ensures)
    (decides c.loop-byte.self-inside.place (came ++ bytes)
    (c.loop-byte.invariant ∙ ap (after c.args.self.now) all ∙ ap (λ place. after place bytes) h
    ∙ one_more came bytes))
