use Rattle.trail_rights.proofs.Vocabulary.{◌∙◌, ◌∷◌, [], None, refl, ap, sym, subst, slice_index_or, arith, Act, Known}
use Rattle.trail_rights.proofs.Vocabulary.{drop-next, drop-past, Mark, marked_on, HasSeen}
use Rattle.trail_rights.proofs.sight.Sight.follow_all.Goals as goal

abbrev blank : Mark × Act
blank = (record { place = 0; ms = 0; giver = None }, Known (record { name = [] }))

pub loop-pair-init : goal.loop-pair-init
loop-pair-init c = (λ owner marked s. (marked, s, refl), refl)

pub loop-pair-preserved : goal.loop-pair-preserved
loop-pair-preserved c = (
  λ owner marked s.
      let i = c.loop-pair.invariant.0 owner marked s in
      let a = slice_index_or c.args.acts.now c.loop-pair.pair-index blank in
      let next = drop-next c.args.acts.now c.loop-pair.pair-index blank (omega arith) in
      (a ∷ i.0, c.in_ok-follow.ensures.sees owner i.0 i.1, ap (marked_on i.0) next ∙ i.2),
  c.in_ok-follow.ensures.sought ∙ c.loop-pair.invariant.1,
)

pub returns-clause-sees : goal.returns-clause-sees
returns-clause-sees c = λ owner marked s.
    let i = c.loop-pair.invariant.0 owner marked s in
    let none = drop-past c.loop-pair.pair-index c.args.acts.now c.loop-pair-test.false in
    subst (HasSeen c.loop-pair.self owner) (ap (marked_on i.0) (sym none) ∙ i.2) i.1
