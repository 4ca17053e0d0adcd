use Rattle.acl.proofs.Vocabulary.{◌∙◌, ap, sym, subst, IsSome, is_some, refl, true≢false, allows, bits_on, table_of}
use Rattle.acl.proofs.RowLemmas.{allows-with_right, leaders-with_right}
use Rattle.acl.proofs.StandsForLemmas.{there-StandsFor}
use Rattle.acl.proofs.StandsForUsers.{StandsFor-Set}
use Rattle.acl.proofs.lists.Lists.set.Goals as goal

pub returns-in-Some-clause-stands : goal.returns-in-Some-clause-stands
returns-in-Some-clause-stands c =
    let t = table_of c.args.self.now in
    let write = c.get_mut.follows.holds _ in
    λ edition owner h s follows. StandsFor-Set t edition owner h s c.args.user _ c.args.bit c.args.object c.args.value
    c.in-Some.row.now c.set_right.new.row
    (sym c.in-Some.ensures.value)
    write.1
    (write.3 (subst IsSome c.in-Some.ensures.value refl)).0
    (ap (λ r. r.leaders) c.set_right.ensures.set
    ∙ leaders-with_right t.windows c.args.object c.args.bit c.args.value c.in-Some.row.now)
    (λ b place there. ap (λ r. allows b (bits_on t.windows place r)) c.set_right.ensures.set
    ∙ allows-with_right t c.args.bit c.args.value c.in-Some.row.now c.args.object b place c.set_right.ensures.commands
    (c.set_right.ensures.windows ∙ sym s.slots.all) (there-StandsFor t edition owner h s c.args.object ∙ follows.1))

pub returns-in_default-clause-stands : goal.returns-in_default-clause-stands
returns-in_default-clause-stands c = λ edition owner h s follows.
    absurd (true≢false (sym follows.0 ∙ sym (s.known c.args.user) ∙ ap is_some (sym c.in_default.ensures.value)))
