use Rattle.acl.proofs.Vocabulary.{◌≡◌, ◌∙◌, ◌≤◌, [], ap, sym, subst, IsSome, is_some, refl, true≢false, Some, length}
use Rattle.acl.proofs.Vocabulary.{if◌then◌else◌, option_map_or, same_user, leaders_with, leaders_of, row_of, table_of}
use Rattle.acl.proofs.Vocabulary.{Row}
use Rattle.acl.proofs.StandsForUsers.{StandsFor-Grouped}
use Rattle.acl.proofs.lists.Lists.set_leader.Goals as goal

pub returns-in-Some-clause-stands : goal.returns-in-Some-clause-stands
returns-in-Some-clause-stands c =
    let t = table_of c.args.self.now in
    let row = c.in-Some.row.now in
    let u = c.args.user in
    let leader = c.args.leader in
    let write = c.get_mut.follows.holds _ in
    λ edition owner h s follows.
    let led : row.leaders ≡ leaders_of edition h u = ap (λ o. option_map_or (λ (r : Row). r.leaders) o [])
    c.in-Some.ensures.value ∙ s.led u in
    let few : length (leaders_with t.edition leader row.leaders) ≤ 8 =
    subst (λ n. n ≤ 8) (λ i. length (leaders_with (sym s.edition_is i) leader (sym led i))) follows.1 in
    let written = c.regroup.ensures few
    ∙ (λ i. let r : Row = record row { leaders = leaders_with (s.edition_is i) leader row.leaders } in r) in
    StandsFor-Grouped t edition owner h s u _ leader row
    (sym c.in-Some.ensures.value)
    write.1
    (λ q. (write.3 (subst IsSome c.in-Some.ensures.value refl)).0 q
    ∙ ap (λ r. if same_user u q then Some r else row_of t q) written)

pub returns-in_default-clause-stands : goal.returns-in_default-clause-stands
returns-in_default-clause-stands c = λ edition owner h s follows.
    absurd (true≢false (sym follows.0 ∙ sym (s.known c.args.user) ∙ ap is_some (sym c.in_default.ensures.value)))
