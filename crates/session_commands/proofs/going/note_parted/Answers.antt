use Rattle.session_commands.proofs.Vocabulary.{◌≡◌, ◌∙◌, ◌+◌, [], ◌∷◌, ◌++◌, true, false, ap, sym, subst, take}
use Rattle.session_commands.proofs.Vocabulary.{append_assoc, arith, take_all, Act, Parted, History, followed_by}
use Rattle.session_commands.proofs.Vocabulary.{followed_by-append, LocksStandFor, goes_now, parted_now}
use Rattle.std.proofs.Common.{Vec, Global}
use Rattle.session_commands.proofs.Pushed.{pushed}
use Rattle.session_commands.proofs.Parting.{at_place, parted_more, parted_same}
use Rattle.session_commands.proofs.going.note_parted.Goals.{then-has, else-has}
use Rattle.session_commands.proofs.going.note_parted.Goals as goal

pub returns-clause-locks : goal.returns-clause-locks
returns-clause-locks c = λ edition owner h st here.
    subst (λ cs. LocksStandFor c.loop-i.locks edition owner (followed_by h (parted_now c.args.going cs)))
    (take_all c.loop-i.i c.args.clients.now c.loop-i-test.false) (c.loop-i.invariant.3 edition owner h st here).0

pub loop-i-preserved : goal.loop-i-preserved
loop-i-preserved c =
    let cs = c.args.clients.now in
    let g = c.args.going in
    let i = c.loop-i.i in
    let acts = c.args.acts.now.items in
    let client = c.index-clients-i.result in
    let at = at_place cs i client c.loop-i-test.true c.index-clients-i.is in
    elim c.if-has.branch [
      | then-has w ↦
          let goes : goes_now g client ≡ true = sym c.has.ensures ∙ w.if-has.true in
          let more = ap (parted_now g) at ∙ parted_more g (take i cs) client goes in (
            ap (λ (v : Vec Act Global). v.items) w.acts-is
                ∙ pushed w.push.result c.loop-i.acts.items w.push.new.self.items (Parted client.serial)
                (w.push.ensures.succeeds (omega arith)) w.push.ensures.items
                ∙ ap (λ xs. xs ++ Parted client.serial ∷ []) c.loop-i.invariant.0
                ∙ append_assoc acts (parted_now g (take i cs)) (Parted client.serial ∷ [])
                ∙ ap (λ xs. acts ++ xs) (sym more),
            rw w.acts-is (omega arith),
            rw w.acts-is (omega arith),
            λ edition owner h st here.
                let past : History = followed_by h (parted_now g (take i cs)) in
                let so_far = c.loop-i.invariant.3 edition owner h st here in
                rw (
                  w.locks-is,
                  w.rows-is,
                  ap (followed_by h) more
                      ∙ followed_by-append h (parted_now g (take i cs)) (Parted client.serial ∷ []),
                )
                (w.part_client.ensures edition owner past so_far.0 so_far.1),
          )
      | else-has w ↦
          let stays : goes_now g client ≡ false = sym c.has.ensures ∙ w.if-has.false in
          let same = ap (parted_now g) at ∙ parted_same g (take i cs) client stays in (
            ap (λ (v : Vec Act Global). v.items) w.acts-is ∙ c.loop-i.invariant.0 ∙ ap (λ xs. acts ++ xs) (sym same),
            rw w.acts-is (omega arith),
            rw w.acts-is (omega arith),
            λ edition owner h st here. rw (w.locks-is, w.rows-is, same) (c.loop-i.invariant.3 edition owner h st here),
          )
    ]
