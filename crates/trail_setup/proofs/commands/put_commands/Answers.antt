use Rattle.trail_setup.proofs.Vocabulary.{◌∙◌, ◌∷◌, [], Bool, sym, subst, map, OnOk, codes, filter, if◌then◌else◌}
use Rattle.trail_setup.proofs.Vocabulary.{take_more, ALL, name_text, has_just, HoldWords, kind_of}
use Rattle.trail_setup.proofs.Putting.{leaves_out, put_all, puts_next, reformed}
use Rattle.trail_setup.proofs.commands.put_commands.Goals as goal
use Rattle.trail_setup.proofs.commands.put_commands.Goals.{then-has_just+in_ok-put, else-has_just}

pub returns-then-has_on_all-clause-holds : goal.returns-then-has_on_all-clause-holds
returns-then-has_on_all-clause-holds c = λ edition owner h s start held.
    let p = has_just owner h c.args.user c.args.given in
    subst (λ (b : Bool). OnOk c.put.result (HoldWords (kind_of c.args.lines.now.form) start
    (if b then codes "?" ∷ [] else map name_text (filter p ALL)) c.put.new.out.items c.put.new.self.line.items))
    (sym (sym (c.has_on_all.ensures edition owner h s) ∙ c.if-has_on_all.true)) (c.put.ensures.holds start [] held)

pub loop-command-preserved : goal.loop-command-preserved
loop-command-preserved c =
    let i = c.loop-command.command-index in
    let next = take_more ALL i _ c.loop-command-test.true in
    let form = c.loop-command.invariant.0 in
    elim c.if-has_just.branch [
      | then-has_just+in_ok-put w ↦ (
        rw w.lines-is (w.in_ok-put.ensures.form ∙ form),
        (λ edition owner h s start held. rw (w.lines-is, w.out-is)
            (puts_next (has_just owner h c.args.user c.args.given) name_text ALL i _ _ start _ _ _ next
            (sym (c.has_just.ensures edition owner h s) ∙ w.if-has_just.true)
            (w.as_bytes.ensures.value ∙ w.name_text.ensures)
            (reformed _ _ start _ _ _ form (w.in_ok-put.ensures.holds start _
            (reformed _ _ start _ _ _ (sym form) (c.loop-command.invariant.1 edition owner h s start held)))))),
      )
      | else-has_just w ↦ (
        rw w.lines-is form,
        (λ edition owner h s start held. rw (w.lines-is, w.out-is)
            (leaves_out (has_just owner h c.args.user c.args.given) name_text ALL i _ _ start _ _ next
            (sym (c.has_just.ensures edition owner h s) ∙ w.if-has_just.false)
            (c.loop-command.invariant.1 edition owner h s start held))),
      )
    ]

pub returns-clause-holds : goal.returns-clause-holds
returns-clause-holds c = λ edition owner h s start held.
    let p = has_just owner h c.args.user c.args.given in
    subst (λ (b : Bool). HoldWords (kind_of c.args.lines.now.form) start
    (if b then codes "?" ∷ [] else map name_text (filter p ALL))
    c.loop-command.out.items c.loop-command.lines.line.items)
    (sym (sym (c.has_on_all.ensures edition owner h s) ∙ c.if-has_on_all.false))
    (put_all p name_text ALL c.loop-command.command-index _ start _ _ c.loop-command-test.false
    (c.loop-command.invariant.1 edition owner h s start held))
