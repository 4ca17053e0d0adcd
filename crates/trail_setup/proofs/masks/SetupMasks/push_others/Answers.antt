use Rattle.trail_setup.proofs.Vocabulary.{◌∙◌, Bool, ap, sym, subst, OnOk, codes, PutsAll, known_in, lent_text}
use Rattle.trail_setup.proofs.Vocabulary.{mask_kind, other_parts, words_of}
use Rattle.trail_setup.proofs.Putting.{lent_put, one_put}
use Rattle.trail_setup.proofs.masks.SetupMasks.push_others.Goals as goal

pub returns-then-not-is_lent : goal.returns-then-not-is_lent
returns-then-not-is_lent c = λ edition owner h s.
    let words = words_of c.args.is_later owner h (known_in c.args.self.now) c.args.by in
    subst (λ (b : Bool). OnOk c.push_of.result
    (PutsAll (other_parts c.args.start.now c.args.by words b) c.args.out.now.items c.push_of.new.out.items))
    (sym (sym (c.is_lent.ensures edition owner h s.0) ∙ c.if-not-is_lent.true))
    (one_put c.push_of.result _ _ c.args.out.now.items _ words
    (ap mask_kind (c.as_slice.ensures.value ∙ c.in_ok-head.ensures)) (c.push_of.ensures edition owner h s))

pub returns : goal.returns
returns c = λ edition owner h s.
    let words = words_of c.args.is_later owner h (known_in c.args.self.now) c.args.by in
    subst (λ (b : Bool). OnOk c.push_lent-2.result
    (PutsAll (other_parts c.args.start.now c.args.by words b) c.args.out.now.items c.push_lent-2.new.out.items))
    (sym (sym (c.is_lent.ensures edition owner h s.0) ∙ c.if-not-is_lent.false))
    (lent_put c.push_lent-2.result _ _ c.args.out.now.items _ _ _ (lent_text c.args.start.now c.args.by (codes " +x"))
    (lent_text c.args.start.now c.args.by (codes " -x")) words
    (ap mask_kind (c.as_slice-2.ensures.value ∙ c.in_ok-head.ensures)) c.in_ok-push_lent.ensures
    (c.in_ok-push_of.ensures edition owner h s) c.push_lent-2.ensures)
