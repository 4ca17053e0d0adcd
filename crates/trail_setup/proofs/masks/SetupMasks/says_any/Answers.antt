use Rattle.trail_setup.proofs.Vocabulary.{◌∙◌, ◌==◌, [], ℕ, List, ap, length, not, subst, PutsLines, known_in}
use Rattle.trail_setup.proofs.Vocabulary.{mask_kind, words_of}
use Rattle.trail_setup.proofs.Putting.{any_said}
use Rattle.trail_setup.proofs.masks.SetupMasks.says_any.Goals as goal

pub returns : goal.returns
returns c = λ edition owner h s.
    let words = words_of c.args.is_later owner h (known_in c.args.self.now) c.args.by in
    ap not c.is_empty.ensures ∙ ap (λ (o : List ℕ). not (length o == 0)) c.as_slice.ensures.value
    ∙ any_said (mask_kind []) words c.push_of.new.out.items
    (subst (λ (start : List ℕ). PutsLines (mask_kind []) start words c.push_of.new.out.items) c.new-said.ensures.items
    (c.in_ok-push_of.ensures edition owner h s))
