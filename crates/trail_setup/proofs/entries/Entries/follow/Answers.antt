use Rattle.trail_setup.proofs.Vocabulary.{◌∷◌, ◌∙◌, Bool, sym, subst, if◌then◌else◌, StandsAfter, alone}
use Rattle.trail_setup.proofs.Alike.{follows_alone}
use Rattle.trail_setup.proofs.entries.Entries.follow.Goals as goal

pub returns-then-not-is_of_entries : goal.returns-then-not-is_of_entries
returns-then-not-is_of_entries c = λ edition owner h s can.
    subst (λ (b : Bool). StandsAfter c.args.self.now.replay edition owner
    (if b then c.args.act ∷ alone h else alone h))
    (sym (sym c.is_of_entries.ensures ∙ c.if-not-is_of_entries.true)) s

pub returns : goal.returns
returns c = λ edition owner h s can.
    let is = sym c.is_of_entries.ensures ∙ c.if-not-is_of_entries.false in
    let done = c.in_ok-_can_follow.ensures edition owner (alone h) s in
    subst (λ (b : Bool). StandsAfter c.follow.new.self edition owner
    (if b then c.args.act ∷ alone h else alone h)) (sym is)
    (done.1 (done.0 ∙ (follows_alone edition owner h c.args.act is ∙ can)))
