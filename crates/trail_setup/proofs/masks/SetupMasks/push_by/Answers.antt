use Rattle.trail_setup.proofs.Vocabulary.{◌≡◌, ◌∙◌, ◌∷◌, [], Bool, true, false, ap, sym, subst, if◌then◌else◌, OnOk}
use Rattle.trail_setup.proofs.Vocabulary.{Part, PutsAll, are_any, is_first, is_lent, known_in, mask_kind, other_parts}
use Rattle.trail_setup.proofs.Vocabulary.{owner_head, words_of}
use Rattle.trail_setup.proofs.Putting.{one_put}
use Rattle.trail_setup.proofs.masks.SetupMasks.push_by.Goals as goal

pub returns : goal.returns
returns c = λ edition owner h s.
    let users = c.args.self.now.users.now in
    let by = c.args.by in
    let start = c.args.start.now in
    let out = c.args.out.now.items in
    let words = words_of c.args.is_later owner h (known_in c.args.self.now) by in
    let own = Part.lines (mask_kind (owner_head start)) words ∷ [] in
    let other = other_parts start by words (is_lent c.args.is_later owner h by) in
    let any : are_any words ≡ true = sym (c.in_ok-says_any.ensures edition owner h s) ∙ c.if-not-branch.false in
    let first : is_first users by ≡ true = sym c.is_owner.ensures ∙ c.if-not-is_owner.false in
    subst (λ (b : Bool). OnOk c.push_of.result (PutsAll (if b then (if is_first users by then own else other) else [])
    out c.push_of.new.out.items)) (sym any)
    (subst (λ (b : Bool). OnOk c.push_of.result (PutsAll (if b then own else other) out c.push_of.new.out.items))
    (sym first) (one_put c.push_of.result _ _ out _ words
    (ap mask_kind (c.as_slice.ensures.value ∙ c.in_ok-head.ensures)) (c.push_of.ensures edition owner h s)))

pub returns-then-not-is_owner : goal.returns-then-not-is_owner
returns-then-not-is_owner c = λ edition owner h s.
    let users = c.args.self.now.users.now in
    let by = c.args.by in
    let start = c.args.start.now in
    let out = c.args.out.now.items in
    let words = words_of c.args.is_later owner h (known_in c.args.self.now) by in
    let own = Part.lines (mask_kind (owner_head start)) words ∷ [] in
    let other = other_parts start by words (is_lent c.args.is_later owner h by) in
    let any : are_any words ≡ true = sym (c.in_ok-says_any.ensures edition owner h s) ∙ c.if-not-branch.false in
    let first : is_first users by ≡ false = sym c.is_owner.ensures ∙ c.if-not-is_owner.true in
    subst (λ (b : Bool). OnOk c.push_others.result (PutsAll
    (if b then (if is_first users by then own else other) else []) out c.push_others.new.out.items)) (sym any)
    (subst (λ (b : Bool). OnOk c.push_others.result (PutsAll (if b then own else other)
    out c.push_others.new.out.items))
    (sym first) (c.push_others.ensures edition owner h s))
