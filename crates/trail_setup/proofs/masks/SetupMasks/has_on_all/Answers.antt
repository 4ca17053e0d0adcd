use Rattle.trail_setup.proofs.Vocabulary.{◌≡◌, ◌∙◌, ℕ, List, true, refl, sym, subst, drop, AllByRecursion, list_all}
use Rattle.trail_setup.proofs.Vocabulary.{UserId, is_open, passes, stops, has_if_back, has_on_all, known_in}
use Rattle.trail_setup.proofs.Putting.{all_past, nth}
use Rattle.trail_setup.proofs.masks.SetupMasks.has_on_all.Goals as goal

pub returns-then-not-has_if_back : goal.returns-then-not-has_if_back
returns-then-not-has_if_back c = λ edition owner h s.
    let ws = c.deref-row-items.result.now in
    let i = c.loop-row.row-index in
    let all = subst (AllByRecursion (λ w. is_open h w.0 ≡ true)) (sym c.deref-row-items.ensures.value) s.1 in
    let there = nth (λ w. is_open h w.0 ≡ true) ws i _ c.loop-row-test.true all in
    stops (has_if_back owner h c.args.self.now.users.now c.args.by c.args.user c.args.bit) ws i _ _
    c.loop-row-test.true (sym (c.has_if_back.ensures edition owner h s.0 there) ∙ c.if-not-has_if_back.true)
    (c.loop-row.invariant edition owner h s)

pub loop-row-preserved : goal.loop-row-preserved
loop-row-preserved c = λ edition owner h s.
    let ws = c.deref-row-items.result.now in
    let i = c.loop-row.row-index in
    let all = subst (AllByRecursion (λ w. is_open h w.0 ≡ true)) (sym c.deref-row-items.ensures.value) s.1 in
    let there = nth (λ w. is_open h w.0 ≡ true) ws i _ c.loop-row-test.true all in
    passes (has_if_back owner h c.args.self.now.users.now c.args.by c.args.user c.args.bit) ws i _ _
    c.loop-row-test.true (sym (c.has_if_back.ensures edition owner h s.0 there) ∙ c.if-not-has_if_back.false)
    (c.loop-row.invariant edition owner h s)

pub loop-row-init : goal.loop-row-init
loop-row-init c = λ edition owner h s.
    subst (λ (ws : List (ℕ × UserId)).
    list_all (has_if_back owner h c.args.self.now.users.now c.args.by c.args.user c.args.bit) (drop 0 ws)
    ≡ has_on_all owner h (known_in c.args.self.now) c.args.by c.args.user c.args.bit)
    (sym c.deref-row-items.ensures.value) refl

pub returns : goal.returns
returns c = λ edition owner h s.
    all_past (has_if_back owner h c.args.self.now.users.now c.args.by c.args.user c.args.bit)
    c.deref-row-items.result.now c.loop-row.row-index _ c.loop-row-test.false (c.loop-row.invariant edition owner h s)
