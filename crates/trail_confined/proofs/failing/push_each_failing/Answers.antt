use Rattle.trail_confined.proofs.Vocabulary.{◌∙◌, ◌++◌, ap, sym, append-nil, append_assoc, slice_index_or}
use Rattle.trail_confined.proofs.Vocabulary.{take, flat_map, take_more, failing_text, joins_next, take_past}
use Rattle.trail_confined.proofs.failing.push_each_failing.Goals as goal

pub loop-premise-init : goal.loop-premise-init
loop-premise-init c = λ edition h stands. sym (append-nil c.args.out.now.items)

pub loop-premise-preserved : goal.loop-premise-preserved
loop-premise-preserved c = λ edition h stands.
    let text = failing_text edition c.args.owner h c.args.sight.now in
    let premises = c.args.failing.now in
    let i = c.loop-premise.premise-index in
    let next = take_more premises i _ c.loop-premise-test.true in
    let p = slice_index_or premises i _ in
    c.in_ok-push_failing.ensures edition h stands
    ∙ (ap (λ l. l ++ text p) (c.loop-premise.invariant edition h stands)
    ∙ (append_assoc c.args.out.now.items (flat_map text (take i premises)) (text p)
    ∙ ap (λ l. c.args.out.now.items ++ l) (joins_next text premises i p next)))

pub returns : goal.returns
returns c = λ edition h stands.
    c.loop-premise.invariant edition h stands
    ∙ ap (λ ps. c.args.out.now.items ++ flat_map (failing_text edition c.args.owner h c.args.sight.now) ps)
    (take_past c.loop-premise.premise-index c.args.failing.now c.loop-premise-test.false)
