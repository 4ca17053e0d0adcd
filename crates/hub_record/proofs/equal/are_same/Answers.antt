use Rattle.std.proofs.Common.{◌≡◌, ◌∙◌, ◌<◌, ap, get_or, length, sym, take, arith}
use Rattle.std.proofs.lemmas.List.{take_all, take_more_same}
use Rattle.hub_record.proofs.equal.are_same.Goals as goal

pub places-preserved : goal.places-preserved
places-preserved g c =
    let room : c.places.i < length c.args.other.now = omega (arith, c.places-test.true, c.if-items-other.false) in
    let same = c.is_same.ensures c.if-not-is_same.false in
    take_more_same c.args.items.now c.args.other.now c.places.i _ c.places-test.true room c.places.invariant
    (sym c.index-items-i.is ∙ same ∙ c.index-other-i.is ∙ ap (get_or c.args.other.now c.places.i) (sym same))

pub returns : goal.returns
returns g c = λ done.
    let all : take c.places.i c.args.items.now ≡ c.args.items.now = take_all c.places.i c.args.items.now
    c.places-test.false in
    let other : take c.places.i c.args.other.now ≡ c.args.other.now = take_all c.places.i c.args.other.now
    (omega (arith, c.places-test.false, c.if-items-other.false)) in
    sym all ∙ c.places.invariant ∙ other
