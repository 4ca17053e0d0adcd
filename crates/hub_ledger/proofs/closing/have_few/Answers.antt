use Rattle.hub_ledger.proofs.Vocabulary.{◌≡◌, ◌∙◌, ◌+◌, List, length, take, ap, sym, arith, Some, add-one, take_all}
use Rattle.hub_ledger.proofs.Vocabulary.{length-append, slice_get, slice_get-get_or, Receipt, Sitting, receipts_of}
use Rattle.hub_ledger.proofs.Stripping.{one_more}
use Rattle.hub_ledger.proofs.closing.have_few.Goals as goal

pub seats-preserved : goal.seats-preserved
seats-preserved g c =
    let seats = c.args.seats.now in
    let i = c.seats.i in
    let s = c.index-seats-i.result in
    let at : slice_get seats i ≡ Some s = slice_get-get_or seats i s c.seats-test.true
    ∙ ap Some (sym c.index-seats-i.is) in
    let more : length (receipts_of (take (i + 1) seats)) ≡ length (receipts_of (take i seats)) + length s.receipts =
    ap (λ n. length (receipts_of (take n seats))) (add-one i)
    ∙ ap (λ (x : List Receipt). length x) (one_more seats i s at)
    ∙ length-append (receipts_of (take i seats)) s.receipts in
    omega (arith, more, c.has_few.ensures, c.seats.invariant)

pub returns : goal.returns
returns g c =
    let all : length (receipts_of (take c.seats.i c.args.seats.now)) ≡ length (receipts_of c.args.seats.now) =
    ap (λ (x : List Sitting). length (receipts_of x)) (take_all c.seats.i c.args.seats.now c.seats-test.false) in
    omega (arith, all, c.seats.invariant, c.seats.auto.i-end)
