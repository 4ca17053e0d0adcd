use Rattle.hub_ledger.proofs.Vocabulary.{◌≡◌, ◌∙◌, ◌<◌, ◌+◌, Bool, length, get_or, take, subst, sym, arith, true, ◌↔◌}
use Rattle.hub_ledger.proofs.Vocabulary.{◌&&◌, slice_get, Some, slice_get-get_or, AreOf, Sitting, receipts_of}
use Rattle.std.proofs.lemmas.List.Sums.{sum_by-set}
use Rattle.hub_ledger.proofs.Stripping.{all_stripped, both_right, done_more, left_more, not_right, not_told}
use Rattle.hub_ledger.proofs.Stripping.{receipts_set, right_more, times_more, told_by_one}
use Rattle.hub_ledger.proofs.closing.strip_all.Goals as goal
use Rattle.hub_ledger.proofs.closing.strip_all.Goals.{then-right, else-right}

pub seats-preserved : goal.seats-preserved
seats-preserved g c =
    let orig = c.args.seats.now in
    let cur = c.seats.seats in
    let i = c.seats.i in
    let inv = c.seats.invariant in
    let old = get_or cur i c.index-seats-i.result in
    let new = c.strip-times.new.self in
    let within : i < length cur = (let n = c.seats.auto.seats in let t = c.seats-test.true in omega (arith, n, t)) in
    let at : slice_get cur i ≡ Some old = slice_get-get_or cur i c.index-seats-i.result within in
    let was : slice_get orig i ≡ Some old = sym (inv.left i (omega arith)) ∙ at in
    let both : c.if-right.right ≡ (c.seats.right && c.strip-times.result.1) = elim c.if-right.branch [
      | then-right w ↦ both_right c.seats.right c.strip-times.result.1 c.if-right.right w.if-right.true w.right-is
      | else-right w ↦ not_right c.seats.right c.strip-times.result.1 c.if-right.right w.if-right.false w.right-is
    ] in
    let set = receipts_set cur i old new at in
    let handed = sum_by-set (λ (s : Sitting). s.handed) cur i new c.index-seats-i.result within in
    record {
      done = done_more orig cur i c.args.place old new at was c.strip-times.ensures.rest inv.done;
      left = left_more orig cur i new inv.left;
      times = times_more orig i c.args.place c.seats.named c.strip-times.result.0 old was inv.times
          c.strip-times.ensures.times;
      few = (let one = c.strip-times.ensures.once in let few = inv.few in omega (arith, one, few));
      right = subst (λ (b : Bool). (b ≡ true) ↔ AreOf c.args.place c.args.entry.now (receipts_of (take (i + 1) orig)))
          (sym both)
          (right_more orig i c.args.place c.args.entry.now c.seats.right c.strip-times.result.1 old was inv.right
          c.strip-times.ensures.right);
      handed = (let h = inv.handed in let here = c.strip-times.ensures.handed in omega (arith, h, here, handed));
      total = (let t = inv.total in let here = c.strip-times.ensures.total in omega (arith, t, here, set));
    }

pub returns-then-named-eq1 : goal.returns-then-named-eq1
returns-then-named-eq1 g c =
    let inv = c.seats.invariant in
    let s = all_stripped c.args.seats.now c.seats.seats c.seats.i c.args.place c.args.entry.now c.seats.named
    c.seats.right c.seats-test.false c.seats.auto.seats inv.done inv.times inv.right in
    record {
      rest = s.rest;
      handed = inv.handed;
      total = inv.total;
      told = told_by_one (receipts_of c.args.seats.now) c.args.place c.args.entry.now c.seats.named c.seats.right
          c.if-named-eq1.true s.times s.right;
    }

pub returns-else-named-eq1 : goal.returns-else-named-eq1
returns-else-named-eq1 g c =
    let inv = c.seats.invariant in
    let s = all_stripped c.args.seats.now c.seats.seats c.seats.i c.args.place c.args.entry.now c.seats.named
    c.seats.right c.seats-test.false c.seats.auto.seats inv.done inv.times inv.right in
    record {
      rest = s.rest;
      handed = inv.handed;
      total = inv.total;
      told = not_told (receipts_of c.args.seats.now) c.args.place c.args.entry.now c.seats.named c.if-named-eq1.false
          s.times;
    }
