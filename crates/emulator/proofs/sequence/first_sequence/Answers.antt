use Rattle.emulator.proofs.Vocabulary.{◌+◌, ◌<◌, ◌≤◌, List, ℕ, length, take, arith, ◌∙◌, length-set}
use Rattle.emulator.proofs.Sequences.{begun-read, numeral-behind, parameter-read, final-read}
use Rattle.emulator.proofs.sequence.first_sequence.Goals as goal

pub loop-at-init : goal.loop-at-init
loop-at-init c =
    let is = c.first_mark-mark.ensures in
    record {
      inside = is.few;
      few = omega arith;
      room = c.requires;
      read = begun-read c.args.bytes.now c.first_mark-mark.result.0 c.first_mark-mark.result.1 is.mark is.is is.one
          is.none;
    }

pub loop-at-preserved : goal.loop-at-preserved
loop-at-preserved c =
    let is = c.numeral-value.ensures in
    let count : ℕ = c.loop-at.count in
    let params : List ℕ = c.loop-at.params in
    let some : c.loop-at.at + c.numeral-value.result.1 ≤ length c.args.bytes.now =
    omega (arith, is.few, c.saturating_sub-end.ensures, c.loop-at-test.true) in
    let behind = numeral-behind c.args.bytes.now c.loop-at.at c.numeral-value.result.1 c.numeral-value.result.0
    c.numeral-value.result.2 c.first_mark-mark.result.0 (take count params) some is.some c.loop-at.invariant.read
    is.value is.digits is.behind in
    let few : count + 1 < 16 = omega arith in
    record {
      inside = some;
      few = few;
      room = length-set params count c.numeral-value.result.0 ∙ c.loop-at.invariant.room;
      read = parameter-read c.args.bytes.now _ count c.numeral-value.result.0 c.numeral-value.result.2 _ params behind
          (omega arith) (omega (arith, few)) (omega (arith, few, c.loop-at.invariant.room));
    }

pub returns-then-c-le126-clause-reads : goal.returns-then-c-le126-clause-reads
returns-then-c-le126-clause-reads c = λ positive.
    let is = c.numeral-value.ensures in
    let count : ℕ = c.loop-at.count in
    let params : List ℕ = c.loop-at.params in
    let some : c.loop-at.at + c.numeral-value.result.1 ≤ length c.args.bytes.now =
    omega (arith, is.few, c.saturating_sub-end.ensures, c.loop-at-test.true) in
    let behind = numeral-behind c.args.bytes.now c.loop-at.at c.numeral-value.result.1 c.numeral-value.result.0
    c.numeral-value.result.2 c.first_mark-mark.result.0 (take count params) some is.some c.loop-at.invariant.read
    is.value is.digits is.behind in
    final-read c.args.bytes.now _ count c.numeral-value.result.0 c.numeral-value.result.2 _ params behind
    c.if-c-ge64.true (omega (arith, c.if-c-le126.true))
    (omega (arith, c.loop-at.invariant.few, c.loop-at.invariant.room))
