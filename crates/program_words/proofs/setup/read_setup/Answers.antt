use Rattle.std.proofs.Common.{rules, tests, ◌≡◌, ◌+◌, ap, ◌∙◌, inr}
use Rattle.std.proofs.lemmas.Iterator.Consumers.{map_from_collect}
use Rattle.std.proofs.lemmas.Iterator.Splits.{YieldsList-from_slice_split}
use Rattle.std.specs.List.{slice_split}
use Rattle.program_words.specs.SetupLines.{is_feed}
use Rattle.program_words.proofs.SetupReading.{texts, of_ok, if_err, begin_at, skip_at, push_at, stop_at, end_at}
use Rattle.program_words.proofs.setup.read_setup.Goals as goal
use Rattle.program_words.proofs.setup.read_setup.Goals.{then-not-is_skipped+in_ok-text+in_ok-push, else-not-is_skipped}

pub loop-part-init : goal.loop-part-init
loop-part-init c = (
  search rules,
  begin_at c.args.file.now c.new-lines.result.items c.deref-part-items.result.now c.new-lines.ensures.items
      (ap texts c.deref-part-items.ensures.value
      ∙ of_ok c.collect.result c.in_ok-parts.parts (λ v. texts v.items ≡ slice_split is_feed c.args.file.now)
      c.in_ok-parts.was
      (map_from_collect _ c.collect.ensures.ran
      (YieldsList-from_slice_split _ _ c.args.file.now c.split.ensures.rest c.split.ensures.done
      c.split.ensures.closure (λ x r q k. search (rules, tests))))),
)

pub returns-in_err-text-clause-err : goal.returns-in_err-text-clause-err
returns-in_err-text-clause-err c =
    if_err c.from_residual-in_err-text.result c.in_err-text.field-0.0 _ c.from_residual-in_err-text.ensures.1
    (inr (stop_at c.args.file.now _ c.deref-part-items.result.now c.loop-part.part-index _ _ c.is_skipped.result
    c.in_err-text.field-0.0 c.loop-part-test.true
    c.is_skipped.ensures c.if-not-is_skipped.true (ap (λ n. n + 1) c.loop-part.invariant.0) c.in_err-text.ensures.err
    c.loop-part.invariant.1))

pub loop-part-preserved : goal.loop-part-preserved
loop-part-preserved c = (
  ap (λ n. n + 1) c.loop-part.invariant.0,
  elim c.if-not-is_skipped.branch [
    | then-not-is_skipped+in_ok-text+in_ok-push w ↦
        push_at c.args.file.now c.loop-part.lines.items c.if-not-is_skipped.lines.items _ c.deref-part-items.result.now
        c.loop-part.part-index _ c.is_skipped.result c.loop-part-test.true
        c.is_skipped.ensures w.if-not-is_skipped.true (ap (λ n. n + 1) c.loop-part.invariant.0)
        w.in_ok-text.ensures.ok.0 w.in_ok-text.ensures.ok.1
        (ap (λ v. v.items) w.lines-is ∙ w.in_ok-push.ensures.items) c.loop-part.invariant.1
    | else-not-is_skipped w ↦
        skip_at c.args.file.now c.loop-part.lines.items c.if-not-is_skipped.lines.items c.deref-part-items.result.now
        c.loop-part.part-index _ c.is_skipped.result c.loop-part-test.true c.is_skipped.ensures
        w.if-not-is_skipped.false
        (ap (λ v. v.items) w.lines-is) c.loop-part.invariant.1
  ],
)

pub returns-clause-ok : goal.returns-clause-ok
returns-clause-ok c = end_at c.args.file.now _ c.deref-part-items.result.now c.loop-part.part-index
    c.loop-part-test.false c.loop-part.invariant.1
