use Rattle.std.proofs.Common.{◌≡◌, ◌++◌, ◌∷◌, ◌∙◌, [], ℕ, List, Option, Some, length, subst, arith}
use Rattle.trail_lines.specs.Entries.{read_line}
use Rattle.trail_lines.specs.Halting.{NextIs}
use Rattle.trail_lines.specs.Lines.{OfKnown}
use Rattle.trail_lines.specs.declared.audit.Wrong.{Wrong}
use Rattle.trail_lines.specs.declared.halt.Halt.{Halt}
use Rattle.trail_lines.proofs.Halted.{count_in, count_more, read_more}
use Rattle.mux_trail.specs.Reading.{TakesNext}
use Rattle.mux_trail.proofs.reading.take_entries.Goals as goal

pub loop-number-preserved : goal.loop-number-preserved
loop-number-preserved g c = λ edition owner fresh.
    let come = c.loop-number.invariant edition owner fresh in
    let first = c.args.taker.now in
    let counted : c.count.result ≡ length come.0 = c.count.ensures first edition owner come.0 come.1
    ∙ count_in come.0 in
    let next = subst (λ (h : Option Halt). OfKnown (g.R.Read.remaining c.loop-number.reader)
    (g.R.Read.remaining c.next_entry.new.reader) (NextIs h c.loop-number.number c.next_entry.new.line.items))
    c.in_default.is c.in_ok-halt.ensures.next in
    let took = subst (λ (w : Option Wrong). TakesNext (g.T.TakesEntries.has_taken first c.take.new.self edition owner)
    w c.as_slice.result.now edition owner come.0) c.in-None.is
    (c.in_ok-take.ensures first edition owner come.0 come.1) in
    let x = took.0 in
    let is = subst (λ (line : List ℕ). read_line line ≡ Some x) c.as_slice.ensures.value took.1 in (
      come.0 ++ x ∷ [],
      took.2,
      omega (arith, come.2, count_more come.0 x),
      omega (arith, counted, c.if-count-last.false, count_more come.0 x),
      read_more come.0 x c.next_entry.new.line.items c.loop-number.number _ _ _ come.4 next is,
    )
