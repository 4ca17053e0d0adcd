use Rattle.acl.proofs.Vocabulary.{◌∙◌, ap, arith, length, Row, without_leader, mapped_below-all, length-mapped_below}
use Rattle.acl.proofs.InPlace.{set_value_at-more, revalued}
use Rattle.acl.proofs.rows.forget_leader.Goals as goal

pub pair_mut-row-requires : goal.pair_mut-row-requires
pair_mut-row-requires c = omega (
  arith,
  c.len-i-end.ensures.len,
  ap length c.loop-i.invariant.done,
  length-mapped_below
      (revalued (λ e. without_leader c.args.gone e.1)) c.loop-i.i c.args.rows.now.entries,
)

pub loop-i-preserved : goal.loop-i-preserved
loop-i-preserved c = record {
  done = set_value_at-more (λ e. without_leader c.args.gone e.1) c.loop-i.i c.args.rows.now.entries
      c.loop-i.rows.entries _ _ _ c.loop-i.invariant.done c.pair_mut-row.ensures.value
      (ap (λ leaders. let row : Row = record c.pair_mut-row.result.1.now { leaders = leaders } in row)
      c.without-row.ensures);
  room = c.loop-i.invariant.room;
}

pub returns-clause-forgotten : goal.returns-clause-forgotten
returns-clause-forgotten c = c.loop-i.invariant.done
    ∙ mapped_below-all (revalued (λ e. without_leader c.args.gone e.1)) c.loop-i.i c.args.rows.now.entries
    (omega (arith, c.len-i-end.ensures.len))
