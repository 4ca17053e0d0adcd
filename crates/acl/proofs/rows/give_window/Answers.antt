use Rattle.acl.proofs.Vocabulary.{◌≡◌, ◌∙◌, slice_get, Some, ap, sym, subst, arith, length, below_more, UserId, Row}
use Rattle.acl.proofs.Vocabulary.{same_user, opening_bits, with_window, mapped_below-all, length-mapped_below}
use Rattle.acl.proofs.InPlace.{set_value_at-more, revalued, slice_get-mapped_below, slice_get-within, looked_up}
use Rattle.acl.proofs.rows.give_window.Goals as goal

some_value : (p q : UserId × Row) → Some p ≡ Some q → p.1 ≡ q.1
some_value p q e = cc

pub pair_mut-row-requires : goal.pair_mut-row-requires
pair_mut-row-requires c = omega (
  arith,
  c.len-i-end.ensures.len,
  ap length c.loop-i.invariant.done,
  length-mapped_below
      (revalued (λ e. with_window c.args.slot (opening_bits c.args.masks.now.entries c.args.by e.0) e.1)) c.loop-i.i
      c.args.rows.now.entries,
)

pub loop-i-preserved : goal.loop-i-preserved
loop-i-preserved c = record {
  done = set_value_at-more (λ e. with_window c.args.slot (opening_bits c.args.masks.now.entries c.args.by e.0) e.1)
      c.loop-i.i c.args.rows.now.entries c.loop-i.rows.entries _ _ _ c.loop-i.invariant.done
      c.pair_mut-row.ensures.value
      (ap (λ bits. with_window c.args.slot bits c.pair_mut-row.result.1.now) c.opening_bits.ensures);
  wide = below_more _ c.loop-i.i c.loop-i.invariant.wide
      (λ k v at.
      let told : length c.pair_mut-row.result.1.now.windows ≡ 40 = omega arith in
      let here = sym
      (slice_get-mapped_below
      (revalued (λ e. with_window c.args.slot (opening_bits c.args.masks.now.entries c.args.by e.0) e.1)) c.loop-i.i
      c.args.rows.now.entries) ∙ ap (λ es. slice_get es c.loop-i.i) (sym c.loop-i.invariant.done) in
      let same : c.pair_mut-row.result.1.now ≡ v = some_value (c.pair_mut-row.result.0.now, c.pair_mut-row.result.1.now)
      (k, v) (sym c.pair_mut-row.ensures.value ∙ sym here ∙ at) in
      subst (λ (r : Row). length r.windows ≡ 40) same told);
}

pub returns-clause-given : goal.returns-clause-given
returns-clause-given c = c.loop-i.invariant.done
    ∙ mapped_below-all
    (revalued (λ e. with_window c.args.slot (opening_bits c.args.masks.now.entries c.args.by e.0) e.1)) c.loop-i.i
    c.args.rows.now.entries (omega (arith, c.len-i-end.ensures.len))

pub returns-clause-wide : goal.returns-clause-wide
returns-clause-wide c = λ user row at. looked_up (λ v. length v.windows ≡ 40) (same_user user) c.args.rows.now.entries
    (λ j k v e. c.loop-i.invariant.wide j
    (omega (arith, slice_get-within c.args.rows.now.entries j (k, v) e, c.len-i-end.ensures.len)) k v e) row at
