use Rattle.std.proofs.Common.{◌≡◌, ◌+◌, ◌≤◌, ◌++◌, sym, ◌∙◌, ap, arith, true}
use Rattle.std.specs.Prelude.{is_ok, vec_len, vec_capacity}
use Rattle.server_trail.specs.declared.merge.Merge.{Merge}
use Rattle.server_trail.specs.Merging.{IsMerging, early_bytes}
use Rattle.server_trail.proofs.Merging.{made_ready, removed, fits}
use Rattle.server_trail.proofs.merge.Merge.advance.Goals as goal

pub early-preserved : goal.early-preserved
early-preserved c = λ put taken h.
    let m : Merge = c.early.self in
    let n : Merge = record {
      next = c.saturating_add-self.result;
      ready = c.extend_from_slice.new.self;
      early = c.remove.new.self;
      held = c.saturating_sub-self.result;
    } in
    let before : IsMerging put taken m = c.early.invariant put taken h in
    let sum : early_bytes n + vec_len c.in-Some.line ≡ early_bytes m = removed m n m.next c.in-Some.line
    c.in-Some.ensures.entries (sym c.in-Some.ensures.value) in
    let room : vec_len m.ready + vec_len c.in-Some.line ≤ vec_capacity m.ready = fits put taken m n _
    before sum in
    let ok : is_ok c.extend_from_slice.result ≡ true = c.extend_from_slice.ensures.succeeds
    (omega (arith, room)) in
    made_ready put taken m n c.in-Some.line before (sym c.in-Some.ensures.value)
    (c.in-Some.ensures.updates.1, c.in-Some.ensures.updates.2)
    (λ lt. omega (arith, lt))
    ((rw ok at c.extend_from_slice.ensures.items) ∙ ap (λ l. m.ready.items ++ l) c.deref.ensures.value)
    (let e = rw ok at c.extend_from_slice.ensures.len in omega (arith, e))
    c.extend_from_slice.ensures.capacity
    (omega arith)
    sum
