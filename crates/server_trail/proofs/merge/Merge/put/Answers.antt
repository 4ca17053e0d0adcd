use Rattle.std.proofs.Common.{◌≡◌, ◌+◌, ◌++◌, ◌∷◌, [], refl, sym, ◌∙◌, arith}
use Rattle.std.specs.Prelude.{vec_len}
use Rattle.server_trail.specs.declared.merge.Merge.{Merge}
use Rattle.server_trail.specs.Merging.{early_bytes}
use Rattle.server_trail.proofs.Merging.{put_down, dropped, has_early, inserted}
use Rattle.server_trail.proofs.merge.Merge.put.Goals as goal
use Rattle.server_trail.proofs.merge.Merge.put.Goals.{then-place-self-via-then-place-self}
use Rattle.server_trail.proofs.merge.Merge.put.Goals.{then-place-self-via-else-place-self+then-contains_key}

pub returns-then-place-self-clause-ok : goal.returns-then-place-self-clause-ok
returns-then-place-self-clause-ok c = λ put taken h. elim c.then-place-self.branch [
  | then-place-self-via-then-place-self w ↦ dropped put taken c.args.self.now (c.args.place, c.args.line.items) h
      (h.in_order.whole c.args.place w.if-place-self.true)
  | then-place-self-via-else-place-self+then-contains_key w ↦
      dropped put taken c.args.self.now (c.args.place, c.args.line.items) h
      (has_early put taken c.args.self.now c.args.place h w.if-place-self.false
      (sym w.contains_key.ensures ∙ w.if-contains_key.true))
]

pub returns-clause-ok : goal.returns-clause-ok
returns-clause-ok c = λ put taken h.
    let m : Merge = c.args.self.now in
    let n : Merge = record {
      next = c.args.self.now.next;
      ready = c.reserve.new.self;
      early = c.insert.new.self;
      held = c.in-Some.held;
    } in
    let absent = sym c.contains_key.ensures ∙ c.if-contains_key.false in
    let sum : early_bytes n ≡ early_bytes m + vec_len c.args.line = inserted m n c.args.place c.args.line
    c.in_ok-insert.ensures.entries absent c.in_ok-insert.ensures.was_ordered in
    let held : m.held ≡ early_bytes m = h.in_order.held in
    c.advance.ensures (put ++ (c.args.place, c.args.line.items) ∷ []) taken (put_down put taken m n
    c.args.place c.args.line h absent c.if-place-self.false (omega arith) refl c.reserve.ensures.items
    (c.in_ok-insert.ensures.updates.1, c.in_ok-insert.ensures.updates.2)
    (let e = c.in-Some.ensures in omega (arith, sum, held, e))
    (let r = c.in_ok-reserve.ensures.ok in omega (arith, r)))
