use Rattle.std.proofs.Common.{rules, ◌≡◌, inl, inr, subst}
use Rattle.std.proofs.lemmas.Result.{err_from_is_err_and}
use Rattle.std.specs.Prelude.{◌<◌, ◌≤◌, Ok, length}
use Rattle.std.specs.String.{string_bytes}
use Rattle.server_system.specs.Folders.{IsHeld}
use Rattle.server_system.specs.Locks.{IsLocked, IsUnlocked}
use Rattle.server_system.specs.Paths.{IsFree, IsThere, IsUnheard, lock_of}
use Rattle.server_system.proofs.socket.listen.Goals as goal
use Rattle.server_system.proofs.socket.listen.Goals.{then-branch+in_ok-is_served+else-branch-2+in_ok-remove, else-branch}

pub returns-in_err-lock-clause-fault : goal.returns-in_err-lock-clause-fault
returns-in_err-lock-clause-fault g c =
    let named : string_bytes c.in-Ok.name ≡ lock_of c.args.path.now = search rules in
    let told : IsUnlocked g.R.Host c.args.rt.now (string_bytes c.in-Ok.name) c.in_err-lock.field-0.0 = search rules in
    let locked : IsUnlocked g.R.Host c.args.rt.now (lock_of c.args.path.now) c.in_err-lock.field-0.0 =
    subst (λ name. IsUnlocked g.R.Host c.args.rt.now name c.in_err-lock.field-0.0) named told in
    let unheard : IsUnheard g.R.Host c.args.rt.now c.args.path.now c.in_err-lock.field-0.0 = inr locked in
    let p = err_from_is_err_and c.from_residual-in_err-lock.result c.from_residual-in_err-lock.ensures.1 in
    rw (p.1, p.2) unheard

pub returns-clause-listens : goal.returns-clause-listens
returns-clause-listens g c =
    let some : 0 < length c.args.path.now = search rules in
    let short : length c.args.path.now ≤ 107 = search rules in
    let held : IsHeld g.R.Host c.args.rt.now c.args.path.now = search rules in
    let locked : IsLocked g.R.Host c.args.rt.now (lock_of c.args.path.now) c.in_ok-lock.lock = search rules in
    let free : IsFree g.R.Host c.args.rt.now c.args.path.now c.in_ok-lock.lock = elim c.if-branch.branch [
      | then-branch+in_ok-is_served+else-branch-2+in_ok-remove w ↦ inr (
        subst (IsThere g.R.Host c.args.rt.now c.args.path.now) w.if-branch.true c.in_ok-is_there-2.ensures.there,
        subst (λ is. g.R.Host.serves c.args.rt.now c.args.path.now (Ok is)) w.if-branch-2.false
            w.in_ok-is_served.ensures,
        w.in_ok-remove.ensures,
      )
      | else-branch w ↦
          inl (subst (IsThere g.R.Host c.args.rt.now c.args.path.now) w.if-branch.false c.in_ok-is_there-2.ensures.there)
    ] in
    record {
      some = some;
      short = short;
      held = held;
      locked = locked;
      free = free;
      bound = c.in_ok-listener.ensures;
    }
