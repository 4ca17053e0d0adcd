use Rattle.std.proofs.Common.{◌≡◌, ◌+◌, ℕ, Option, None, Some, arith, subst, sym}
use Rattle.server_steps.specs.Ending.{IsFirstNew}
use Rattle.server_steps.proofs.Visiting.{FindsOldest, older_next}
use Rattle.server_steps.proofs.ending.oldest_new.Goals as goal

pub keys-init : goal.keys-init
keys-init g c = λ k less. absurd (omega arith)

pub keys-preserved : goal.keys-preserved
keys-preserved g c =
    let peers = c.args.connections.now.peers in
    subst (λ (o : Option (ℕ × ℕ)). FindsOldest peers (c.keys.key + 1) o) (sym c.older-oldest.ensures)
    (older_next peers c.keys.key c.new_number.result c.keys.oldest c.new_number.ensures c.keys.invariant)

pub returns-clause-some : goal.returns-clause-some
returns-clause-some g c =
    let peers = c.args.connections.now.peers in
    let e : c.keys.key ≡ peers.capacity = omega (arith, c.end-key-end.ensures.end) in
    let found : FindsOldest peers c.keys.key (Some c.in-Some.found) =
    subst (λ (o : Option (ℕ × ℕ)). FindsOldest peers c.keys.key o) c.in-Some.is c.keys.invariant in
    (c.in-Some.found.0, subst (λ (n : ℕ). IsFirstNew peers n c.in-Some.found.0 c.in-Some.found.1) e found)

pub returns-in_default-clause-none : goal.returns-in_default-clause-none
returns-in_default-clause-none g c = λ is_none k less.
    let peers = c.args.connections.now.peers in
    let e : c.keys.key ≡ peers.capacity = omega (arith, c.end-key-end.ensures.end) in
    let none : FindsOldest peers c.keys.key None =
    subst (λ (o : Option (ℕ × ℕ)). FindsOldest peers c.keys.key o) c.in_default.is c.keys.invariant in
    none k (omega arith)
