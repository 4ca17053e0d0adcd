use Rattle.std.proofs.Common.{◌<◌, ◌≤◌, ◌-◌, ◌∙◌, ℕ, ap, subst}
use Rattle.server_connections.specs.Marked.{IsMarked}
use Rattle.server_connections.specs.Walking.{Walks}
use Rattle.server_connections.specs.declared.connections.Connections.{Connections}
use Rattle.server_connections.proofs.Walking.{no_key, past_end, visited_by, with_visit, without_visit}
use Rattle.server_connections.proofs.connections.each_awake.Goals.{in_default-via-in-Some+else-key-end}
use Rattle.server_connections.proofs.connections.each_awake.Goals.{in_default-via-in_default}
use Rattle.server_connections.proofs.connections.each_awake.Goals as goal

pub returns-in_default : goal.returns-in_default
returns-in_default g c =
    let end = c.end-end.result in
    let words = c.connections-in-visits.result.now.awake in
    let none : (key : ℕ) → c.visits.from ≤ key → key < c.end-end.result
    → IsMarked c.connections-in-visits.result.now.awake key → ⊥ = elim c.in_default.branch [
      | in_default-via-in-Some+else-key-end w ↦
          past_end words c.visits.from end w.in-Some.key w.in-Some.ensures.some w.if-key-end.false
      | in_default-via-in_default w ↦
          no_key words c.visits.from end c.next_awake.result w.in_default.not-Some c.next_awake.ensures.none
    ] in
    let walked = c.visits.invariant.1 c.visits.holder (without_visit (λ h. (g.T.HasConnections.held h).awake)
    (goal.F-post g c.args.visit) (end - c.visits.counter) c.visits.from end words c.visits.holder
    (ap (λ (s : Connections g.row.S.Denot). s.awake) c.connections-in-visits.ensures) none) in
    subst (λ (n : ℕ). Walks (λ h. (g.T.HasConnections.held h).awake) (goal.F-post g c.args.visit) n 0 n
    c.args.holder.now c.visits.holder)
    (c.end-end.ensures.end ∙ ap (λ (s : Connections g.row.S.Denot). s.peers.capacity) c.connections.ensures) walked

pub visits-preserved : goal.visits-preserved
visits-preserved g c = (
  c.visits.invariant.0,
  λ new rest. c.visits.invariant.1 new (
      with_visit (λ h. (g.T.HasConnections.held h).awake) (goal.F-post g c.args.visit)
      c.end-end.result c.visits.counter c.visits.from c.in-Some.key c.connections-in-visits.result.now.awake
      c.visits.holder c.visit.new.arg2 new
      (ap (λ (s : Connections g.row.S.Denot). s.awake) c.connections-in-visits.ensures)
      c.visits-test.true c.if-key-end.true c.in-Some.ensures.some
      (visited_by (λ h. (g.T.HasConnections.held h).awake) (goal.F-post g c.args.visit) _ _ c.in-Some.key
      c.visit.ensures)
      rest),
)
