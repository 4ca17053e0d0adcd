use Rattle.std.proofs.Common.{◌≡◌, ◌∙◌, refl, ap, rules, IsSome}
use Rattle.std.proofs.lemmas.Result.{on_err_weaker}
use Rattle.client_peer.specs.declared.peer.Peer.{Peer}
use Rattle.client_peer.specs.Acting.{ActsIf, ActsInTime, IsUnmoved}
use Rattle.client_peer.specs.Looking.{IsToLeave}
use Rattle.client_peer.proofs.Ending.{Awaits, awaits_late, awaits_none, ends_in_time}
use Rattle.client_peer.proofs.Waiting.{acts_end, acts_open, begins_end, begins_open, beside, beside_by}
use Rattle.client_peer.proofs.Waiting.{false_true, if_ok_by, leaves_then, rest_end, rest_open, stays_on, unmoved}
use Rattle.client_peer.proofs.peer.Peer.look.Goals.{then-is_late, else-is_late}
use Rattle.client_peer.proofs.peer.Peer.look.Goals as goal

pub returns : goal.returns
returns c =
    let old : Peer = c.args.self.now in
    let first : Peer = c.look_at_leaving.new.self in
    let second : Peer = c.look_at_loss.new.self in
    let third : Peer = c.if-is_late.self in
    let new : Peer = c.look_open.new.self in
    let awaits : Awaits second c.args.now third = elim c.if-is_late.branch [
      | then-is_late w ↦
          awaits_late second third c.args.now (w.if-is_late.ensures.0 refl) (w.self-is ∙ w.end_by.ensures.ends)
      | else-is_late w ↦
          awaits_none second third c.args.now (λ l. false_true (w.if-is_late.ensures.1 l)) w.self-is
    ] in
    let same : third ≡ beside old c.args.now third =
    beside_by old first second third c.args.now c.look_at_leaving.ensures.leaves c.in_default.is
    c.look_at_loss.ensures.rest awaits.rest in
    let stays : IsToLeave old c.args.now → ⊥ =
    stays_on old first c.args.now c.look_at_leaving.ensures.leaves c.in_default.is in record {
      next = c.look_open.ensures.next;
      leaves = leaves_then old first c.args.now c.look_at_leaving.ensures.leaves new (search rules) (search rules)
          (search rules);
      acts = if_ok_by c.look_open.result (λ next. ActsIf third c.args.now next new)
          (λ next. ActsInTime old c.args.now next new) (λ next a. acts_open old third new c.args.now same next stays a)
          c.look_open.ensures.acts;
      err = on_err_weaker {P = IsUnmoved third new} {Q = IsUnmoved old new} c.look_open.result
          (λ u. unmoved old third new c.args.now same u) c.look_open.ensures.err;
      rest = rest_open old third new c.args.now same c.look_open.ensures.same;
      begins = begins_open old third new c.args.now c.look_open.result same c.look_open.ensures.begins;
      ends = ends_in_time old first second third new c.args.now c.look_at_leaving.ensures.same c.look_at_loss.ensures
          awaits (ap (λ (p : Peer). p.end) c.look_open.ensures.same)
          (ap (λ (p : Peer). p.is_final) c.look_open.ensures.same);
    }

pub returns-then-is_some : goal.returns-then-is_some
returns-then-is_some c =
    let old : Peer = c.args.self.now in
    let first : Peer = c.look_at_leaving.new.self in
    let second : Peer = c.look_at_loss.new.self in
    let third : Peer = c.if-is_late.self in
    let new : Peer = c.look_at_end.new.self in
    let awaits : Awaits second c.args.now third = elim c.if-is_late.branch [
      | then-is_late w ↦
          awaits_late second third c.args.now (w.if-is_late.ensures.0 refl) (w.self-is ∙ w.end_by.ensures.ends)
      | else-is_late w ↦
          awaits_none second third c.args.now (λ l. false_true (w.if-is_late.ensures.1 l)) w.self-is
    ] in
    let same : third ≡ beside old c.args.now third =
    beside_by old first second third c.args.now c.look_at_leaving.ensures.leaves c.in_default.is
    c.look_at_loss.ensures.rest awaits.rest in
    let stays : IsToLeave old c.args.now → ⊥ =
    stays_on old first c.args.now c.look_at_leaving.ensures.leaves c.in_default.is in
    let ended : IsSome third.end = search rules in record {
      next = c.look_at_end.ensures.next;
      leaves = leaves_then old first c.args.now c.look_at_leaving.ensures.leaves new (search rules) (search rules)
          (search rules);
      acts = acts_end old third new c.args.now same ended c.look_at_end.ensures.same c.look_at_end.result stays;
      err = tt;
      rest = rest_end old third new c.args.now same ended c.look_at_end.ensures.same;
      begins = begins_end old third new c.args.now c.look_at_end.result same ended c.look_at_end.ensures.same
          c.look_at_end.ensures.next;
      ends = ends_in_time old first second third new c.args.now c.look_at_leaving.ensures.same c.look_at_loss.ensures
          awaits (ap (λ (p : Peer). p.end) c.look_at_end.ensures.same)
          (ap (λ (p : Peer). p.is_final) c.look_at_end.ensures.same);
    }
