use Rattle.std.proofs.Common.{sym, subst}
use Rattle.client_peer.specs.declared.peer.Peer.{Peer}
use Rattle.client_peer.specs.Meeting.{StaysClosed}
use Rattle.client_peer.specs.Showing.{PassesOn, StopsAt}
use Rattle.client_peer.proofs.Closing.{closed_same, closed_then}
use Rattle.client_peer.proofs.Passing.{on_err_given, passes_keeps, passes_same, passes_heard, passes_stops, passes_then}
use Rattle.client_peer.proofs.peer.Peer.take.Goals.{then-told+in_ok-welcome, else-told, in-Some+in_ok-hear, in_default}
use Rattle.client_peer.proofs.peer.Peer.take.Goals as goal

pub returns-clause-ok : goal.returns-clause-ok
returns-clause-ok c =
    let first : Peer = c.put_message.new.self in
    let second : Peer = c.if-told.self in
    let last : Peer = c.match-told-4.self in
    let welcomed : PassesOn first second = elim c.if-told.branch [
      | then-told+in_ok-welcome w ↦
          subst (PassesOn first) (sym w.self-is) (passes_keeps first w.welcome.new.self w.welcome.ensures.keeps)
      | else-told w ↦ subst (PassesOn first) (sym w.self-is) (passes_same first)
    ] in
    let heard : PassesOn second last = elim c.match-told-4.branch [
      | in-Some+in_ok-hear w ↦
          subst (PassesOn second) (sym w.self-is)
          (passes_heard second w.hear.new.self w.hear.ensures.subcommand w.hear.ensures.keeps)
      | in_default w ↦ subst (PassesOn second) (sym w.self-is) (passes_same second)
    ] in
    passes_then c.args.self.now first last c.in_ok-put_message.ensures.ok
    (passes_then first second last welcomed heard)

pub returns-clause-closed : goal.returns-clause-closed
returns-clause-closed c =
    let first : Peer = c.put_message.new.self in
    let second : Peer = c.if-told.self in
    let last : Peer = c.match-told-4.self in
    let welcomed : StaysClosed first second = elim c.if-told.branch [
      | then-told+in_ok-welcome w ↦ subst (StaysClosed first) (sym w.self-is) w.welcome.ensures.closed
      | else-told w ↦ subst (StaysClosed first) (sym w.self-is) (closed_same first)
    ] in
    let heard : StaysClosed second last = elim c.match-told-4.branch [
      | in-Some+in_ok-hear w ↦ subst (StaysClosed second) (sym w.self-is) w.hear.ensures.closed
      | in_default w ↦ subst (StaysClosed second) (sym w.self-is) (closed_same second)
    ] in
    closed_then c.args.self.now first last c.in_ok-put_message.ensures.closed
    (closed_then first second last welcomed heard)

pub returns-in_err-note-clause-err : goal.returns-in_err-note-clause-err
returns-in_err-note-clause-err c =
    let old : Peer = c.args.self.now in
    on_err_given {P = StopsAt old old} c.from_residual.result (passes_stops old old (passes_same old))
