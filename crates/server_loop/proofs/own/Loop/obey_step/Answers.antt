use Rattle.std.specs.Prelude.{◌==◌, ◌&&◌}
use Rattle.server_loop.proofs.Vocabulary.{◌≡◌, true, false, ap, refl, rules, Connections, state_of}
use Rattle.server_loop.specs.Submitting.{peer_at}
use Rattle.server_steps.specs.Asking.{is_window_at}
use Rattle.server_loop.proofs.Telling.{if_false, if_true}
use Rattle.server_loop.proofs.own.Loop.obey_step.Goals as goal

pub returns-then-waits : goal.returns-then-waits
returns-then-waits g c =
    let old = state_of c.args.self.now in
    let yes : ((old.output_left == 0) && is_window_at (peer_at c.args.key old)) ≡ true = search rules in
    if_true _ _ _ yes (refl, refl)

pub returns : goal.returns
returns g c =
    let old = state_of c.args.self.now in
    let no : ((old.output_left == 0) && is_window_at (peer_at c.args.key old)) ≡ false = search rules in
    if_false _ _ _ no (
      c.obey_first-progress.result,
      state_of c.obey_first-progress.new.self,
      c.obey_first-progress.ensures,
      c.go_on.ensures.goes,
      ap (λ (s : Connections g.row.S.Denot). record (state_of c.obey_first-progress.new.self) { connections = s })
          c.go_on.ensures.held,
    )
