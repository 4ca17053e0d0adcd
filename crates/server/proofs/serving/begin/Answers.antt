use Rattle.std.proofs.Common.{◌≡◌, ℕ, List, Bool, true, Result, Ok, Err, subst}
use Rattle.std.specs.Prelude.{IfOk, is_some}
use Rattle.std.specs.declared.alloc.Global.{Global}
use Rattle.std.specs.declared.io.Error.{Error}
use Rattle.std.specs.declared.vec.Vec.{Vec}
use Rattle.server_session.specs.SettingUp.{agrees, setup_of, users_of}
use Rattle.server_outcome.specs.declared.fault.ServeFault.{ServeFault}
use Rattle.server_system.specs.declared.host.Host.{Ghosts}
use Rattle.server.specs.Starting.{IsKeptFor, IsStartOf}
use Rattle.server.specs.declared.loops.KeptSession.{KeptSession}
use Rattle.server.specs.declared.starting.Options.{Options}
use Rattle.server.specs.declared.starting.ServerStart.{ServerStart}
use Rattle.server.proofs.serving.begin.Goals as goal

module _ {R A B C : Type 0} (system : Ghosts R A B C) (reads : List ℕ → Result (Vec ℕ Global) Error → Type 0)
    (host : R) (o : Options) where
  kept_for : (b : ServerStart) (result : Result KeptSession ServeFault) → IsStartOf system reads host o b
      → IfOk result (λ (k : KeptSession). users_of k.session ≡ b.users)
      → IfOk result (λ (k : KeptSession). setup_of k.session ≡ b.setup.items)
      → IfOk result (λ (k : KeptSession). agrees k.session ≡ true)
      → IfOk result (λ (k : KeptSession). is_some k.trail ≡ is_some o.trail)
      → IfOk result (IsKeptFor system reads host o)
  kept_for b (Ok k) is users began ends trail =
      record { start = b; began_so = is; users = users; setup = began; agrees_with = ends; trail = trail }
  kept_for b (Err why) is users began ends trail = tt

pub returns : goal.returns
returns g c = kept_for g.R.Host (g.R.SetupHost.reads c.args.rt.now) c.args.rt.now c.args.options.now
    c.args.beginning c.serve.result c.requires c.serve.ensures.users c.serve.ensures.setup c.serve.ensures.agrees
    (subst (λ (b : Bool). IfOk c.serve.result (λ (k : KeptSession). is_some k.trail ≡ b)) c.in_ok-journal.ensures.there
    c.serve.ensures.trail)
