use Rattle.std.proofs.Common.{rules, ℕ, List, inr}
use Rattle.std.specs.Prelude.{Option, Some, None, Result, Ok, Err}
use Rattle.std.specs.Path.{path_buf_bytes}
use Rattle.std.specs.declared.alloc.Global.{Global}
use Rattle.std.specs.declared.io.Error.{Error}
use Rattle.std.specs.declared.path.PathBuf.{PathBuf}
use Rattle.server_system.specs.Folders.{IsClimbed, IsHeld, IsLooked, IsTrusted, holder_of}
use Rattle.server_system.specs.declared.folders.OpenFolder.{OpenFolder}
use Rattle.server_system.specs.declared.host.Host.{Ghosts}
use Rattle.server_system.proofs.folders.open_folder.Goals as goal

module _ {R A B C : Type 0} (system : Ghosts R A B C) (host : R) (account : ℕ) (path : List ℕ) (there : PathBuf Global)
    (runs : system.runs_as host account) (leads : system.leads host (holder_of path) (Ok there)) where
  held : IsTrusted system host account (path_buf_bytes there) → IsHeld system host path
  held trusted = record { account = account; runs = runs; folder = there; leads = leads; trusted = trusted }

  looked : (found : Result (Option OpenFolder) Error) → IsClimbed system host account (path_buf_bytes there) found
      → IsLooked system host path found
  looked (Ok None) climbed = (λ _. held climbed.0.0, tt)
  looked (Ok (Some folder)) climbed = (λ passes. held (climbed.0 passes), (account, there, runs, leads, climbed.1))
  looked (Err why) climbed = inr climbed

pub returns : goal.returns
returns g c =
    let leads : g.R.Host.leads c.args.host.now (holder_of c.args.path.now) (Ok c.in_ok-there.there) = search rules in
    let climbed : IsClimbed g.R.Host c.args.host.now c.account.result (path_buf_bytes c.in_ok-there.there)
    c.first_open.result = search rules in
    looked g.R.Host c.args.host.now c.account.result c.args.path.now c.in_ok-there.there c.account.ensures leads
    c.first_open.result climbed
