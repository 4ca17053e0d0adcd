use Rattle.std.proofs.Common.{rules, ◌≡◌, ℕ, List, Some, sym, subst}
use Rattle.std.specs.Path.{path_bytes, path_parent}
use Rattle.std.specs.Path.Iter.{ancestors_next}
use Rattle.server_system.specs.Folders.{Begin, GoesUp, IsTrusted, Up}
use Rattle.server_system.proofs.Climbing.{first_too}
use Rattle.server_system.proofs.folders.first_open.Goals as goal

pub loop-folder-init : goal.loop-folder-init
loop-folder-init g c =
    let from : ancestors_next c.into_iter-folder-iterator.result ≡ Some (path_bytes c.args.holder) = search rules in (
      subst (GoesUp (IsTrusted g.R.Host c.args.host.now c.args.account) (path_bytes c.args.holder)) (sym from) Begin,
      (λ auto. from),
      (λ no. cc),
    )

pub loop-folder-preserved : goal.loop-folder-preserved
loop-folder-preserved g c =
    let P : List ℕ → Type 0 = IsTrusted g.R.Host c.args.host.now c.args.account in
    let here : ancestors_next c.loop-folder.folder-iterator ≡ Some (path_bytes c.in-Some.folder) = search rules in
    let up : ancestors_next c.next.new.self ≡ path_parent (path_bytes c.in-Some.folder) = search rules in
    let it : P (path_bytes c.in-Some.folder) = search rules in
    let so_far = c.loop-folder.invariant in (
      subst (GoesUp P (path_bytes c.args.holder)) (sym up)
          (Up (path_bytes c.in-Some.folder) (subst (GoesUp P (path_bytes c.args.holder)) here so_far.0) it),
      (λ no. cc),
      (λ auto. first_too P c.loop-folder.is_above _ so_far.1 so_far.2 here it),
    )
