use Rattle.std.proofs.Common.{rules, ◌≡◌, true, false, inl, inr}
use Rattle.std.proofs.lemmas.Option.{IfSome_then}
use Rattle.std.proofs.lemmas.Result.{err_from_is_err_and}
use Rattle.std.specs.Prelude.{Option, IfSome, Some, None, Ok, Err}
use Rattle.std.specs.Option.{option_or}
use Rattle.std.specs.Path.{path_buf_bytes}
use Rattle.server_system.specs.Folders.{IsHeld, IsLookedFile, IsOpenAt, IsOpenAtFile, IsUntold, may_pass}
use Rattle.server_system.specs.Paths.{users_path}
use Rattle.server_system.proofs.users_file.UsersFile.open_folder.Goals as goal

-- what is so of each of two is so of the one that is taken
either : {T : Type 0} (P : T → Type 0) (one other : Option T) → IfSome one P → IfSome other P
    → IfSome (option_or one other) P
either P None other p q = q
either P (Some it) other p q = p

pub returns-then-not-may_pass : goal.returns-then-not-may_pass
returns-then-not-may_pass g c =
    let no : may_pass c.in_ok-named.named ≡ false = search rules in
    let it : IfSome c.in_ok-named.named (IsOpenAt g.H.Host c.args.self.now.host (users_path c.args.self.now)) =
    search rules in
    (λ passes. cc, IfSome_then c.in_ok-named.named it (λ folder named. inl named))

pub returns-in_err-linked : goal.returns-in_err-linked
returns-in_err-linked g c =
    let leads : g.H.Host.leads c.args.self.now.host (users_path c.args.self.now) (Ok c.in_ok-there.there) =
    search rules in
    let untold : IsUntold g.H.Host c.args.self.now.host (path_buf_bytes c.in_ok-there.there) c.in_err-linked.field-0.0 =
    search rules in
    let it : IsLookedFile g.H.Host c.args.self.now.host (users_path c.args.self.now) (Err c.in_err-linked.field-0.0) =
    inr (inr (c.in_ok-there.there, leads, untold)) in
    let p = err_from_is_err_and c.from_residual-in_err-linked.result c.from_residual-in_err-linked.ensures.1 in
    rw (p.1, p.2) it

pub returns-then-may_pass : goal.returns-then-may_pass
returns-then-may_pass g c =
    let passes : may_pass c.in_ok-named.named ≡ true = search rules in
    let passes_there : may_pass c.in_ok-linked.linked ≡ true = search rules in
    let leads : g.H.Host.leads c.args.self.now.host (users_path c.args.self.now) (Ok c.in_ok-there.there) =
    search rules in
    let held : IsHeld g.H.Host c.args.self.now.host (users_path c.args.self.now) = search (rules, passes) in
    let held_there : IsHeld g.H.Host c.args.self.now.host (path_buf_bytes c.in_ok-there.there) =
    search (rules, passes_there) in
    let named : IfSome c.in_ok-named.named (IsOpenAt g.H.Host c.args.self.now.host (users_path c.args.self.now)) =
    search rules in
    let linked : IfSome c.in_ok-linked.linked (IsOpenAt g.H.Host c.args.self.now.host
    (path_buf_bytes c.in_ok-there.there)) = search rules in
    let it : IfSome (option_or c.in_ok-named.named c.in_ok-linked.linked)
    (IsOpenAtFile g.H.Host c.args.self.now.host (users_path c.args.self.now)) =
    either (IsOpenAtFile g.H.Host c.args.self.now.host (users_path c.args.self.now)) _ _
    (IfSome_then c.in_ok-named.named named (λ folder it. inl it))
    (IfSome_then c.in_ok-linked.linked linked (λ folder it. inr (c.in_ok-there.there, leads, it))) in (
      (λ _. record { held = held; there = c.in_ok-there.there; leads = leads; held_there = held_there }),
      rw c.or.ensures it,
    )

pub returns-else-may_pass : goal.returns-else-may_pass
returns-else-may_pass g c =
    let no : may_pass c.in_ok-linked.linked ≡ false = search rules in
    let leads : g.H.Host.leads c.args.self.now.host (users_path c.args.self.now) (Ok c.in_ok-there.there) =
    search rules in
    let it : IfSome c.in_ok-linked.linked (IsOpenAt g.H.Host c.args.self.now.host
    (path_buf_bytes c.in_ok-there.there)) = search rules in (
      (λ passes. cc),
      IfSome_then c.in_ok-linked.linked it (λ folder linked. inr (c.in_ok-there.there, leads, linked)),
    )
