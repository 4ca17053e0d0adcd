use Rattle.std.proofs.Common.{rules, inr}
use Rattle.std.proofs.lemmas.Result.{err_from_is_err_and}
use Rattle.std.specs.Prelude.{Ok}
use Rattle.server_system.specs.Folders.{IsHeldFile}
use Rattle.server_system.specs.Looking.{AreOf, IsPlain, IsUnreadOf, IsWrong}
use Rattle.server_system.specs.Paths.{users_path}
use Rattle.server_system.proofs.users_file.UsersFile.read.Goals as goal

pub returns-in_err-users-clause-err : goal.returns-in_err-users-clause-err
returns-in_err-users-clause-err g c =
    let found : g.H.Host.finds c.args.self.now.host (users_path c.args.self.now) (Ok c.in-Ok.stamp) = search rules in
    let read : g.H.Host.reads c.args.self.now.host (users_path c.args.self.now) 1048577
    (Ok c.in-Ok-first_bytes.file) = search rules in
    let wrong : IsWrong (users_path c.args.self.now) c.account-account.result c.in-Ok.stamp
    c.in-Ok-first_bytes.file.items c.in_err-users.field-0.0 = search rules in
    let unread : IsUnreadOf g.H.Host c.args.self.now.host (users_path c.args.self.now) c.in_err-users.field-0.0 =
    inr (
      c.account-account.result,
      c.in-Ok.stamp,
      c.in-Ok-first_bytes.file,
      c.account-account.ensures,
      found,
      read,
      wrong,
    ) in
    let p = err_from_is_err_and c.from_residual-in_err-users.result c.from_residual-in_err-users.ensures.1 in
    rw (p.1, p.2) unread

pub returns-clause-ok : goal.returns-clause-ok
returns-clause-ok g c =
    let held : IsHeldFile g.H.Host c.args.self.now.host (users_path c.args.self.now) = search rules in
    let found : g.H.Host.finds c.args.self.now.host (users_path c.args.self.now) (Ok c.in-Ok.stamp) = search rules in
    let read : g.H.Host.reads c.args.self.now.host (users_path c.args.self.now) 1048577
    (Ok c.in-Ok-first_bytes.file) = search rules in
    let plain : IsPlain c.in-Ok.stamp = search rules in
    let are : AreOf c.account-account.result c.in-Ok.stamp c.in-Ok-first_bytes.file.items c.in_ok-users.users =
    search rules in
    record {
      held = held;
      found = found;
      plain = plain;
      file = c.in-Ok-first_bytes.file;
      read = read;
      account = c.account-account.result;
      runs = c.account-account.ensures;
      are = are;
    }
