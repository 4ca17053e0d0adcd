-- The types of which the traits speak, by names that no type has there.
pub use Rattle.std.specs.declared.alloc.Global.{Global as Memory}
pub use Rattle.std.specs.declared.fs.File.{File as Locked}
pub use Rattle.std.specs.declared.fs.locks.TryLockError.{TryLockError as Unlocked}
pub use Rattle.std.specs.declared.io.Error.{Error}
pub use Rattle.std.specs.declared.path.PathBuf.{PathBuf as Place}
pub use Rattle.std.specs.declared.vec.Vec.{Vec as Bytes}
pub use Rattle.acl.specs.declared.user_id.UserId.{UserId as User}
pub use Rattle.mio.specs.declared.net.uds.listener.UnixListener.{UnixListener as Listener}
pub use Rattle.server_users.specs.Entries.{Entry}
pub use Rattle.server_system.specs.declared.fault.UsersFileFault.{UsersFileFault as Faulty}
pub use Rattle.server_system.specs.declared.looks.BegunLook.{BegunLook as Begun}
pub use Rattle.server_system.specs.declared.looks.FoundLook.{FoundLook as Found}
pub use Rattle.server_system.specs.declared.looks.KnownUsers.{KnownUsers as Known}
pub use Rattle.server_system.specs.declared.looks.TakenNews.{TakenNews as News}
pub use Rattle.server_system.specs.declared.users_file.Stamp.{Stamp as Stamped}
