-- What this crate's proofs take from definitions and from other crates.
pub use Rattle.acl.proofs.StandsForLemmas.{same_user-refl, same_user-true}
pub use Rattle.acl.specs.Names.{name_of}
pub use Rattle.acl.specs.Same.{same_user}
pub use Rattle.acl.specs.declared.user_id.UserId.{UserId}
pub use Rattle.server_users.specs.Accounts.{IsFirst, account_of}
pub use Rattle.server_users.specs.Allowances.{MayPay, Purse, fresh, stands_at}
pub use Rattle.server_users.specs.Entries.{names}
pub use Rattle.server_users.specs.Rationed.{end_of}
pub use Rattle.server_users.specs.Stands.{entries_of, entry_of}
pub use Rattle.server_users.specs.declared.allowances.Account.{Account}
pub use Rattle.server_users.specs.declared.user.User.{User}
pub use Rattle.std.proofs.Common.{Bool, Contains, List, None, Option, Some, [], ap, arith, false, get_or, inl, inr}
pub use Rattle.std.proofs.Common.{length, map, refl, set, subst, suc, sym, take, true, zero, ℕ, ⊎_elim, ◌++◌, ◌+◌, ◌<◌}
pub use Rattle.std.proofs.Common.{◌∙◌, ◌∷◌, ◌≡◌, ◌≤◌, ◌⊎◌}
pub use Rattle.std.proofs.lemmas.Bool.{false≢true}
pub use Rattle.std.proofs.lemmas.List.{length-map}
pub use Rattle.std.specs.Duration.{as_nanos}
pub use Rattle.std.specs.List.{position}
pub use Rattle.std.specs.Prelude.{IfSome, IsTrue, if◌then◌else◌, option_map, unwrap_or}
