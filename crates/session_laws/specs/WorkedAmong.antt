-- Lists of users.
use Rattle.std.specs.Prelude.{Bool, List}
use Rattle.std.specs.List.{list_any}
use Rattle.acl.specs.declared.user_id.UserId.{UserId}
use Rattle.acl.specs.Same.{same_user}

abbrev pub is_among : List UserId → UserId → Bool
is_among users u = list_any (λ v. same_user v u) users
