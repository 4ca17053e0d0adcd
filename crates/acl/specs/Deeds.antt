-- What an act, and a list command, does to the table, to the list of acts and to what follows the
-- acts.
use Rattle.std.specs.Prelude.{◌≡◌, true, List, ◌∷◌, ◌++◌, Option, Result, All}
use Rattle.acl.specs.History.{History, there, followed_by}
use Rattle.acl.specs.Commands.{Answers, MayFollow, AllMayFollow}
use Rattle.acl.specs.Table.{Table, StandsFor}
use Rattle.acl_words.specs.declared.leaders.Edition.{Edition}
use Rattle.acl_words.specs.declared.user_id.UserId.{UserId}
use Rattle.acl_words.specs.declared.act.Object.{Object}
use Rattle.acl_words.specs.declared.act.Act.{Act}
use Rattle.acl_words.specs.declared.entries.AclFault.{AclFault}

-- for each history that the old table stands for and that the act may follow, the new table stands
-- for the history and then the act
abbrev pub Takes : Table → Table → Act → Type 0
Takes old new act =
    (edition : Edition) (owner : UserId) (h : History) → StandsFor old edition owner h
    → MayFollow edition owner h act → StandsFor new edition owner (act ∷ h)

-- for each history that the old table stands for and that these acts may follow in order, the new
-- table stands for the history and then the acts
abbrev pub TakesAll : Table → Table → List Act → Type 0
TakesAll old new acts =
    (edition : Edition) (owner : UserId) (h : History) → StandsFor old edition owner h
    → AllMayFollow edition owner h acts → StandsFor new edition owner (followed_by h acts)

-- if the follower stood for h, it stands for h and then the act; `t` is the table after the act
abbrev pub Follows : (Edition → UserId → History → Type 0) → (Edition → UserId → History → Type 0)
    → Table → Act → Type 0
Follows follows followed t act =
    (edition : Edition) (owner : UserId) (h : History) → follows edition owner h
    → MayFollow edition owner h act → StandsFor t edition owner (act ∷ h)
    → followed edition owner (act ∷ h)

-- if the follower stood for h, it stands for h and then these acts in order; `old` is the table
-- before them
abbrev pub FollowsAll : (Edition → UserId → History → Type 0)
    → (Edition → UserId → History → Type 0) → Table → List Act → Type 0
FollowsAll follows followed old acts =
    (edition : Edition) (owner : UserId) (h : History) → StandsFor old edition owner h
    → AllMayFollow edition owner h acts → follows edition owner h
    → followed edition owner (followed_by h acts)

-- a list command is done, or refused for this fault or because memory was refused; the fault is
-- what the definitions give for each history that the table stands for
abbrev pub Refuses : {X : Type 0} → Table → (Edition → UserId → History → Option AclFault)
    → Result X AclFault → Type 0
Refuses old fault result =
    (edition : Edition) (owner : UserId) (h : History) → StandsFor old edition owner h
    → Answers result (fault edition owner h)

-- a list command was done after the history h: the table, and what follows the acts, stand for h
-- and then the command's acts, which were put out in order. Each act may follow those before it
pub record IsDone (edition : Edition) (owner : UserId) (h : History) (given : List Act)
    (new : Table) (before after : List Act)
    (follows followed : Edition → UserId → History → Type 0)
    : Type 0 where
  pub follow : AllMayFollow edition owner h given
  pub stands : StandsFor new edition owner (followed_by h given)
  pub acts : after ≡ before ++ given
  pub follower : follows edition owner h → followed edition owner (followed_by h given)

-- a list command was done, for each history that the old table stands for
abbrev pub Does : (old new : Table) (before after : List Act)
    (follows followed : Edition → UserId → History → Type 0)
    → (UserId → History → List Act) → Type 0
Does old new before after follows followed given =
    (edition : Edition) (owner : UserId) (h : History) → StandsFor old edition owner h
    → IsDone edition owner h (given owner h) new before after follows followed

-- a list command was done, for each history that the old table stands for and in which these
-- objects are there
abbrev pub DoesOn : List Object → (old new : Table) (before after : List Act)
    (follows followed : Edition → UserId → History → Type 0)
    → (UserId → History → List Act) → Type 0
DoesOn objects old new before after follows followed given =
    (edition : Edition) (owner : UserId) (h : History) → StandsFor old edition owner h
    → All (λ object. there h object ≡ true) objects
    → IsDone edition owner h (given owner h) new before after follows followed
