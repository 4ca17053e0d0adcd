-- Worked rows of the operators of contrib/policies: jo and kim, who watch them, and a fourth
-- opener, console.
use Rattle.std.specs.Prelude.{◌≡◌, Bool, List, [], ◌∷◌, codes}
use Rattle.acl.specs.declared.user_id.UserId.{UserId}
use Rattle.acl.specs.declared.leaders.Edition.{Edition}
use Rattle.acl.specs.declared.bits.Bit.TheVariants.{Write, Execute}
use Rattle.session_model.specs.Tables.{Tables}
use Rattle.session_laws.specs.Contained.{AreGuests}
use Rattle.session_laws.specs.Confined.{AreShutOut}
use Rattle.session_laws.specs.WorkedPolicies.{user, own, ann, bob, jo, kim, by, by_own, opens, masked}
use Rattle.session_laws.specs.WorkedPolicies.{on_windows, reads, InBoth}
use Rattle.session_laws.specs.WorkedAmong.{is_among}

abbrev pub console : UserId
console = user (codes "console")

abbrev pub watchers : List UserId
watchers = jo ∷ kim ∷ []

abbrev pub watches : UserId → Bool
watches = is_among watchers

-- after ann and bob set their masks, console gets x on screen, sets its own mask, and can't change
-- that any more
abbrev pub consoled : Edition → Tables
consoled e =
    by_own
    (by console (by_own (masked e) (codes "aclchg console +x screen,aclumask" ∷ []))
    (codes "aclumask jo,kim-wx"))
    (codes "aclchg console -x aclumask" ∷ [])

abbrev pub WatchersAreGuests : Type 0
WatchersAreGuests = InBoth (λ e. AreGuests (consoled e) watches)

abbrev pub NoneTypes : Type 0
NoneTypes = InBoth (λ e. AreShutOut (consoled e) watches Write)

abbrev pub NoneActs : Type 0
NoneActs = InBoth (λ e. AreShutOut (consoled e) watches Execute)

-- each opener opened one window
abbrev pub come : Edition → Tables
come e =
    opens console (codes "web1")
    (opens bob (codes "db") (opens ann (codes "web") (opens own (codes "log") (consoled e))))

abbrev pub Come : Type 0
Come = InBoth (λ e.
    (on_windows (come e) jo ≡ reads ∷ reads ∷ reads ∷ reads ∷ [])
    × (on_windows (come e) kim ≡ reads ∷ reads ∷ reads ∷ reads ∷ []))
