-- What a table that stands for a history says: who may do what, and which objects are there.
use Rattle.acl.proofs.Vocabulary.{◌≡◌, true, ◌||◌, refl, list_any, same_user, History, there, may, Table, StandsFor}
use Rattle.acl.proofs.Vocabulary.{is_there, lets, Edition, UserId, Bit, Object, Window, Command}
pub use Rattle.acl_words.proofs.SameLemmas.{same_user-true, same_user-refl}

-- the table lets a user do what the definitions say they may do
pub may-StandsFor : (t : Table) (edition : Edition) (owner : UserId) (h : History) (s : StandsFor t edition owner h)
    (u : UserId) (bit : Bit) (object : Object)
    → is_there t object ≡ true → lets t u bit object ≡ may edition owner h u bit object
may-StandsFor t edition owner h s u bit object there =
    (λ i. same_user (s.owned i) u || s.rights u bit object there i || list_any
    (λ leader. s.rights leader bit object there i) (s.led u i))

-- an object that is there stands in the table
pub there-StandsFor : (t : Table) (edition : Edition) (owner : UserId) (h : History) (s : StandsFor t edition owner h)
    (object : Object) → is_there t object ≡ there h object
there-StandsFor t edition owner h s (Window w) = s.slots.shown w
there-StandsFor t edition owner h s (Command c) = refl
