-- Commands leave the owner, the edition and the next serials unchanged.
use Rattle.hub_trail.proofs.Vocabulary.{◌≡◌, ℕ, List, Option, Some, None, refl, Edition, UserId, named_by}
use Rattle.hub_trail.proofs.Vocabulary.{StatusMessage, Tables, Caller, Deed, removes, does, told, with_listed, OnlyRead}
use Rattle.hub_trail.proofs.Vocabulary.{Either, told_read}
use Rattle.command_lang.specs.declared.command.Command.{Command}
use Rattle.session.proofs.Granting.{same_tables}
use Rattle.session.proofs.Shapes as shapes

-- the owner, the edition, and the next serials of windows and clients
abbrev pub Rules : Type 0
Rules = UserId × Edition × ℕ × ℕ

abbrev pub rules : Tables → Rules
rules t = (t.owner, t.edition, t.next_window, t.next_client)

abbrev pub Still : Tables → Deed → Type 0
Still t d = rules d.tables ≡ rules t

pub read_rules : (t u : Tables) → OnlyRead t u → rules u ≡ rules t
read_rules t u r = λ i. (r.owner i, r.edition i, r.next_window i, r.next_client i)

-- a message leaves them unchanged
pub told_rules : (t : Tables) (client : ℕ) (m : StatusMessage) → rules (told t client m) ≡ rules t
told_rules t client m = read_rules t (told t client m) (told_read t t client m (same_tables t))

pub listed_rules : (client : ℕ) (m : List ℕ → StatusMessage) (o : Option (List ℕ)) (d : Deed)
    → rules (with_listed client m o d).tables ≡ rules d.tables
listed_rules client m None d = refl
listed_rules client m (Some bytes) d = told_rules d.tables client (m bytes)

-- ---- what commands do

still_removal : (t : Tables) (o : Option UserId) → Still t (removes o t)
still_removal t None = refl
still_removal t (Some u) = refl

still_deed : (t : Tables) (k : Caller) (c : Command) (d : Deed) → shapes.Shape t k c d → Still t d
still_deed t k c d (shapes.removed word is clear) = still_removal t (named_by word)
still_deed t k c d (shapes.lists bytes none tells) = refl
still_deed t k c d (shapes.acts all none acted) = refl
still_deed t k c d (shapes.enters_page x l of at shows) = refl
still_deed t k c d (shapes.keeps_page x l of at shows same) = refl
still_deed t k c d (shapes.writes_to w what one at) = refl
still_deed t k c d (shapes.opened is) = refl
still_deed t k c d (shapes.shut is) = refl
still_deed t k c d (shapes.told bytes is) = refl
still_deed t k c d (shapes.fitted w rows columns is at) = refl
still_deed t k c d (shapes.titled w bytes is at) = refl
still_deed t k c d (shapes.numbered w n is at free) = refl
still_deed t k c d (shapes.typed w bytes is at) = refl
still_deed t k c d (shapes.detached x is at) = refl
still_deed t k c d (shapes.killed w is at) = refl
still_deed t k c d (shapes.quits is) = refl

pub stills : (t : Tables) (k : Caller) (c : Command) → Either (Still t) (does t k c)
stills t k c = shapes.by_shape (Still t) t k c (still_deed t k c)
