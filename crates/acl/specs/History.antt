-- What the acts of a session decide: who is known, who has which right, who leads whom. A history
-- is a list of acts, the newest first. The rules are those of the GNU Screen manual, section
-- "Multiuser Session", with the entries named below. The manual leaves open what a name that
-- becomes known gets, when a mask counts, and how many leaders a user has: these rules are this
-- project's own.
use Rattle.std.specs.Prelude.{ℕ, Bool, true, false, not, ◌||◌, ◌&&◌, ◌==◌, ◌+◌, ◌-◌, List, [], ◌∷◌}
use Rattle.std.specs.Prelude.{Option, Some, None, unwrap_or, filter, ◌++◌, if◌then◌else◌}
use Rattle.std.specs.List.{list_any}
use Rattle.acl_words.specs.Same.{same_user, same_bit, same_object, same_preset}
use Rattle.acl_words.specs.declared.user_id.UserId.{UserId}
use Rattle.acl_words.specs.declared.bits.Bit.{Bit}
use Rattle.acl_words.specs.declared.act.Object.{Object}
use Rattle.acl_words.specs.declared.act.Object.TheVariants.{Window, Command}
use Rattle.acl_words.specs.declared.act.PresetKind.{PresetKind}
use Rattle.acl_words.specs.declared.act.PresetKind.TheVariants as preset
use Rattle.acl_words.specs.declared.act.Act.{Act}
use Rattle.acl_words.specs.declared.act.Act.TheVariants.{Known, Gone, Set, Grouped, Masked, Preset, Opened, Closed}
use Rattle.acl_words.specs.declared.leaders.Edition.{Edition}
pub use Rattle.acl_words.specs.Leaders.{among, leaders_with}

abbrev pub History : Type 0
History = List Act

-- the history, followed by these acts in order
abbrev pub followed_by : History → List Act → History
followed_by h [] = h
followed_by h (a ∷ acts) = followed_by (a ∷ h) acts

-- the value if the fact holds, else nothing
abbrev pub decided : {X : Type 0} → Bool → X → Option X
decided c x = if c then Some x else None

-- the value of the newest act that decides; `first` if none does
abbrev pub latest : {X : Type 0} → (Act → Option X) → X → History → X
latest decides first [] = first
latest decides first (a ∷ h) = unwrap_or (decides a) (latest decides first h)

-- acladd, acldel: whether the act makes u known, or makes u gone
abbrev pub decides_known : UserId → Act → Option Bool
decides_known u (Known v) = decided (same_user v u) true
decides_known u (Gone v) = decided (same_user v u) false
decides_known u _ = None

-- the owner is known from the start
abbrev pub is_known : UserId → History → UserId → Bool
is_known owner h u = same_user owner u || latest (decides_known u) false h

-- the users, without this one
abbrev pub without_user : UserId → List UserId → List UserId
without_user u [] = []
without_user u (v ∷ users) = if same_user u v then users else v ∷ without_user u users

-- the known users in the order in which they became known, the owner first
abbrev pub users_after : Act → List UserId → List UserId
users_after (Known u) before = before ++ u ∷ []
users_after (Gone u) before = without_user u before
users_after _ before = before

abbrev pub users_of : UserId → History → List UserId
users_of owner [] = owner ∷ []
users_of owner (a ∷ h) = users_after a (users_of owner h)

abbrev pub decides_open : ℕ → Act → Option Bool
decides_open w (Opened by v) = decided (v == w) true
decides_open w (Closed v) = decided (v == w) false
decides_open w _ = None

abbrev pub is_open : History → ℕ → Bool
is_open h w = latest (decides_open w) false h

-- how many windows are open, if each window that opens is a new one
abbrev pub open_count : History → ℕ
open_count [] = 0
open_count (Opened by w ∷ h) = open_count h + 1
open_count (Closed w ∷ h) = if is_open h w then open_count h - 1 else open_count h
open_count (_ ∷ h) = open_count h

-- aclumask: what the masks of `by` say of u's bit on windows that `by` opens later. A mask counts
-- only from the time at which both are known
abbrev pub decides_mask : UserId → UserId → Bit → Act → Option Bool
decides_mask by u bit (Masked b v c value) =
    decided (same_user b by && same_user v u && same_bit c bit) value
decides_mask by u bit (Known v) = decided (same_user v by || same_user v u) true
decides_mask by u bit (Gone v) = decided (same_user v by || same_user v u) true
decides_mask by u bit _ = None

abbrev pub mask : History → UserId → UserId → Bit → Bool
mask h by u bit = latest (decides_mask by u bit) true h

-- aclumask with ? or ??: what the act sets in the preset for windows, or for commands
abbrev pub decides_preset : PresetKind → Bit → Act → Option Bool
decides_preset kind bit (Preset k c value) = decided (same_preset k kind && same_bit c bit) value
decides_preset kind bit _ = None

abbrev pub preset_of : History → PresetKind → Bit → Bool
preset_of h kind bit = latest (decides_preset kind bit) true h

-- what a name that becomes known gets: the preset `?` on each open window, `??` on each command
abbrev pub greeting : History → Bit → Object → Option Bool
greeting h bit (Window w) = decided (is_open h w) (preset_of h preset.Windows bit)
greeting h bit (Command c) = Some (preset_of h preset.Commands bit)

-- what u gets on a window that `by` opens: every bit if u is `by`, else what the mask of `by` says,
-- if u is known
abbrev pub opening : UserId → History → UserId → UserId → Bit → Option Bool
opening owner h by u bit =
    if same_user by u then Some true else decided (is_known owner h u) (mask h by u bit)

-- what the act, coming after the history h, decides of u's bit on an object (aclchg and the other
-- list commands, and windows that open and close)
abbrev pub decision : UserId → Act → History → UserId → Bit → Object → Option Bool
decision owner (Known v) h u bit object = if same_user v u then greeting h bit object else None
decision owner (Gone v) h u bit object = decided (same_user v u) false
decision owner (Set v c place value) h u bit object =
    decided (same_user v u && same_bit c bit && same_object place object) value
decision owner (Opened by w) h u bit object =
    if same_object (Window w) object then opening owner h by u bit else None
decision owner _ h u bit object = None

-- whether u has the bit on the object: the value of the newest act that decides it; false if none
-- does
abbrev pub has : UserId → History → UserId → Bit → Object → Bool
has owner [] u bit object = false
has owner (a ∷ h) u bit object =
    unwrap_or (decision owner a h u bit object) (has owner h u bit object)

-- the leaders of u after an act. A user who is gone has no leaders, and leads nobody
abbrev pub leaders_after : Edition → Act → UserId → List UserId → List UserId
leaders_after edition (Grouped v leader) u before =
    if same_user v u then leaders_with edition leader before else before
leaders_after edition (Gone v) u before =
    if same_user v u then [] else filter (λ leader. not (same_user v leader)) before
leaders_after edition _ u before = before

abbrev pub leaders_of : Edition → History → UserId → List UserId
leaders_of edition [] u = []
leaders_of edition (a ∷ h) u = leaders_after edition a u (leaders_of edition h u)

-- u is the owner, or has the bit, or one of u's leaders has it. A leader's own leaders aren't asked
abbrev pub may : Edition → UserId → History → UserId → Bit → Object → Bool
may edition owner h u bit object =
    same_user owner u || has owner h u bit object
    || list_any (λ leader. has owner h leader bit object) (leaders_of edition h u)

-- whether an object is there: a command always is, a window if it is open
abbrev pub there : History → Object → Bool
there h (Window w) = is_open h w
there h (Command c) = true
