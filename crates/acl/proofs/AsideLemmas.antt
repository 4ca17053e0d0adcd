-- Acts of clients and locks leave what the lists stand for unchanged; acts of list commands leave
-- the open windows unchanged.
use Rattle.acl.proofs.Vocabulary.{◌≡◌, ◌∙◌, ℕ, refl, [], ◌∷◌, List, AllByRecursion, Edition, UserId, Act, Known, Gone}
use Rattle.acl.proofs.Vocabulary.{Set, Grouped, Masked, Preset, Opened, Closed, History, followed_by, is_open}
use Rattle.acl.proofs.Vocabulary.{open_count, IsAside, MayFollow, AllMayFollow, Table, StandsFor}
use Rattle.acl_words.specs.declared.act.Act.TheVariants.{Attached, Parted, Entered, Left, Mode, Default}

pub StandsFor-aside : (t : Table) (edition : Edition) (owner : UserId) (h : History) (a : Act) → IsAside a
    → StandsFor t edition owner h → StandsFor t edition owner (a ∷ h)
StandsFor-aside t edition owner h (Attached client user) aside s = record {
  edition_is = s.edition_is;
  owned = s.owned;
  users = s.users;
  known = s.known;
  slots = s.slots;
  rights = s.rights;
  strangers = s.strangers;
  led = s.led;
  masks = s.masks;
  presets = s.presets;
}
StandsFor-aside t edition owner h (Parted client) aside s = record {
  edition_is = s.edition_is;
  owned = s.owned;
  users = s.users;
  known = s.known;
  slots = s.slots;
  rights = s.rights;
  strangers = s.strangers;
  led = s.led;
  masks = s.masks;
  presets = s.presets;
}
StandsFor-aside t edition owner h (Entered user window) aside s = record {
  edition_is = s.edition_is;
  owned = s.owned;
  users = s.users;
  known = s.known;
  slots = s.slots;
  rights = s.rights;
  strangers = s.strangers;
  led = s.led;
  masks = s.masks;
  presets = s.presets;
}
StandsFor-aside t edition owner h (Left user window) aside s = record {
  edition_is = s.edition_is;
  owned = s.owned;
  users = s.users;
  known = s.known;
  slots = s.slots;
  rights = s.rights;
  strangers = s.strangers;
  led = s.led;
  masks = s.masks;
  presets = s.presets;
}
StandsFor-aside t edition owner h (Mode by window mode) aside s = record {
  edition_is = s.edition_is;
  owned = s.owned;
  users = s.users;
  known = s.known;
  slots = s.slots;
  rights = s.rights;
  strangers = s.strangers;
  led = s.led;
  masks = s.masks;
  presets = s.presets;
}
StandsFor-aside t edition owner h (Default mode) aside s = record {
  edition_is = s.edition_is;
  owned = s.owned;
  users = s.users;
  known = s.known;
  slots = s.slots;
  rights = s.rights;
  strangers = s.strangers;
  led = s.led;
  masks = s.masks;
  presets = s.presets;
}
StandsFor-aside t edition owner h (Known user) aside s = absurd aside
StandsFor-aside t edition owner h (Gone user) aside s = absurd aside
StandsFor-aside t edition owner h (Set user bit object value) aside s = absurd aside
StandsFor-aside t edition owner h (Grouped user leader) aside s = absurd aside
StandsFor-aside t edition owner h (Masked by user bit value) aside s = absurd aside
StandsFor-aside t edition owner h (Preset kind bit value) aside s = absurd aside
StandsFor-aside t edition owner h (Opened by window) aside s = absurd aside
StandsFor-aside t edition owner h (Closed window) aside s = absurd aside

pub StandsFor-all_aside : (t : Table) (edition : Edition) (owner : UserId) (h : History) (acts : List Act)
    → AllByRecursion IsAside acts → StandsFor t edition owner h → StandsFor t edition owner (followed_by h acts)
StandsFor-all_aside t edition owner h [] aside s = s
StandsFor-all_aside t edition owner h (a ∷ acts) aside s = StandsFor-all_aside t edition owner (a ∷ h) acts aside.1
    (StandsFor-aside t edition owner h a aside.0 s)

-- an act of a list command leaves the open windows unchanged
open-same : (edition : Edition) (owner : UserId) (h : History) (a : Act) → MayFollow edition owner h a → (w : ℕ)
    → is_open (a ∷ h) w ≡ is_open h w
open-same edition owner h (Known v) m w = refl
open-same edition owner h (Gone v) m w = refl
open-same edition owner h (Set v bit object value) m w = refl
open-same edition owner h (Grouped v leader) m w = refl
open-same edition owner h (Masked by v bit value) m w = refl
open-same edition owner h (Preset kind bit value) m w = refl
open-same edition owner h (Opened by v) m w = absurd m
open-same edition owner h (Closed v) m w = absurd m
open-same edition owner h (Attached client user) m w = absurd m
open-same edition owner h (Parted client) m w = absurd m
open-same edition owner h (Entered user v) m w = absurd m
open-same edition owner h (Left user v) m w = absurd m
open-same edition owner h (Mode by v mode) m w = absurd m
open-same edition owner h (Default mode) m w = absurd m

count-same : (edition : Edition) (owner : UserId) (h : History) (a : Act) → MayFollow edition owner h a
    → open_count (a ∷ h) ≡ open_count h
count-same edition owner h (Known v) m = refl
count-same edition owner h (Gone v) m = refl
count-same edition owner h (Set v bit object value) m = refl
count-same edition owner h (Grouped v leader) m = refl
count-same edition owner h (Masked by v bit value) m = refl
count-same edition owner h (Preset kind bit value) m = refl
count-same edition owner h (Opened by v) m = absurd m
count-same edition owner h (Closed v) m = absurd m
count-same edition owner h (Attached client user) m = absurd m
count-same edition owner h (Parted client) m = absurd m
count-same edition owner h (Entered user v) m = absurd m
count-same edition owner h (Left user v) m = absurd m
count-same edition owner h (Mode by v mode) m = absurd m
count-same edition owner h (Default mode) m = absurd m

pub open-all_same : (edition : Edition) (owner : UserId) (h : History) (acts : List Act)
    → AllMayFollow edition owner h acts → (w : ℕ) → is_open (followed_by h acts) w ≡ is_open h w
open-all_same edition owner h [] m w = refl
open-all_same edition owner h (a ∷ acts) m w = open-all_same edition owner (a ∷ h) acts m.1 w
    ∙ open-same edition owner h a m.0 w

pub count-all_same : (edition : Edition) (owner : UserId) (h : History) (acts : List Act)
    → AllMayFollow edition owner h acts → open_count (followed_by h acts) ≡ open_count h
count-all_same edition owner h [] m = refl
count-all_same edition owner h (a ∷ acts) m = count-all_same edition owner (a ∷ h) acts m.1
    ∙ count-same edition owner h a m.0
