-- A history without leaders, clients and locks gives the same users, windows, masks, presets and entries.
use Rattle.trail_setup.proofs.Vocabulary.{◌≡◌, ◌∙◌, ◌∷◌, ◌+◌, ◌-◌, ◌||◌, ◌&&◌, [], ℕ, List, Bool, true, false, not}
use Rattle.trail_setup.proofs.Vocabulary.{Option, Some, None, refl, ap, sym, filter, unwrap_or, is_none, nat_lt}
use Rattle.trail_setup.proofs.Vocabulary.{if◌then◌else◌, list_any, false≢true, Act, Window, Command, PresetKind, Bit}
use Rattle.trail_setup.proofs.Vocabulary.{Edition, UserId, History, decided, has, is_known, is_open, mask, preset_of}
use Rattle.trail_setup.proofs.Vocabulary.{users_of, same_object, same_user, can_follow, alone, is_of_entries}
use Rattle.acl.specs.declared.act.Act.TheVariants as act
use Rattle.acl.specs.declared.act.Object.{Object}
use Rattle.acl.specs.declared.act.PresetKind.TheVariants as preset
use Rattle.acl.specs.Commands.{new_name_fault, known_name_fault}
use Rattle.acl.specs.History.{among, decides_known, decides_mask, decides_open, decides_preset, decision, latest}
use Rattle.acl.specs.History.{leaders_after, leaders_of, may, open_count, there, users_after}

-- ---- what the newest act decides

latest_same : {X : Type 0} (decides : Act → Option X) (first : X)
    → ((a : Act) → is_of_entries a ≡ false → decides a ≡ None) → (h : History)
    → latest decides first (alone h) ≡ latest decides first h
latest_same decides first none [] = refl
latest_same decides first none (a ∷ h) = at (is_of_entries a) refl (latest_same decides first none h)
  where
    at : (b : Bool) → is_of_entries a ≡ b → latest decides first (alone h) ≡ latest decides first h
        → latest decides first (if b then a ∷ alone h else alone h) ≡ latest decides first (a ∷ h)
    at true e below = ap (λ x. unwrap_or (decides a) x) below
    at false e below = below
        ∙ sym (ap (λ d. unwrap_or d (latest decides first h)) (none a e))

kept : {P : Type 0} → true ≡ false → P
kept e = absurd (false≢true (sym e))

no_known : (u : UserId) (a : Act) → is_of_entries a ≡ false → decides_known u a ≡ None
no_known u (act.Known v) e = kept e
no_known u (act.Gone v) e = kept e
no_known u a e = refl

no_open : (w : ℕ) (a : Act) → is_of_entries a ≡ false → decides_open w a ≡ None
no_open w (act.Opened by v) e = kept e
no_open w (act.Closed v) e = kept e
no_open w a e = refl

no_mask : (by u : UserId) (bit : Bit) (a : Act) → is_of_entries a ≡ false → decides_mask by u bit a ≡ None
no_mask by u bit (act.Masked b v c value) e = kept e
no_mask by u bit (act.Known v) e = kept e
no_mask by u bit (act.Gone v) e = kept e
no_mask by u bit a e = refl

no_preset : (kind : PresetKind) (bit : Bit) (a : Act) → is_of_entries a ≡ false → decides_preset kind bit a ≡ None
no_preset kind bit (act.Preset k c value) e = kept e
no_preset kind bit a e = refl

pub known_same : (owner : UserId) (h : History) (u : UserId) → is_known owner (alone h) u ≡ is_known owner h u
known_same owner h u = ap (λ b. same_user owner u || b) (latest_same (decides_known u) false (no_known u) h)

pub open_same : (h : History) (w : ℕ) → is_open (alone h) w ≡ is_open h w
open_same h w = latest_same (decides_open w) false (no_open w) h

mask_same : (h : History) (by u : UserId) (bit : Bit) → mask (alone h) by u bit ≡ mask h by u bit
mask_same h by u bit = latest_same (decides_mask by u bit) true (no_mask by u bit) h

preset_same : (h : History) (kind : PresetKind) (bit : Bit) → preset_of (alone h) kind bit ≡ preset_of h kind bit
preset_same h kind bit = latest_same (decides_preset kind bit) true (no_preset kind bit) h

-- ---- users and windows

no_user : (a : Act) (before : List UserId) → is_of_entries a ≡ false → users_after a before ≡ before
no_user (act.Known v) before e = kept e
no_user (act.Gone v) before e = kept e
no_user a before e = refl

pub users_same : (owner : UserId) (h : History) → users_of owner (alone h) ≡ users_of owner h
users_same owner [] = refl
users_same owner (a ∷ h) = at (is_of_entries a) refl (users_same owner h)
  where
    at : (b : Bool) → is_of_entries a ≡ b → users_of owner (alone h) ≡ users_of owner h
        → users_of owner (if b then a ∷ alone h else alone h) ≡ users_of owner (a ∷ h)
    at true e below = ap (users_after a) below
    at false e below = below ∙ sym (no_user a (users_of owner h) e)

no_count : (a : Act) (h : History) → is_of_entries a ≡ false → open_count (a ∷ h) ≡ open_count h
no_count (act.Opened by w) h e = kept e
no_count (act.Closed w) h e = kept e
no_count a h e = refl

pub count_same : (h : History) → open_count (alone h) ≡ open_count h
count_same [] = refl
count_same (a ∷ h) = at (is_of_entries a) refl (count_same h)
  where
    on : (a : Act) → open_count (alone h) ≡ open_count h → open_count (a ∷ alone h) ≡ open_count (a ∷ h)
    on (act.Opened by w) below = ap (λ n. n + 1) below
    on (act.Closed w) below = λ i. if open_same h w i then below i - 1 else below i
    on a below = below

    at : (b : Bool) → is_of_entries a ≡ b → open_count (alone h) ≡ open_count h
        → open_count (if b then a ∷ alone h else alone h) ≡ open_count (a ∷ h)
    at true e below = on a below
    at false e below = below ∙ sym (no_count a h e)

-- ---- entries

decision_same : (owner : UserId) (a : Act) (h : History) (u : UserId) (bit : Bit) (object : Object)
    → decision owner a (alone h) u bit object ≡ decision owner a h u bit object
decision_same owner (act.Known v) h u bit (Window w) =
    λ i. if same_user v u then decided (open_same h w i) (preset_same h preset.Windows bit i) else None
decision_same owner (act.Known v) h u bit (Command c) =
    λ i. if same_user v u then Some (preset_same h preset.Commands bit i) else None
decision_same owner (act.Opened by w) h u bit object =
    λ i. if same_object (Window w) object
    then (if same_user by u then Some true else decided (known_same owner h u i) (mask_same h by u bit i)) else None
decision_same owner a h u bit object = refl

undecided : (owner : UserId) (a : Act) (h : History) (u : UserId) (bit : Bit) (object : Object)
    → is_of_entries a ≡ false → decision owner a h u bit object ≡ None
undecided owner (act.Known v) h u bit object e = kept e
undecided owner (act.Gone v) h u bit object e = kept e
undecided owner (act.Set v c place value) h u bit object e = kept e
undecided owner (act.Opened by w) h u bit object e = kept e
undecided owner a h u bit object e = refl

pub has_same : (owner : UserId) (h : History) (u : UserId) (bit : Bit) (object : Object)
    → has owner (alone h) u bit object ≡ has owner h u bit object
has_same owner [] u bit object = refl
has_same owner (a ∷ h) u bit object = at (is_of_entries a) refl (has_same owner h u bit object)
  where
    at : (b : Bool) → is_of_entries a ≡ b → has owner (alone h) u bit object ≡ has owner h u bit object
        → has owner (if b then a ∷ alone h else alone h) u bit object ≡ has owner (a ∷ h) u bit object
    at true e below = λ i. unwrap_or (decision_same owner a h u bit object i) (below i)
    at false e below = below
        ∙ sym (ap (λ d. unwrap_or d (has owner h u bit object)) (undecided owner a h u bit object e))

-- nobody has leaders
pub leaders_none : (edition : Edition) (h : History) (u : UserId) → leaders_of edition (alone h) u ≡ []
leaders_none edition [] u = refl
leaders_none edition (a ∷ h) u = at (is_of_entries a) refl (leaders_none edition h u)
  where
    gone : (b : Bool) (v : UserId) → (if b then [] else filter (λ leader. not (same_user v leader)) []) ≡ []
    gone true v = refl
    gone false v = refl

    on : (a : Act) → is_of_entries a ≡ true → leaders_of edition (alone h) u ≡ []
        → leaders_of edition (a ∷ alone h) u ≡ []
    on (act.Gone v) e below = ap (leaders_after edition (act.Gone v) u) below ∙ gone (same_user v u) v
    on (act.Grouped v leader) e below = absurd (false≢true e)
    on a e below = below

    at : (b : Bool) → is_of_entries a ≡ b → leaders_of edition (alone h) u ≡ []
        → leaders_of edition (if b then a ∷ alone h else alone h) u ≡ []
    at true e below = on a e below
    at false e below = below

no_leader : (b : Bool) → (b || false) ≡ b
no_leader true = refl
no_leader false = refl

-- what a user may do there is what their entry has
pub may_alone : (edition : Edition) (owner : UserId) (h : History) (u : UserId) (bit : Bit) (object : Object)
    → may edition owner (alone h) u bit object ≡ (same_user owner u || has owner h u bit object)
may_alone edition owner h u bit object =
    ap (λ (us : List UserId). same_user owner u || has owner (alone h) u bit object
    || list_any (λ leader. has owner (alone h) leader bit object) us) (leaders_none edition h u)
    ∙ (no_leader (same_user owner u || has owner (alone h) u bit object)
    ∙ ap (λ b. same_user owner u || b) (has_same owner h u bit object))

-- an object that is there is there without the other acts
pub there_same : (h : History) (object : Object) → there (alone h) object ≡ there h object
there_same h (Window w) = open_same h w
there_same h (Command c) = refl

-- ---- an act that may come after the whole history may come after the rest of it

pub follows_alone : (edition : Edition) (owner : UserId) (h : History) (a : Act) → is_of_entries a ≡ true
    → can_follow edition owner (alone h) a ≡ can_follow edition owner h a
follows_alone edition owner h (act.Known u) e = ap
    (λ (us : List UserId). not (among us u) && is_none (new_name_fault owner us (Some u))) (users_same owner h)
follows_alone edition owner h (act.Gone u) e = ap
    (λ (us : List UserId). is_none (known_name_fault owner us (Some u))) (users_same owner h)
follows_alone edition owner h (act.Set u bit object value) e =
    λ i. is_none (known_name_fault owner (users_same owner h i) (Some u)) && there_same h object i
follows_alone edition owner h (act.Masked by u bit value) e = ap
    (λ (us : List UserId). is_none (known_name_fault owner us (Some u))) (users_same owner h)
follows_alone edition owner h (act.Opened by w) e =
    λ i. known_same owner h by i && (not (open_same h w i) && nat_lt (count_same h i) 40)
follows_alone edition owner h (act.Grouped u leader) e = absurd (false≢true e)
follows_alone edition owner h (act.Attached client user) e = absurd (false≢true e)
follows_alone edition owner h (act.Entered u w) e = absurd (false≢true e)
follows_alone edition owner h (act.Mode by w mode) e = absurd (false≢true e)
follows_alone edition owner h a e = refl
