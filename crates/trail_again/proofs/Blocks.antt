-- What the acts of a setup leave, kind by kind.
use Rattle.trail_again.proofs.Vocabulary.{◌≡◌, ◌∙◌, Bool, true, false, List, [], ◌∷◌, ◌++◌, refl, ap, sym, map, ◌||◌}
use Rattle.trail_again.proofs.Vocabulary.{◌&&◌, if◌then◌else◌, Some, None, unwrap_or, append_assoc, subst, flat_map}
use Rattle.trail_again.proofs.Vocabulary.{append-nil, ALL, Act, Object, Command, PresetKind, Bit, BitChange}
use Rattle.trail_again.proofs.Vocabulary.{CommandName, Edition, UserId, sets, sets_on, History, among, decided}
use Rattle.trail_again.proofs.Vocabulary.{followed_by, greeting, has, is_known, latest, decides_known, leaders_of}
use Rattle.trail_again.proofs.Vocabulary.{leaders_with, mask, users_of, same_user, followed_by-append, same_user-sym}
use Rattle.trail_again.proofs.Vocabulary.{same_user-true, every_command, Read}
use Rattle.acl.specs.declared.act.Act.TheVariants as act
use Rattle.trail_again.proofs.Commands.{all_there, among_commands}
use Rattle.trail_again.proofs.Lawful.{among_more, given_leaders}
use Rattle.trail_again.proofs.Setting.{Distinct, keyed, masks_on, object_among, presets_on, set_bits, sets_value, pick}
use Rattle.trail_again.proofs.Touching.{Without, known_stays, none_append, on_users, stays, users_stay}

-- ---- acts of one kind leave what others change

pub sets_without : (on : Act → Bool) → ((u : UserId) (bit : Bit) (o : Object) (v : Bool) → on (act.Set u bit o v)
    ≡ false)
    → (u : UserId) (changes : List BitChange) (objects : List Object) → Without on (sets u changes objects)
sets_without on off u changes [] = tt
sets_without on off u changes (o ∷ os) = none_append on (sets_on u changes o) (sets u changes os) (one changes)
    (sets_without on off u changes os)
  where
    one : (cs : List BitChange) → Without on (sets_on u cs o)
    one [] = tt
    one (c ∷ cs) = (off u c.bit o c.value, one cs)

pub masks_without : (on : Act → Bool) → ((by u : UserId) (bit : Bit) (v : Bool) → on (act.Masked by u bit v) ≡ false)
    → (by u : UserId) (changes : List BitChange) → Without on (masks_on by u changes)
masks_without on off by u [] = tt
masks_without on off by u (c ∷ cs) = (off by u c.bit c.value, masks_without on off by u cs)

pub presets_without : (on : Act → Bool)
    → ((kind : PresetKind) (bit : Bit) (v : Bool) → on (act.Preset kind bit v) ≡ false)
    → (kind : PresetKind) (changes : List BitChange) → Without on (presets_on kind changes)
presets_without on off kind [] = tt
presets_without on off kind (c ∷ cs) = (off kind c.bit c.value, presets_without on off kind cs)

-- ---- names that become known with nothing

abbrev pub nothing : List BitChange
nothing = set_bits false false false

abbrev pub name_acts : UserId → List Act
name_acts u = act.Known u ∷ sets u nothing every_command

sets_off_users : (u : UserId) → Without on_users (sets u nothing every_command)
sets_off_users u = sets_without on_users (λ u bit o v. refl) u nothing every_command

name_users : (owner u : UserId) (h : History) → users_of owner (followed_by h (name_acts u)) ≡ users_of owner h
    ++ u ∷ []
name_users owner u h = stays (users_of owner) on_users (users_stay owner) (sets u nothing every_command)
    (act.Known u ∷ h) (sets_off_users u)

pub names_users : (owner : UserId) (us : List UserId) (h : History)
    → users_of owner (followed_by h (flat_map name_acts us)) ≡ users_of owner h ++ us
names_users owner [] h = sym (append-nil (users_of owner h))
names_users owner (u ∷ us) h =
    ap (users_of owner) (followed_by-append h (name_acts u) (flat_map name_acts us))
    ∙ names_users owner us (followed_by h (name_acts u))
    ∙ ap (λ (l : List UserId). l ++ us) (name_users owner u h)
    ∙ append_assoc (users_of owner h) (u ∷ []) us

-- the known users are those of the list
abbrev pub Lists : UserId → History → Type 0
Lists owner h = (u : UserId) → is_known owner h u ≡ among (users_of owner h) u

name_lists : (owner u : UserId) (h : History) → Lists owner h → Lists owner (followed_by h (name_acts u))
name_lists owner u h lists v =
    stays (λ g. is_known owner g v) on_users (known_stays owner v) (sets u nothing every_command) (act.Known u ∷ h)
    (sets_off_users u)
    ∙ more (same_user owner v) (same_user u v) (latest (decides_known v) false h)
    ∙ ap (λ b. b || same_user u v) (lists v)
    ∙ ap (λ b. among (users_of owner h) v || b) (same_user-sym u v)
    ∙ sym (among_more (users_of owner h) u v)
    ∙ ap (λ (l : List UserId). among l v) (sym (name_users owner u h))
  where
    more : (a b c : Bool) → (a || unwrap_or (decided b true) c) ≡ ((a || c) || b)
    more true b c = refl
    more false true true = refl
    more false true false = refl
    more false false true = refl
    more false false false = refl

pub names_list : (owner : UserId) (us : List UserId) (h : History) → Lists owner h
    → Lists owner (followed_by h (flat_map name_acts us))
names_list owner [] h lists = lists
names_list owner (u ∷ us) h lists =
    subst (Lists owner) (sym (followed_by-append h (name_acts u) (flat_map name_acts us)))
    (names_list owner us (followed_by h (name_acts u)) (name_lists owner u h lists))

-- nobody has anything on a command
abbrev pub HasNothing : UserId → History → Type 0
HasNothing owner h = (u : UserId) (bit : Bit) (c : CommandName) → has owner h u bit (Command c) ≡ false

every_there : (c : CommandName) → object_among every_command (Command c) ≡ true
every_there c = among_commands ALL c ∙ all_there c

name_nothing : (owner u : UserId) (h : History) → HasNothing owner h → HasNothing owner (followed_by h (name_acts u))
name_nothing owner u h none v bit c =
    sets_value owner u v bit (Command c) false false false every_command (act.Known u ∷ h)
    ∙ ap (λ b. if same_user u v && b then pick false false false bit
    else has owner (act.Known u ∷ h) v bit (Command c)) (every_there c)
    ∙ at (same_user u v)
  where
    no_bit : (b : Bit) → pick false false false b ≡ false
    no_bit Read = refl
    no_bit _ = refl

    at : (b : Bool)
        → (if b && true then pick false false false bit
        else unwrap_or (if b then greeting h bit (Command c) else None) (has owner h v bit (Command c))) ≡ false
    at true = no_bit bit
    at false = none v bit c

pub names_nothing : (owner : UserId) (us : List UserId) (h : History) → HasNothing owner h
    → HasNothing owner (followed_by h (flat_map name_acts us))
names_nothing owner [] h none = none
names_nothing owner (u ∷ us) h none =
    subst (HasNothing owner)
    (sym (followed_by-append h (name_acts u) (flat_map name_acts us)))
    (names_nothing owner us (followed_by h (name_acts u)) (name_nothing owner u h none))

-- ---- masks that nobody set

abbrev pub is_masking : Act → Bool
is_masking (act.Masked by u bit v) = true
is_masking a = false

abbrev pub OpenMasks : History → Type 0
OpenMasks h = (by u : UserId) (bit : Bit) → mask h by u bit ≡ true

open_stays : (a : Act) (h : History) → is_masking a ≡ false → OpenMasks h → OpenMasks (a ∷ h)
open_stays (act.Masked b v c value) h off unset by u bit = absurd (cc (off))
open_stays (act.Known v) h off unset by u bit = at (same_user v by || same_user v u)
  where
    at : (b : Bool) → unwrap_or (decided b true) (mask h by u bit) ≡ true
    at true = refl
    at false = unset by u bit
open_stays (act.Gone v) h off unset by u bit = at (same_user v by || same_user v u)
  where
    at : (b : Bool) → unwrap_or (decided b true) (mask h by u bit) ≡ true
    at true = refl
    at false = unset by u bit
open_stays a h off unset by u bit = unset by u bit

pub open_after : (acts : List Act) (h : History) → Without is_masking acts → OpenMasks h
    → OpenMasks (followed_by h acts)
open_after [] h off unset = unset
open_after (a ∷ acts) h off unset = open_after acts (a ∷ h) off.1 (open_stays a h off.0 unset)

-- ---- leaders

abbrev pub group_acts : (UserId → List UserId) → UserId → List Act
group_acts leaders u = map (λ l. act.Grouped u (Some l)) (leaders u)

pub grouped_value : (edition : Edition) (v u : UserId) (ls : List UserId) (h : History)
    → leaders_of edition (followed_by h (map (λ l. act.Grouped v (Some l)) ls)) u
    ≡ (if same_user v u then given_leaders edition (leaders_of edition h u) ls else leaders_of edition h u)
grouped_value edition v u [] h = at (same_user v u)
  where
    at : (b : Bool) → leaders_of edition h u ≡ (if b then leaders_of edition h u else leaders_of edition h u)
    at true = refl
    at false = refl
grouped_value edition v u (l ∷ ls) h = grouped_value edition v u ls (act.Grouped v (Some l) ∷ h)
    ∙ at (same_user v u)
  where
    at : (b : Bool)
        → (if b then given_leaders edition
        (if b then leaders_with edition (Some l) (leaders_of edition h u) else leaders_of edition h u) ls
        else (if b then leaders_with edition (Some l) (leaders_of edition h u) else leaders_of edition h u))
        ≡ (if b then given_leaders edition (leaders_with edition (Some l) (leaders_of edition h u)) ls
        else leaders_of edition h u)
    at true = refl
    at false = refl

pub groups_value : (edition : Edition) (leaders : UserId → List UserId) (us : List UserId) (u : UserId) (h : History)
    → Distinct us
    → leaders_of edition (followed_by h (flat_map (group_acts leaders) us)) u
    ≡ (if among us u then given_leaders edition (leaders_of edition h u) (leaders u) else leaders_of edition h u)
groups_value edition leaders us u h d =
    keyed (λ g. leaders_of edition g u) (group_acts leaders) u (λ before. given_leaders edition before (leaders u))
    step us h d
  where
    step : (x : UserId) (g : History)
        → leaders_of edition (followed_by g (group_acts leaders x)) u
        ≡ (if same_user u x then given_leaders edition (leaders_of edition g u) (leaders u)
        else leaders_of edition g u)
    step x g = grouped_value edition x u (leaders x) g
        ∙ ap (λ b. if b then given_leaders edition (leaders_of edition g u) (leaders x) else leaders_of edition g u)
        (same_user-sym x u)
        ∙ at (same_user u x) refl
      where
        at : (b : Bool) → same_user u x ≡ b
            → (if b then given_leaders edition (leaders_of edition g u) (leaders x) else leaders_of edition g u)
            ≡ (if b then given_leaders edition (leaders_of edition g u) (leaders u) else leaders_of edition g u)
        at true e = ap (λ (y : UserId). given_leaders edition (leaders_of edition g u) (leaders y))
            (sym (same_user-true u x e))
        at false e = refl
