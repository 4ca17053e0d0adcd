-- Which acts change users, leaders, rights on commands, masks, presets and the default lock.
use Rattle.trail_again.proofs.Vocabulary.{◌≡◌, ◌∙◌, Bool, true, false, List, [], ◌∷◌, ◌++◌, refl, AllByRecursion}
use Rattle.trail_again.proofs.Vocabulary.{flat_map, Act, Command, PresetKind, Bit, CommandName, Edition, UserId}
use Rattle.trail_again.proofs.Vocabulary.{History, followed_by, has, is_known, leaders_of, mask, preset_of, users_of}
use Rattle.acl.specs.declared.act.Act.TheVariants as act

abbrev pub on_users : Act → Bool
on_users (act.Known u) = true
on_users (act.Gone u) = true
on_users a = false

abbrev pub on_leaders : Act → Bool
on_leaders (act.Grouped u leader) = true
on_leaders (act.Gone u) = true
on_leaders a = false

abbrev pub on_commands : Act → Bool
on_commands (act.Known u) = true
on_commands (act.Gone u) = true
on_commands (act.Set u bit o value) = true
on_commands a = false

abbrev pub on_masks : Act → Bool
on_masks (act.Known u) = true
on_masks (act.Gone u) = true
on_masks (act.Masked by u bit value) = true
on_masks a = false

abbrev pub on_presets : Act → Bool
on_presets (act.Preset kind bit value) = true
on_presets a = false

-- none of these acts is of this kind
abbrev pub Without : (Act → Bool) → List Act → Type 0
Without on acts = AllByRecursion (λ a. on a ≡ false) acts

pub none_append : (on : Act → Bool) (xs ys : List Act) → Without on xs → Without on ys → Without on (xs ++ ys)
none_append on [] ys p q = q
none_append on (x ∷ xs) ys p q = (p.0, none_append on xs ys p.1 q)

pub none_flat : {X : Type 0} (on : Act → Bool) (f : X → List Act) (xs : List X) → ((x : X) → Without on (f x))
    → Without on (flat_map f xs)
none_flat on f [] none = tt
none_flat on f (x ∷ xs) none = none_append on (f x) (flat_map f xs) (none x) (none_flat on f xs none)

-- what off act of a list changes stays
pub stays : {A : Type 0} (f : History → A) (on : Act → Bool)
    → ((a : Act) (h : History) → on a ≡ false → f (a ∷ h) ≡ f h)
    → (acts : List Act) (h : History) → Without on acts → f (followed_by h acts) ≡ f h
stays f on same [] h none = refl
stays f on same (a ∷ acts) h none = stays f on same acts (a ∷ h) none.1 ∙ same a h none.0

pub users_stay : (owner : UserId) (a : Act) (h : History) → on_users a ≡ false
    → users_of owner (a ∷ h) ≡ users_of owner h
users_stay owner (act.Known u) h off = absurd (cc (off))
users_stay owner (act.Gone u) h off = absurd (cc (off))
users_stay owner a h off = refl

pub known_stays : (owner u : UserId) (a : Act) (h : History) → on_users a ≡ false
    → is_known owner (a ∷ h) u ≡ is_known owner h u
known_stays owner u (act.Known v) h off = absurd (cc (off))
known_stays owner u (act.Gone v) h off = absurd (cc (off))
known_stays owner u a h off = refl

pub leaders_stay : (edition : Edition) (u : UserId) (a : Act) (h : History) → on_leaders a ≡ false
    → leaders_of edition (a ∷ h) u ≡ leaders_of edition h u
leaders_stay edition u (act.Grouped v leader) h off = absurd (cc (off))
leaders_stay edition u (act.Gone v) h off = absurd (cc (off))
leaders_stay edition u a h off = refl

pub commands_stay : (owner u : UserId) (bit : Bit) (c : CommandName) (a : Act) (h : History) → on_commands a ≡ false
    → has owner (a ∷ h) u bit (Command c) ≡ has owner h u bit (Command c)
commands_stay owner u bit c (act.Known v) h off = absurd (cc (off))
commands_stay owner u bit c (act.Gone v) h off = absurd (cc (off))
commands_stay owner u bit c (act.Set v b o value) h off = absurd (cc (off))
commands_stay owner u bit c a h off = refl

pub masks_stay : (by u : UserId) (bit : Bit) (a : Act) (h : History) → on_masks a ≡ false
    → mask (a ∷ h) by u bit ≡ mask h by u bit
masks_stay by u bit (act.Known v) h off = absurd (cc (off))
masks_stay by u bit (act.Gone v) h off = absurd (cc (off))
masks_stay by u bit (act.Masked b v c value) h off = absurd (cc (off))
masks_stay by u bit a h off = refl

pub presets_stay : (kind : PresetKind) (bit : Bit) (a : Act) (h : History) → on_presets a ≡ false
    → preset_of (a ∷ h) kind bit ≡ preset_of h kind bit
presets_stay kind bit (act.Preset k b value) h off = absurd (cc (off))
presets_stay kind bit a h off = refl
