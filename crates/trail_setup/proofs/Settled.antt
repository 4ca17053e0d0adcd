-- Masks, presets and the default lock that a state keeps are those of the history of the acts that it follows.
use Rattle.trail_setup.proofs.Vocabulary.{◌≡◌, ◌∙◌, ◌∷◌, ◌&&◌, ◌||◌, [], ℕ, List, Bool, true, false, not, refl, sym, ap}
use Rattle.trail_setup.proofs.Vocabulary.{subst, arith, Some, None, if◌then◌else◌, unwrap_or, cond, filter}
use Rattle.trail_setup.proofs.Vocabulary.{AllByRecursion, Act, PresetKind, Bit, UserId, History, mask}
use Rattle.trail_setup.proofs.Vocabulary.{preset_of, same_bit, same_preset, same_user, SetMask, SetupState, FollowsAct}
use Rattle.trail_setup.proofs.Vocabulary.{masked_in, with_bit, all_bits, mask_in, preset_in}
use Rattle.acl.specs.declared.act.Act.TheVariants as act
use Rattle.acl.specs.declared.act.LockMode.{LockMode}
use Rattle.acl.specs.declared.act.PresetKind.TheVariants as preset
use Rattle.acl.specs.declared.bits.Bit.TheVariants.{Read, Write, Execute}
use Rattle.acl.proofs.StandsForLemmas.{same_user-true}
use Rattle.acl.proofs.FollowingLemmas.{same_user-sym}
use Rattle.trail_setup.specs.Keeping.{IsAfter, IsThree, StatesKeep, bit_in, default_after, default_of, forgotten}
use Rattle.trail_setup.specs.Keeping.{masks_after, preset_after}

-- ---- three bits

with_bit_is : (b c : Bit) (v : Bool) (given : List Bool) → IsThree given
    → bit_in c (with_bit b v given) ≡ (if same_bit b c then v else bit_in c given)
with_bit_is b c v [] n = absurd (omega (arith, n))
with_bit_is b c v (r ∷ []) n = absurd (omega (arith, n))
with_bit_is b c v (r ∷ w ∷ []) n = absurd (omega (arith, n))
with_bit_is b c v (r ∷ w ∷ x ∷ y ∷ more) n = absurd (omega (arith, n))
with_bit_is Read Read v (r ∷ w ∷ x ∷ []) n = refl
with_bit_is Read Write v (r ∷ w ∷ x ∷ []) n = refl
with_bit_is Read Execute v (r ∷ w ∷ x ∷ []) n = refl
with_bit_is Write Read v (r ∷ w ∷ x ∷ []) n = refl
with_bit_is Write Write v (r ∷ w ∷ x ∷ []) n = refl
with_bit_is Write Execute v (r ∷ w ∷ x ∷ []) n = refl
with_bit_is Execute Read v (r ∷ w ∷ x ∷ []) n = refl
with_bit_is Execute Write v (r ∷ w ∷ x ∷ []) n = refl
with_bit_is Execute Execute v (r ∷ w ∷ x ∷ []) n = refl

with_bit_three : (b : Bit) (v : Bool) (given : List Bool) → IsThree given → IsThree (with_bit b v given)
with_bit_three b v [] n = absurd (omega (arith, n))
with_bit_three b v (r ∷ []) n = absurd (omega (arith, n))
with_bit_three b v (r ∷ w ∷ []) n = absurd (omega (arith, n))
with_bit_three b v (r ∷ w ∷ x ∷ y ∷ more) n = absurd (omega (arith, n))
with_bit_three Read v (r ∷ w ∷ x ∷ []) n = refl
with_bit_three Write v (r ∷ w ∷ x ∷ []) n = refl
with_bit_three Execute v (r ∷ w ∷ x ∷ []) n = refl

all_are : (bit : Bit) → bit_in bit all_bits ≡ true
all_are Read = refl
all_are Write = refl
all_are Execute = refl

-- ---- presets and the default lock

preset_kept : (a : Act) (h : History) (kind : PresetKind) (bit : Bit) (given : List Bool) → IsThree given
    → bit_in bit given ≡ preset_of h kind bit → bit_in bit (preset_after kind a given) ≡ preset_of (a ∷ h) kind bit
preset_kept (act.Preset k b v) h kind bit given n e = at (same_preset k kind)
  where
    pick : (d : Bool) → (if d then v else bit_in bit given)
        ≡ unwrap_or (if d then Some v else None) (preset_of h kind bit)
    pick true = refl
    pick false = e

    at : (c : Bool) → bit_in bit (if c then with_bit b v given else given)
        ≡ unwrap_or (if c && same_bit b bit then Some v else None) (preset_of h kind bit)
    at true = with_bit_is b bit v given n ∙ pick (same_bit b bit)
    at false = e
preset_kept a h kind bit given n e = e

preset_three : (a : Act) (kind : PresetKind) (given : List Bool) → IsThree given → IsThree (preset_after kind a given)
preset_three (act.Preset k b v) kind given n = at (same_preset k kind)
  where
    at : (c : Bool) → IsThree (if c then with_bit b v given else given)
    at true = with_bit_three b v given n
    at false = n
preset_three a kind given n = n

default_kept : (a : Act) (h : History) (mode : LockMode) → mode ≡ default_of h
    → default_after a mode ≡ default_of (a ∷ h)
default_kept (act.Default m) h mode e = refl
default_kept a h mode e = e

-- ---- masks

both-true : (a b : Bool) → (a && b) ≡ true → (a ≡ true) × (b ≡ true)
both-true true b e = (refl, e)
both-true false b e = absurd (let wrong : false ≡ true = e in cc)

-- two that the mask is of are the same
of-one : (m : SetMask) (by u : UserId) → (same_user m.by by && same_user m.user u) ≡ true
    → (m.by ≡ by) × (m.user ≡ u)
of-one m by u e =
    let both = both-true (same_user m.by by) (same_user m.user u) e in
    (same_user-true m.by by both.0, same_user-true m.user u both.1)

module _ (by u : UserId) (bit : Bit) where
  module _ (b u2 : UserId) (c : Bit) (v : Bool) where
    pub masked_is : (masks : List SetMask) → AllByRecursion (λ m. IsThree m.left) masks
        → bit_in bit (mask_in (masked_in b u2 c v masks) by u)
        ≡ (if (same_user b by && same_user u2 u) && same_bit c bit then v else bit_in bit (mask_in masks by u))
    masked_is [] sized = at (same_user b by && same_user u2 u)
      where
        at : (t : Bool) → bit_in bit (if t then with_bit c v all_bits else all_bits)
            ≡ (if t && same_bit c bit then v else bit_in bit all_bits)
        at true = with_bit_is c bit v all_bits refl
        at false = refl
    masked_is (m ∷ masks) sized = at (same_user m.by b && same_user m.user u2) refl (masked_is masks sized.1)
      where
        here : (q : Bool) → bit_in bit (if q then with_bit c v m.left else mask_in masks by u)
            ≡ (if q && same_bit c bit then v else bit_in bit (if q then m.left else mask_in masks by u))
        here true = with_bit_is c bit v m.left sized.0
        here false = refl

        there : (q : Bool) → (same_user m.by by && same_user m.user u) ≡ q
            → (same_user m.by b && same_user m.user u2) ≡ false
            → bit_in bit (mask_in (masked_in b u2 c v masks) by u)
            ≡ (if (same_user b by && same_user u2 u) && same_bit c bit then v else bit_in bit (mask_in masks by u))
            → bit_in bit (if q then m.left else mask_in (masked_in b u2 c v masks) by u)
            ≡ (if (same_user b by && same_user u2 u) && same_bit c bit then v
            else bit_in bit (if q then m.left else mask_in masks by u))
        there false is apart below = below
        there true is apart below =
            let one = of-one m by u is in
            let other : (same_user b by && same_user u2 u) ≡ false =
            ap (λ (x : UserId). same_user b x && same_user u2 u) (sym one.0)
            ∙ (ap (λ (x : UserId). same_user b m.by && same_user u2 x) (sym one.1)
            ∙ (ap (λ t. t && same_user u2 m.user) (same_user-sym b m.by)
            ∙ (ap (λ t. same_user m.by b && t) (same_user-sym u2 m.user) ∙ apart))) in
            sym (ap (λ t. if t && same_bit c bit then v else bit_in bit m.left) other)

        at : (p : Bool) → (same_user m.by b && same_user m.user u2) ≡ p
            → bit_in bit (mask_in (masked_in b u2 c v masks) by u)
            ≡ (if (same_user b by && same_user u2 u) && same_bit c bit then v else bit_in bit (mask_in masks by u))
            → bit_in bit (mask_in (if p then record m { left = with_bit c v m.left } ∷ masks
            else m ∷ masked_in b u2 c v masks) by u)
            ≡ (if (same_user b by && same_user u2 u) && same_bit c bit then v
            else bit_in bit (if same_user m.by by && same_user m.user u then m.left else mask_in masks by u))
        at true is below =
            let one = of-one m b u2 is in
            here (same_user m.by by && same_user m.user u)
            ∙ ap (λ (x : UserId). if (same_user x by && same_user m.user u) && same_bit c bit then v
            else bit_in bit (if same_user m.by by && same_user m.user u then m.left else mask_in masks by u)) one.0
            ∙ ap (λ (x : UserId). if (same_user b by && same_user x u) && same_bit c bit then v
            else bit_in bit (if same_user m.by by && same_user m.user u then m.left else mask_in masks by u)) one.1
        at false is below = there (same_user m.by by && same_user m.user u) refl is below

  pub forgotten_is : (x : UserId) (masks : List SetMask) → bit_in bit (mask_in (forgotten x masks) by u)
      ≡ (if same_user x by || same_user x u then true else bit_in bit (mask_in masks by u))
  forgotten_is x [] = at (same_user x by || same_user x u)
    where
      at : (t : Bool) → bit_in bit all_bits ≡ (if t then true else bit_in bit all_bits)
      at true = all_are bit
      at false = refl
  forgotten_is x (m ∷ masks) =
      at (not (same_user m.by x) && not (same_user m.user x)) refl (same_user m.by by && same_user m.user u) refl
      (forgotten_is x masks)
    where
      -- if the mask is for these, it is kept unless the user is one of them
      among : (same_user m.by by && same_user m.user u) ≡ true
          → (same_user x by || same_user x u) ≡ not (not (same_user m.by x) && not (same_user m.user x))
      among is =
          let one = of-one m by u is in
          ap (λ (y : UserId). same_user x y || same_user x u) (sym one.0)
          ∙ (ap (λ (y : UserId). same_user x m.by || same_user x y) (sym one.1)
          ∙ (ap (λ t. t || same_user x m.user) (same_user-sym x m.by)
          ∙ (ap (λ t. same_user m.by x || t) (same_user-sym x m.user)
          ∙ de_morgan (same_user m.by x) (same_user m.user x))))
        where
          de_morgan : (s t : Bool) → (s || t) ≡ not (not s && not t)
          de_morgan true t = refl
          de_morgan false true = refl
          de_morgan false false = refl

      at : (k : Bool) → (not (same_user m.by x) && not (same_user m.user x)) ≡ k → (q : Bool)
          → (same_user m.by by && same_user m.user u) ≡ q
          → bit_in bit (mask_in (forgotten x masks) by u)
          ≡ (if same_user x by || same_user x u then true else bit_in bit (mask_in masks by u))
          → bit_in bit (mask_in (cond k (m ∷ forgotten x masks) (forgotten x masks)) by u)
          ≡ (if same_user x by || same_user x u then true
          else bit_in bit (if q then m.left else mask_in masks by u))
      at true kept false apart below =
          ap (λ t. bit_in bit (if t then m.left else mask_in (forgotten x masks) by u)) apart ∙ below
      at true kept true is below =
          ap (λ t. bit_in bit (if t then m.left else mask_in (forgotten x masks) by u)) is
          ∙ sym (ap (λ t. if t then true else bit_in bit m.left) (among is ∙ ap not kept))
      at false gone false apart below = below
      at false gone true is below =
          let one : (same_user x by || same_user x u) ≡ true = among is ∙ ap not gone in
          below ∙ ap (λ t. if t then true else bit_in bit (mask_in masks by u)) one
          ∙ sym (ap (λ t. if t then true else bit_in bit m.left) one)

  pub mask_kept : (a : Act) (h : History) (masks : List SetMask) → AllByRecursion (λ m. IsThree m.left) masks
      → bit_in bit (mask_in masks by u) ≡ mask h by u bit
      → bit_in bit (mask_in (masks_after a masks) by u) ≡ mask (a ∷ h) by u bit
  mask_kept (act.Masked b u2 c v) h masks sized e =
      masked_is b u2 c v masks sized ∙ pick ((same_user b by && same_user u2 u) && same_bit c bit)
    where
      pick : (t : Bool) → (if t then v else bit_in bit (mask_in masks by u))
          ≡ unwrap_or (if t then Some v else None) (mask h by u bit)
      pick true = refl
      pick false = e
  mask_kept (act.Known x) h masks sized e = forgotten_is x masks ∙ pick (same_user x by || same_user x u)
    where
      pick : (t : Bool) → (if t then true else bit_in bit (mask_in masks by u))
          ≡ unwrap_or (if t then Some true else None) (mask h by u bit)
      pick true = refl
      pick false = e
  mask_kept (act.Gone x) h masks sized e = forgotten_is x masks ∙ pick (same_user x by || same_user x u)
    where
      pick : (t : Bool) → (if t then true else bit_in bit (mask_in masks by u))
          ≡ unwrap_or (if t then Some true else None) (mask h by u bit)
      pick true = refl
      pick false = e
  mask_kept a h masks sized e = e

-- ---- each mask keeps three bits

masked_three : (b u : UserId) (c : Bit) (v : Bool) (masks : List SetMask)
    → AllByRecursion (λ m. IsThree m.left) masks → AllByRecursion (λ m. IsThree m.left) (masked_in b u c v masks)
masked_three b u c v [] sized = (with_bit_three c v all_bits refl, tt)
masked_three b u c v (m ∷ masks) sized =
    at (same_user m.by b && same_user m.user u) (masked_three b u c v masks sized.1)
  where
    at : (p : Bool) → AllByRecursion (λ m. IsThree m.left) (masked_in b u c v masks)
        → AllByRecursion (λ m. IsThree m.left)
        (if p then record m { left = with_bit c v m.left } ∷ masks else m ∷ masked_in b u c v masks)
    at true below = (with_bit_three c v m.left sized.0, sized.1)
    at false below = (sized.0, below)

filter_three : (p : SetMask → Bool) (masks : List SetMask) → AllByRecursion (λ m. IsThree m.left) masks
    → AllByRecursion (λ m. IsThree m.left) (filter p masks)
filter_three p [] sized = tt
filter_three p (m ∷ masks) sized = at (p m) (filter_three p masks sized.1)
  where
    at : (k : Bool) → AllByRecursion (λ m. IsThree m.left) (filter p masks)
        → AllByRecursion (λ m. IsThree m.left) (cond k (m ∷ filter p masks) (filter p masks))
    at true below = (sized.0, below)
    at false below = below

masks_three : (a : Act) (masks : List SetMask) → AllByRecursion (λ m. IsThree m.left) masks
    → AllByRecursion (λ m. IsThree m.left) (masks_after a masks)
masks_three (act.Masked b u c v) masks sized = masked_three b u c v masks sized
masks_three (act.Known x) masks sized = filter_three _ masks sized
masks_three (act.Gone x) masks sized = filter_three _ masks sized
masks_three a masks sized = sized

-- ---- one act, and all

one_kept : (a : Act) (old new : SetupState) (h : History) → FollowsAct a old new → IsAfter old h → IsAfter new (a ∷ h)
one_kept a old new h f k = record {
  masks = λ by u bit.
      ap (λ (masks : List SetMask). bit_in bit (mask_in masks by u)) f.masks
      ∙ mask_kept by u bit a h old.masks.items k.sized (k.masks by u bit);
  presets = each;
  default = f.default ∙ default_kept a h old.default k.default;
  sized = subst (λ (masks : List SetMask). AllByRecursion (λ m. IsThree m.left) masks) (sym f.masks)
      (masks_three a old.masks.items k.sized);
  three = (
    subst IsThree (sym f.on_windows) (preset_three a preset.Windows old.on_windows k.three.0),
    subst IsThree (sym f.on_commands) (preset_three a preset.Commands old.on_commands k.three.1),
  );
}
  where
    each : (kind : PresetKind) (bit : Bit) → bit_in bit (preset_in new kind) ≡ preset_of (a ∷ h) kind bit
    each preset.Windows bit = ap (bit_in bit) f.on_windows
        ∙ preset_kept a h preset.Windows bit old.on_windows k.three.0 (k.presets preset.Windows bit)
    each preset.Commands bit = ap (bit_in bit) f.on_commands
        ∙ preset_kept a h preset.Commands bit old.on_commands k.three.1 (k.presets preset.Commands bit)

pub states_keep : StatesKeep
states_keep [] old new h follows k = subst (λ (s : SetupState). IsAfter s h) (sym follows) k
states_keep (a ∷ acts) old new h follows k =
    states_keep acts follows.0 new (a ∷ h) follows.2 (one_kept a old follows.0 h follows.1 k)
