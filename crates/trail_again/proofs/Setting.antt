-- The bits that acts leave which set all three bits of one kind.
use Rattle.trail_again.proofs.Vocabulary.{◌≡◌, ◌∙◌, Bool, true, false, not, List, [], ◌∷◌, ◌++◌, refl, ap, map, sym}
use Rattle.trail_again.proofs.Vocabulary.{◌||◌, ◌&&◌, if◌then◌else◌, unwrap_or, flat_map, list_any, Act, Object}
use Rattle.trail_again.proofs.Vocabulary.{PresetKind, Bit, Read, Write, Execute, BitChange, UserId, sets, sets_on}
use Rattle.trail_again.proofs.Vocabulary.{History, among, decided, followed_by, has, mask, preset_of, same_bit}
use Rattle.trail_again.proofs.Vocabulary.{same_object, same_preset, same_user, followed_by-append, same_user-true}
use Rattle.acl.specs.declared.act.Act.TheVariants as act

-- ---- three bits

abbrev pub pick : (r w x : Bool) → Bit → Bool
pick r w x Read = r
pick r w x Write = w
pick r w x Execute = x

abbrev pub change : Bool → Bool → Bit → List BitChange
change true value bit = record { bit = bit; value = value } ∷ []
change false value bit = []

abbrev pub group : Bool → (r w x : Bool) → List BitChange
group value r w x = change r value Read ++ (change w value Write ++ change x value Execute)

-- those that are given, and then those that are taken
abbrev pub set_bits : (r w x : Bool) → List BitChange
set_bits r w x = group true r w x ++ group false (not r) (not w) (not x)

-- a bit after changes that are of it
abbrev pub value_after : Bool → Bit → List BitChange → Bool → Bool
value_after on bit [] old = old
value_after on bit (c ∷ cs) old = value_after on bit cs (if on && same_bit c.bit bit then c.value else old)

all_given : (r w x : Bool) (bit : Bit) (old : Bool) → value_after true bit (set_bits r w x) old ≡ pick r w x bit
all_given true true true Read old = refl
all_given true true true Write old = refl
all_given true true true Execute old = refl
all_given true true false Read old = refl
all_given true true false Write old = refl
all_given true true false Execute old = refl
all_given true false true Read old = refl
all_given true false true Write old = refl
all_given true false true Execute old = refl
all_given true false false Read old = refl
all_given true false false Write old = refl
all_given true false false Execute old = refl
all_given false true true Read old = refl
all_given false true true Write old = refl
all_given false true true Execute old = refl
all_given false true false Read old = refl
all_given false true false Write old = refl
all_given false true false Execute old = refl
all_given false false true Read old = refl
all_given false false true Write old = refl
all_given false false true Execute old = refl
all_given false false false Read old = refl
all_given false false false Write old = refl
all_given false false false Execute old = refl

none_given : (bit : Bit) (cs : List BitChange) (old : Bool) → value_after false bit cs old ≡ old
none_given bit [] old = refl
none_given bit (c ∷ cs) old = none_given bit cs old

pub all_set : (r w x : Bool) (bit : Bit) (on old : Bool)
    → value_after on bit (set_bits r w x) old ≡ (if on then pick r w x bit else old)
all_set r w x bit true old = all_given r w x bit old
all_set r w x bit false old = none_given bit (set_bits r w x) old

-- ---- users' bits

has_step : (a s b v old : Bool) → unwrap_or (decided (a && s && b) v) old ≡ (if (a && b) && s then v else old)
has_step false s b v old = refl
has_step true true true v old = refl
has_step true true false v old = refl
has_step true false true v old = refl
has_step true false false v old = refl

sets_on_value : (owner v u : UserId) (bit : Bit) (p o : Object) (changes : List BitChange) (h : History)
    → has owner (followed_by h (sets_on v changes p)) u bit o
    ≡ value_after (same_user v u && same_object p o) bit changes (has owner h u bit o)
sets_on_value owner v u bit p o [] h = refl
sets_on_value owner v u bit p o (c ∷ cs) h =
    sets_on_value owner v u bit p o cs (act.Set v c.bit p c.value ∷ h)
    ∙ ap (λ old. value_after (same_user v u && same_object p o) bit cs old)
    (has_step (same_user v u) (same_bit c.bit bit) (same_object p o) c.value (has owner h u bit o))

abbrev pub object_among : List Object → Object → Bool
object_among objects o = list_any (λ p. same_object p o) objects

no_object : (a x y : Bool) → (if a && false then x else y) ≡ y
no_object true x y = refl
no_object false x y = refl

join : (a b c x y : Bool) → (if a && c then x else (if a && b then x else y)) ≡ (if a && (b || c) then x else y)
join false b c x y = refl
join true true true x y = refl
join true true false x y = refl
join true false c x y = refl

pub sets_value : (owner v u : UserId) (bit : Bit) (o : Object) (r w x : Bool) (objects : List Object) (h : History)
    → has owner (followed_by h (sets v (set_bits r w x) objects)) u bit o
    ≡ (if same_user v u && object_among objects o then pick r w x bit else has owner h u bit o)
sets_value owner v u bit o r w x [] h = sym (no_object (same_user v u) (pick r w x bit) (has owner h u bit o))
sets_value owner v u bit o r w x (p ∷ ps) h =
    ap (λ g. has owner g u bit o) (followed_by-append h (sets_on v (set_bits r w x) p) (sets v (set_bits r w x) ps))
    ∙ sets_value owner v u bit o r w x ps (followed_by h (sets_on v (set_bits r w x) p))
    ∙ ap (λ old. if same_user v u && object_among ps o then pick r w x bit else old)
    (sets_on_value owner v u bit p o (set_bits r w x) h
    ∙ all_set r w x bit (same_user v u && same_object p o) (has owner h u bit o))
    ∙ join (same_user v u) (same_object p o) (object_among ps o) (pick r w x bit) (has owner h u bit o)

-- ---- masks

abbrev pub masks_on : UserId → UserId → List BitChange → List Act
masks_on by u changes = map (λ c. act.Masked by u c.bit c.value) changes

mask_step : (a b s v old : Bool) → unwrap_or (decided (a && b && s) v) old ≡ (if (a && b) && s then v else old)
mask_step false b s v old = refl
mask_step true false s v old = refl
mask_step true true true v old = refl
mask_step true true false v old = refl

mask_on_value : (b v by u : UserId) (bit : Bit) (changes : List BitChange) (h : History)
    → mask (followed_by h (masks_on b v changes)) by u bit
    ≡ value_after (same_user b by && same_user v u) bit changes (mask h by u bit)
mask_on_value b v by u bit [] h = refl
mask_on_value b v by u bit (c ∷ cs) h =
    mask_on_value b v by u bit cs (act.Masked b v c.bit c.value ∷ h)
    ∙ ap (λ old. value_after (same_user b by && same_user v u) bit cs old)
    (mask_step (same_user b by) (same_user v u) (same_bit c.bit bit) c.value (mask h by u bit))

pub mask_value : (b v by u : UserId) (bit : Bit) (r w x : Bool) (h : History)
    → mask (followed_by h (masks_on b v (set_bits r w x))) by u bit
    ≡ (if same_user b by && same_user v u then pick r w x bit else mask h by u bit)
mask_value b v by u bit r w x h = mask_on_value b v by u bit (set_bits r w x) h
    ∙ all_set r w x bit (same_user b by && same_user v u) (mask h by u bit)

-- ---- presets

abbrev pub presets_on : PresetKind → List BitChange → List Act
presets_on kind changes = map (λ c. act.Preset kind c.bit c.value) changes

preset_step : (a s v old : Bool) → unwrap_or (decided (a && s) v) old ≡ (if a && s then v else old)
preset_step false s v old = refl
preset_step true true v old = refl
preset_step true false v old = refl

preset_on_value : (k kind : PresetKind) (bit : Bit) (changes : List BitChange) (h : History)
    → preset_of (followed_by h (presets_on k changes)) kind bit
    ≡ value_after (same_preset k kind) bit changes (preset_of h kind bit)
preset_on_value k kind bit [] h = refl
preset_on_value k kind bit (c ∷ cs) h =
    preset_on_value k kind bit cs (act.Preset k c.bit c.value ∷ h)
    ∙ ap (λ old. value_after (same_preset k kind) bit cs old)
    (preset_step (same_preset k kind) (same_bit c.bit bit) c.value (preset_of h kind bit))

pub preset_value : (k kind : PresetKind) (bit : Bit) (r w x : Bool) (h : History)
    → preset_of (followed_by h (presets_on k (set_bits r w x))) kind bit
    ≡ (if same_preset k kind then pick r w x bit else preset_of h kind bit)
preset_value k kind bit r w x h = preset_on_value k kind bit (set_bits r w x) h
    ∙ all_set r w x bit (same_preset k kind) (preset_of h kind bit)

-- ---- users one after another

-- each of them once
abbrev pub Distinct : List UserId → Type 0
Distinct [] = Unit {0}
Distinct (x ∷ xs) = (among xs x ≡ false) × Distinct xs

-- what acts of each user change of this user alone
pub keyed : {A : Type 0} (val : History → A) (g : UserId → List Act) (k : UserId) (F : A → A)
    → ((x : UserId) (h : History) → val (followed_by h (g x)) ≡ (if same_user k x then F (val h) else val h))
    → (xs : List UserId) (h : History) → Distinct xs
    → val (followed_by h (flat_map g xs)) ≡ (if among xs k then F (val h) else val h)
keyed val g k F step [] h d = refl
keyed {A = A} val g k F step (x ∷ xs) h d =
    ap val (followed_by-append h (g x) (flat_map g xs))
    ∙ keyed val g k F step xs (followed_by h (g x)) d.1
    ∙ at (same_user k x) refl
  where
    at : (b : Bool) → same_user k x ≡ b
        → (if among xs k then F (val (followed_by h (g x))) else val (followed_by h (g x)))
        ≡ (if b || among xs k then F (val h) else val h)
    at true e = ap (λ c. if c then F (val (followed_by h (g x))) else val (followed_by h (g x)))
        (ap (among xs) (same_user-true k x e) ∙ d.0)
        ∙ step x h ∙ ap (λ c. if c then F (val h) else val h) e
    at false e = ap (λ (v : A). if among xs k then F v else v)
        (step x h ∙ ap (λ c. if c then F (val h) else val h) e)
