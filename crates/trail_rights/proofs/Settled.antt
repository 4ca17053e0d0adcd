-- A settler looks for the latest act that gives a setting its value.
use Rattle.trail_rights.proofs.Vocabulary.{◌≡◌, ◌∙◌, Bool, true, false, ◌&&◌, List, [], ◌∷◌, Option, Some, None, refl}
use Rattle.trail_rights.proofs.Vocabulary.{ap, sym, map, cond, is_some, unwrap_or, IfSome, AllByRecursion, and_parts}
use Rattle.trail_rights.proofs.Vocabulary.{false≢true, Act, Bit, Read, Mark, RightsSetting, Settler, Marked, acts_in}
use Rattle.trail_rights.proofs.Vocabulary.{settles, value_of, settling, settler_after, HasSettled, settler_in}
use Rattle.trail_rights.proofs.Vocabulary.{first_settler, setting_by}
use Rattle.acl.specs.declared.act.PresetKind.{PresetKind}
use Rattle.acl.specs.declared.act.PresetKind.TheVariants as preset
use Rattle.acl.specs.declared.bits.Bit.TheVariants.{Write, Execute}
use Rattle.acl.specs.Same.{same_user, same_bit, same_preset}
use Rattle.acl.proofs.StandsForLemmas.{same_user-true}
use Rattle.trail_rights.specs.declared.settler.RightsSetting.TheVariants as setting
use Rattle.trail_rights.specs.Settling.{IsSet, SettlingIsLatest, same_setting}

pub settled_next : (marked : Marked) (s : Settler) (m : Mark) (a : Act) → HasSettled marked s
    → HasSettled ((m, a) ∷ marked) (settler_after m a s)
settled_next marked s m a is = record {
  value = ap (unwrap_or (settles s.setting a)) is.value;
  found = ap (cond (is_some (settles s.setting a)) (Some (m, a))) is.found;
}

pub all_settled : (marked : Marked) (m : Mark) (a : Act) (settlers : List Settler)
    → AllByRecursion (HasSettled marked) settlers
    → AllByRecursion (HasSettled ((m, a) ∷ marked)) (map (settler_after m a) settlers)
all_settled marked m a [] all = tt
all_settled marked m a (s ∷ settlers) all = (settled_next marked s m a all.0, all_settled marked m a settlers all.1)

-- an act that gives no setting a value leaves all as they are
unsettled_one : (s : Settler) (m : Mark) (a : Act) (o : Option Bool) → settles s.setting a ≡ o → o ≡ None
    → settler_after m a s ≡ s
unsettled_one s m a None e is = ap
    (λ o. record s { value = unwrap_or o s.value; found = cond (is_some o) (Some (m, a)) s.found }) e
unsettled_one s m a (Some v) e is = cc

pub unsettled : (m : Mark) (a : Act) → ((s : RightsSetting) → settles s a ≡ None) → (settlers : List Settler)
    → settlers ≡ map (settler_after m a) settlers
unsettled m a none [] = refl
unsettled m a none (s ∷ settlers) = ap (λ t. t ∷ settlers)
    (sym (unsettled_one s m a (settles s.setting a) refl (none s.setting)))
    ∙ ap (λ ts. settler_after m a s ∷ ts) (unsettled m a none settlers)

-- ---- before the first act

pub first_settled : (settings : List RightsSetting) → AllByRecursion (HasSettled []) (map first_settler settings)
first_settled [] = tt
first_settled (s ∷ settings) = (record { value = refl; found = refl }, first_settled settings)

pub first_sought : (settings : List RightsSetting) → map setting_by (map first_settler settings) ≡ settings
first_sought [] = refl
first_sought (s ∷ settings) = ap (λ ss. s ∷ ss) (first_sought settings)

-- ---- the first that looks for a setting

same_bit-true : (b c : Bit) → same_bit b c ≡ true → b ≡ c
same_bit-true Read Read e = refl
same_bit-true Write Write e = refl
same_bit-true Execute Execute e = refl
same_bit-true Read Write e = absurd (false≢true e)
same_bit-true Read Execute e = absurd (false≢true e)
same_bit-true Write Read e = absurd (false≢true e)
same_bit-true Write Execute e = absurd (false≢true e)
same_bit-true Execute Read e = absurd (false≢true e)
same_bit-true Execute Write e = absurd (false≢true e)

same_preset-true : (j k : PresetKind) → same_preset j k ≡ true → j ≡ k
same_preset-true preset.Windows preset.Windows e = refl
same_preset-true preset.Commands preset.Commands e = refl
same_preset-true preset.Windows preset.Commands e = absurd (false≢true e)
same_preset-true preset.Commands preset.Windows e = absurd (false≢true e)

same_setting-true : (s q : RightsSetting) → same_setting s q ≡ true → s ≡ q
same_setting-true (setting.Listed u) (setting.Listed v) e = ap setting.Listed (same_user-true u v e)
same_setting-true (setting.Mask by u b) (setting.Mask other v c) e =
    let last = and_parts (same_user by other && same_user u v) (same_bit b c) e in
    let first = and_parts (same_user by other) (same_user u v) last.0 in
    ap (λ x. setting.Mask x u b) (same_user-true by other first.0)
    ∙ ap (λ x. setting.Mask other x b) (same_user-true u v first.1)
    ∙ ap (setting.Mask other v) (same_bit-true b c last.1)
same_setting-true (setting.Preset j b) (setting.Preset k c) e =
    let both = and_parts (same_preset j k) (same_bit b c) e in
    ap (λ x. setting.Preset x b) (same_preset-true j k both.0) ∙ ap (setting.Preset k) (same_bit-true b c both.1)
same_setting-true s q e = absurd (false≢true e)

abbrev pub IsSettled : Marked → RightsSetting → Settler → Type 0
IsSettled marked q t = (t.value ≡ value_of q (acts_in marked)) × (t.found ≡ settling marked q)

found_if : (marked : Marked) (t : Settler) (q : RightsSetting) (b : Bool) (rest : Option Settler)
    → same_setting t.setting q ≡ b → HasSettled marked t → IfSome rest (IsSettled marked q)
    → IfSome (cond b (Some t) rest) (IsSettled marked q)
found_if marked t q true rest e is later =
    let same = same_setting-true t.setting q e in
    (is.value ∙ ap (λ s. value_of s (acts_in marked)) same, is.found ∙ ap (settling marked) same)
found_if marked t q false rest e is later = later

pub settled_in : (marked : Marked) (settlers : List Settler) (q : RightsSetting)
    → AllByRecursion (HasSettled marked) settlers
    → IfSome (settler_in settlers q) (IsSettled marked q)
settled_in marked [] q all = tt
settled_in marked (t ∷ settlers) q all = found_if marked t q (same_setting t.setting q) (settler_in settlers q) refl
    all.0 (settled_in marked settlers q all.1)

-- ---- what was found is the latest that gives the value

module _ (s : RightsSetting) where
  behind : (p : Mark × Act) (marked : Marked) (found : Option (Mark × Act)) → settles s p.1 ≡ None
      → IsSet marked s found → IsSet (p ∷ marked) s found
  behind p marked None e is = record
      { none = (e, is.none); value = ap (λ o. unwrap_or o (value_of s (acts_in marked))) e ∙ is.value }
  behind p marked (Some q) e is = record {
    later = p ∷ is.later;
    before = is.before;
    all = ap (λ ps. p ∷ ps) is.all;
    value = is.value ∙ ap Some (sym (ap (λ o. unwrap_or o (value_of s (acts_in marked))) e));
    last = (e, is.last);
  }

  found_by : (p : Mark × Act) (marked : Marked) (o : Option Bool) → settles s p.1 ≡ o
      → IsSet marked s (settling marked s) → IsSet (p ∷ marked) s (cond (is_some o) (Some p) (settling marked s))
  found_by p marked (Some v) e is = record {
    later = [];
    before = marked;
    all = refl;
    value = e ∙ ap Some (sym (ap (λ o. unwrap_or o (value_of s (acts_in marked))) e));
    last = tt;
  }
  found_by p marked None e is = behind p marked (settling marked s) e is

  latest_is : (marked : Marked) → IsSet marked s (settling marked s)
  latest_is [] = record { none = tt; value = refl }
  latest_is (p ∷ marked) = found_by p marked (settles s p.1) refl (latest_is marked)

pub settling_is_latest : SettlingIsLatest
settling_is_latest marked s = latest_is s marked
