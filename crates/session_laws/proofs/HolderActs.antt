-- Acts after which a holder still has the lock, unless they lose the window by one of them.
use Rattle.session_laws.proofs.Vocabulary.{◌≡◌, ℕ, Bool, true, false, not, List, [], ◌∷◌, Some, None, refl, ap, sym}
use Rattle.session_laws.proofs.Vocabulary.{◌∙◌, filter, inl, inr, if◌then◌else◌, ◌==◌, ◌||◌, ◌&&◌, ◌⊎◌, AllByRecursion}
use Rattle.session_laws.proofs.Vocabulary.{list_any, Edition, UserId, Write, Act, same_user, History, followed_by, may}
use Rattle.session_laws.proofs.Vocabulary.{decided, holder, kept, ends, or_else, is_off, is_auto, is_on, mode_of}
use Rattle.session_laws.proofs.Vocabulary.{default_of, clients_of, has_client, frees, all_filter, LosesWindow}
use Rattle.acl.specs.declared.act.Act.TheVariants as act
use Rattle.acl.specs.declared.act.Object.TheVariants as object
use Rattle.writelock.specs.Holding.{given}
use Rattle.session_laws.proofs.Histories.{same_may}

-- no client with this serial belongs to the user
abbrev pub NoneOf : UserId → ℕ → List (ℕ × UserId) → Type 0
NoneOf user client ps = AllByRecursion (λ (p : ℕ × UserId). (p.0 == client) ≡ true → same_user p.1 user ≡ false) ps

none_filter : (user : UserId) (client : ℕ) (p : ℕ × UserId → Bool) (ps : List (ℕ × UserId)) → NoneOf user client ps
    → NoneOf user client (filter p ps)
none_filter user client p ps all = all_filter (λ (q : ℕ × UserId). (q.0 == client) ≡ true → same_user q.1 user ≡ false)
    p ps all

any_filter : (user : UserId) (client : ℕ) (ps : List (ℕ × UserId)) → NoneOf user client ps
    → list_any (λ (p : ℕ × UserId). same_user p.1 user) (filter (λ (p : ℕ × UserId). not (p.0 == client)) ps) ≡ list_any
    (λ (p : ℕ × UserId). same_user p.1 user) ps
any_filter user client [] all = refl
any_filter user client (p ∷ ps) all = on (p.0 == client) all.0 (any_filter user client ps all.1) where
  on : (b : Bool) → (b ≡ true → same_user p.1 user ≡ false)
      → list_any (λ (q : ℕ × UserId). same_user q.1 user) (filter (λ (q : ℕ × UserId). not (q.0 == client)) ps) ≡
      list_any (λ (q : ℕ × UserId). same_user q.1 user) ps
      → list_any (λ (q : ℕ × UserId). same_user q.1 user)
      (if not b then p ∷ filter (λ (q : ℕ × UserId). not (q.0 == client)) ps else filter
      (λ (q : ℕ × UserId). not (q.0 == client)) ps)
      ≡ (same_user p.1 user || list_any (λ (q : ℕ × UserId). same_user q.1 user) ps)
  on true off same = same ∙ sym (ap (λ b. b || list_any (λ (q : ℕ × UserId). same_user q.1 user) ps) (off refl))
  on false off same = ap (λ b. same_user p.1 user || b) same

and_not : (b : Bool) → (b && not b) ≡ false
and_not true = refl
and_not false = refl

-- acts that may change someone's rights
abbrev pub moves : Act → Bool
moves (act.Known u) = true
moves (act.Gone u) = true
moves (act.Set u bit o value) = true
moves (act.Grouped u leader) = true
moves a = false

module _ (edition : Edition) (owner : UserId) (base : History) (x : UserId) (w : ℕ) (attaches : Bool) where
  abbrev pub Able : History → Type 0
  Able h = may edition owner h x Write (object.Window w) ≡ true

  -- an act after which the holder still has the lock, if they may write
  abbrev pub IsCalm : Act → Type 0
  IsCalm (act.Mode by v mode) = (v == w) ≡ false
  IsCalm (act.Left v y) = (same_user v x && y == w) ≡ false
  IsCalm (act.Parted client) = (attaches ≡ false) × NoneOf x client (clients_of base)
  IsCalm (act.Attached client user) = attaches ≡ true
  IsCalm (act.Opened by v) = (v == w) ≡ false
  IsCalm (act.Closed v) = (v == w) ≡ false
  IsCalm a = frees a x w ≡ false

  abbrev Carries : History → Type 0
  Carries h = attaches ≡ false → (client : ℕ) → NoneOf x client (clients_of base) → NoneOf x client (clients_of h)

  carries_after : (h : History) (a : Act) → IsCalm a → Carries h → Carries (a ∷ h)
  carries_after h (act.Attached client user) is carry = λ none. absurd (cc (is, none))
  carries_after h (act.Parted client) is carry = λ none c all. none_filter x c (λ (p : ℕ × UserId). not (p.0 == client))
      (clients_of h) (carry none c all)
  carries_after h a is carry = carry

  undecided : {X : Type 0} (b c : Bool) (y : X) → b ≡ false → decided (b && c) y ≡ None
  undecided true c y is = absurd (cc (is))
  undecided false c y is = refl

  and_none : (b c : Bool) → (b && false && c) ≡ false
  and_none true c = refl
  and_none false c = refl

  none_given : (h : History) (a : Act) → IsCalm a → given edition owner a h w (Some x) ≡ None
  none_given h (act.Mode by v mode) is = undecided (v == w) (not (is_off mode)) by is
  none_given h (act.Opened by v) is = undecided (v == w) (is_on (default_of h)) by is
  none_given h (act.Entered user v) is = ap (λ b. decided b user)
      (and_none (v == w && is_auto (mode_of h w)) (may edition owner h user Write (object.Window w)))
  none_given h a is = refl

  and_false : (a b : Bool) → a ≡ false → (a && b) ≡ false
  and_false true b is = absurd (cc (is))
  and_false false b is = refl

  none_ends : (h : History) (a : Act) → Carries h → IsCalm a → ends a h x w ≡ false
  none_ends h (act.Mode by v mode) carry is = and_false (v == w) (is_off mode) is
  none_ends h (act.Left v y) carry is = and_false (same_user v x && y == w) (is_auto (mode_of h w)) is
  none_ends h (act.Parted client) carry is =
      ap (λ b. has_client h x && not b) (any_filter x client (clients_of h) (carry is.0 client is.1))
      ∙ and_not (has_client h x)
  none_ends h (act.Closed v) carry is = is
  none_ends h (act.Gone u) carry is = is
  none_ends h (act.Set u Write (object.Window v) false) carry is = is
  none_ends h a carry is = refl

  kept_by : (e m : Bool) → e ≡ false → m ≡ true → (if (e || not m) then None else Some x) ≡ Some x
  kept_by false true p q = refl
  kept_by true m p q = absurd (cc (p))
  kept_by false false p q = absurd (cc (q))

  one : (h : History) (a : Act) → Carries h → Able (a ∷ h) → IsCalm a → holder edition owner h w ≡ Some x
      → holder edition owner (a ∷ h) w ≡ Some x
  one h a carry able is held =
      ap (λ o. or_else (given edition owner a h w o) (kept edition owner a h w o)) held
      ∙ ap (λ g. or_else g (kept edition owner a h w (Some x))) (none_given h a is)
      ∙ kept_by (ends a h x w) (may edition owner (a ∷ h) x Write (object.Window w)) (none_ends h a carry is) able

  -- the holder may write after each of these acts
  abbrev pub AbleAll : History → List Act → Type 0
  AbleAll h [] = Unit {0}
  AbleAll h (a ∷ acts) = Able (a ∷ h) × AbleAll (a ∷ h) acts

  along : (h : History) (acts : List Act) → Carries h → AbleAll h acts → AllByRecursion IsCalm acts
      → holder edition owner h w ≡ Some x → holder edition owner (followed_by h acts) w ≡ Some x
  along h [] carry able all held = held
  along h (a ∷ acts) carry able all held = along (a ∷ h) acts (carries_after h a all.0 carry) able.1 all.1
      (one h a carry able.0 all.0 held)

  pub stays_calm : (acts : List Act) → AbleAll base acts → AllByRecursion IsCalm acts
      → holder edition owner base w ≡ Some x → holder edition owner (followed_by base acts) w ≡ Some x
  stays_calm acts able all held = along base acts (λ none client n. n) able all held

  -- ---- other acts leave who may write

  or_nothing : (b : Bool) → b ≡ false → (b || false) ≡ false
  or_nothing b is = ap (λ c. c || false) is

  able_after : (h : History) (a : Act) → moves a ≡ false → IsCalm a → Able h → Able (a ∷ h)
  able_after h (act.Opened by v) not is able = same_may edition owner h (act.Opened by v ∷ []) (refl, tt) x Write
      (object.Window w) (or_nothing (v == w) is) ∙ able
  able_after h (act.Known u) not is able = absurd (cc (not))
  able_after h (act.Gone u) not is able = absurd (cc (not))
  able_after h (act.Set u bit o value) not is able = absurd (cc (not))
  able_after h (act.Grouped u leader) not is able = absurd (cc (not))
  able_after h a not is able = able

  pub able_calm : (h : History) (acts : List Act) → AllByRecursion (λ a. moves a ≡ false) acts
      → AllByRecursion IsCalm acts → Able h → AbleAll h acts
  able_calm h [] none all able = tt
  able_calm h (a ∷ acts) none all able = let there : Able (a ∷ h) = able_after h a none.0 all.0 able in
      (there, able_calm (a ∷ h) acts none.1 all.1 there)

  -- ---- the holder loses the window by one of these acts, or keeps it by all

  pub record KeepsWindow (h : History) (acts : List Act) : Type 0 where
    pub able : AbleAll h acts
    pub none : AllByRecursion (λ a. frees a x w ≡ false) acts

  pub loses_or_keeps : (h : History) (acts : List Act) → LosesWindow edition owner h acts x w ⊎ KeepsWindow h acts
  loses_or_keeps h [] = inr (record { able = tt; none = tt })
  loses_or_keeps h (a ∷ acts) = on (frees a x w) refl (may edition owner (a ∷ h) x Write (object.Window w)) refl
      (loses_or_keeps (a ∷ h) acts) where
        on : (f : Bool) → frees a x w ≡ f → (m : Bool) → may edition owner (a ∷ h) x Write (object.Window w) ≡ m
            → LosesWindow edition owner (a ∷ h) acts x w ⊎ KeepsWindow (a ∷ h) acts
            → LosesWindow edition owner h (a ∷ acts) x w ⊎ KeepsWindow h (a ∷ acts)
        on true is m able rest = inl (inl is)
        on false is false able rest = inl (inr (inl able))
        on false is true able (inl loses) = inl (inr (inr loses))
        on false is true able (inr keeps) = inr (record { able = (able, keeps.able); none = (is, keeps.none) })
