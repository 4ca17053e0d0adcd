-- Acts give write locks only to users who may write.
use Rattle.session_laws.proofs.Vocabulary.{◌≡◌, ℕ, Bool, true, false, not, List, [], ◌∷◌, Option, Some, None, refl, ap}
use Rattle.session_laws.proofs.Vocabulary.{sym, ◌∙◌, subst, inl, inr, ⊎_elim, if◌then◌else◌, ◌==◌, ◌||◌, ◌&&◌, ◌⊎◌}
use Rattle.session_laws.proofs.Vocabulary.{is_none, AllByRecursion, list_any, Edition, UserId, Write, Act, same_user}
use Rattle.session_laws.proofs.Vocabulary.{History, followed_by, may, has, decided, holder, kept, releases, ends}
use Rattle.session_laws.proofs.Vocabulary.{or_else, is_off, is_auto, is_on, mode_of, default_of, equal, and_first}
use Rattle.session_laws.proofs.Vocabulary.{and_second, opens_window, opened_by}
use Rattle.acl.specs.declared.act.Act.TheVariants as act
use Rattle.acl.specs.declared.act.Object.TheVariants as object
use Rattle.writelock.specs.Holding.{given}

module _ (edition : Edition) (owner : UserId) (P : UserId → Type 0) (base : History) where
  abbrev pub writes : History → UserId → ℕ → Bool
  writes h u w = may edition owner h u Write (object.Window w)

  -- the user to whom an act gives a lock, and why
  pub record GivenTo (h : History) (a : Act) (w : ℕ) (u : UserId) : Type 0 where
    pub own : P u
    pub had : (opens_window w a ≡ true) ⊎ (writes base u w ≡ true)
    pub has_it : writes (a ∷ h) u w ≡ true

  abbrev pub Gives : History → Act → Type 0
  Gives h a = (w : ℕ) (u : UserId) (held : Option UserId) → given edition owner a h w held ≡ Some u → GivenTo h a w u

  abbrev pub GivesAll : History → List Act → Type 0
  GivesAll h [] = Unit {0}
  GivesAll h (a ∷ acts) = Gives h a × GivesAll (a ∷ h) acts

  or_true : (a b : Bool) → (a || not b) ≡ false → b ≡ true
  or_true true b is = absurd (cc (is))
  or_true false true is = refl
  or_true false false is = absurd (cc (is))

  keeps : (r : Bool) (h : History) (a : Act) (w : ℕ) (u x : UserId) → releases edition owner a h u w ≡ r
      → (if r then None else Some u) ≡ Some x → (Some u ≡ Some x) × (writes (a ∷ h) x w ≡ true)
  keeps true h a w u x r is = absurd (cc (is))
  keeps false h a w u x r is = (
    is,
    let same : u ≡ x = cc (is) in subst (λ y. writes (a ∷ h) y w ≡ true) same
        (or_true (ends a h u w) (writes (a ∷ h) u w) r),
  )

  held_on : (h : History) (a : Act) (w : ℕ) (held : Option UserId) (x : UserId) → kept edition owner a h w held ≡ Some x
      → (held ≡ Some x) × (writes (a ∷ h) x w ≡ true)
  held_on h a w None x is = absurd (cc (is))
  held_on h a w (Some u) x is = keeps (releases edition owner a h u w) h a w u x refl is

  -- the holder of a lock after an act held it before, or is given it
  holds : (h : History) (a : Act) (w : ℕ) (held g : Option UserId) (x : UserId) → given edition owner a h w held ≡ g
      → Gives h a → or_else g (kept edition owner a h w held) ≡ Some x
      → ((held ≡ Some x) × (writes (a ∷ h) x w ≡ true)) ⊎ GivenTo h a w x
  holds h a w held None x at gives is = inl (held_on h a w held x is)
  holds h a w held (Some y) x at gives is = inr (gives w x held (at ∙ is))

  or_before : (b c : Bool) → b ≡ true → (b || c) ≡ true
  or_before true c is = refl
  or_before false c is = absurd (cc (is))

  or_after : (b c : Bool) → c ≡ true → (b || c) ≡ true
  or_after true c is = refl
  or_after false c is = is

  abbrev pub Taken : List Act → ℕ → UserId → Type 0
  Taken acts w x = P x × ((opened_by acts (object.Window w) ≡ true) ⊎ (writes base x w ≡ true))

  later : (a : Act) (acts : List Act) (w : ℕ) (x : UserId) → Taken acts w x → Taken (a ∷ acts) w x
  later a acts w x (p, inl opened) = (p, inl (or_after (opens_window w a) (list_any (opens_window w) acts) opened))
  later a acts w x (p, inr may) = (p, inr may)

  now : (h : History) (a : Act) (acts : List Act) (w : ℕ) (x : UserId) → GivenTo h a w x → Taken (a ∷ acts) w x
  now h a acts w x g = (
    g.own,
    ⊎_elim
        (λ (opened : opens_window w a ≡ true). inl
        (or_before (opens_window w a) (list_any (opens_window w) acts) opened))
        (λ (may : writes base x w ≡ true). inr may) g.had,
  )

  first : (h : History) (a : Act) (acts : List Act) (w : ℕ) (x : UserId) → Gives h a
      → (holder edition owner (a ∷ h) w ≡ Some x) ⊎ Taken acts w x
      → (holder edition owner h w ≡ Some x) ⊎ Taken (a ∷ acts) w x
  first h a acts w x gives (inr taken) = inr (later a acts w x taken)
  first h a acts w x gives (inl is) = on
      (holds h a w (holder edition owner h w) (given edition owner a h w (holder edition owner h w)) x refl gives is)
    where
      on : ((holder edition owner h w ≡ Some x) × (writes (a ∷ h) x w ≡ true)) ⊎ GivenTo h a w x
          → (holder edition owner h w ≡ Some x) ⊎ Taken (a ∷ acts) w x
      on (inl k) = inl k.0
      on (inr g) = inr (now h a acts w x g)

  -- the holder of a lock after acts held it before, or was given it
  pub taken : (h : History) (acts : List Act) → GivesAll h acts → (w : ℕ) (x : UserId)
      → holder edition owner (followed_by h acts) w ≡ Some x → (holder edition owner h w ≡ Some x) ⊎ Taken acts w x
  taken h [] all w x is = inl is
  taken h (a ∷ acts) all w x is = first h a acts w x all.0 (taken (a ∷ h) acts all.1 w x is)

  abbrev pub Able : History → Type 0
  Able h = (w : ℕ) (u : UserId) → holder edition owner h w ≡ Some u → writes h u w ≡ true

  -- holders still may write after an act
  able_one : (h : History) (a : Act) → Gives h a → Able (a ∷ h)
  able_one h a gives w x is = ⊎_elim (λ (k : (holder edition owner h w ≡ Some x) × (writes (a ∷ h) x w ≡ true)). k.1)
      (λ (g : GivenTo h a w x). g.has_it)
      (holds h a w (holder edition owner h w) (given edition owner a h w (holder edition owner h w)) x refl gives is)

  pub able : (h : History) (acts : List Act) → GivesAll h acts → Able h → Able (followed_by h acts)
  able h [] all before = before
  able h (a ∷ acts) all before = able (a ∷ h) acts all.1 (able_one h a all.0)

  -- ---- which acts give locks

  abbrev pub gives_lock : Act → Bool
  gives_lock (act.Opened by w) = true
  gives_lock (act.Entered user w) = true
  gives_lock (act.Mode by w mode) = true
  gives_lock _ = false

  -- an act of this user; if it sets a lock, the user has w there
  abbrev pub IsOwn : UserId → Act → Type 0
  IsOwn user (act.Mode by w mode) = (by ≡ user) × (is_off mode ≡ false → writes base by w ≡ true)
  IsOwn user (act.Entered v w) = v ≡ user
  IsOwn user (act.Closed w) = Unit {0}
  IsOwn user (act.Attached client v) = Unit {0}
  IsOwn user (act.Parted client) = Unit {0}
  IsOwn user (act.Left v w) = Unit {0}
  IsOwn user (act.Default mode) = Unit {0}
  IsOwn user _ = ⊥

  pub silent_one : (h : History) (a : Act) → gives_lock a ≡ false → Gives h a
  silent_one h (act.Opened by v) not w u held is = absurd (cc (not))
  silent_one h (act.Entered user v) not w u held is = absurd (cc (not))
  silent_one h (act.Mode by v mode) not w u held is = absurd (cc (not))
  silent_one h a not w u held is = absurd (cc (is))

  pub silent : (h : History) (acts : List Act) → AllByRecursion (λ a. gives_lock a ≡ false) acts → GivesAll h acts
  silent h [] all = tt
  silent h (a ∷ acts) all = (silent_one h a all.0, silent (a ∷ h) acts all.1)

  -- rights to write are those of the base history
  abbrev pub Based : History → Type 0
  Based h = (u : UserId) (w : ℕ) → writes h u w ≡ writes base u w

  decides : {X : Type 0} (b : Bool) (x y : X) → decided b x ≡ Some y → (b ≡ true) × (x ≡ y)
  decides true x y is = (refl, cc (is))
  decides false x y is = absurd (cc (is))

  not_true : (b : Bool) → not b ≡ true → b ≡ false
  not_true true is = absurd (cc (is))
  not_true false is = refl

  own_one : (user : UserId) → P user → (h : History) (a : Act) → Based h → IsOwn user a → Gives h a
  own_one user p h (act.Mode by v mode) based is w u held at =
      let d : ((v == w && not (is_off mode)) ≡ true) × (by ≡ u) = decides (v == w && not (is_off mode)) by u at in
      let here : v ≡ w = equal v w (and_first (v == w) (not (is_off mode)) d.0) in
      let may : writes base u w ≡ true = subst (λ y. writes base y w ≡ true) d.1
      (subst (λ n. writes base by n ≡ true) here
      (is.1 (not_true (is_off mode) (and_second (v == w) (not (is_off mode)) d.0)))) in record {
        own = subst P (sym is.0 ∙ d.1) p;
        had = inr may;
        has_it = based u w ∙ may;
      }
  own_one user p h (act.Entered y v) based is w u held at =
      let d : ((v == w && is_auto (mode_of h w) && is_none held && writes h y w) ≡ true)
      × (y ≡ u) = decides (v == w && is_auto (mode_of h w) && is_none held && writes h y w) y u at in
      let may : writes h u w ≡ true = subst (λ x. writes h x w ≡ true) d.1
      (last (v == w) (is_auto (mode_of h w)) (is_none held) (writes h y w) d.0) in record {
        own = subst P (sym is ∙ d.1) p;
        had = inr (sym (based u w) ∙ may);
        has_it = may;
      } where
        last : (a b c x : Bool) → (a && b && c && x) ≡ true → x ≡ true
        last true true true x is = is
        last true true false x is = absurd (cc (is))
        last true false c x is = absurd (cc (is))
        last false b c x is = absurd (cc (is))
  own_one user p h (act.Closed v) based is w u held at = absurd (cc (at))
  own_one user p h (act.Attached client v) based is w u held at = absurd (cc (at))
  own_one user p h (act.Parted client) based is w u held at = absurd (cc (at))
  own_one user p h (act.Left y v) based is w u held at = absurd (cc (at))
  own_one user p h (act.Default mode) based is w u held at = absurd (cc (at))
  own_one user p h a based is w u held at = absurd is

  still_based : (user : UserId) (h : History) (a : Act) → Based h → IsOwn user a → Based (a ∷ h)
  still_based user h (act.Mode by v mode) based is = based
  still_based user h (act.Entered y v) based is = based
  still_based user h (act.Closed v) based is = based
  still_based user h (act.Attached client v) based is = based
  still_based user h (act.Parted client) based is = based
  still_based user h (act.Left y v) based is = based
  still_based user h (act.Default mode) based is = based
  still_based user h a based is = absurd is

  pub own : (user : UserId) → P user → (h : History) (acts : List Act) → Based h → AllByRecursion (IsOwn user) acts
      → GivesAll h acts
  own user p h [] based all = tt
  own user p h (a ∷ acts) based all =
      (own_one user p h a based all.0, own user p (a ∷ h) acts (still_based user h a based all.0) all.1)

  -- a user who opens a window has every right there
  pub opening : (user : UserId) → P user → (h : History) (n : ℕ) → Gives h (act.Opened user n)
  opening user p h n = gives where
    opener : (v w : ℕ) (u : UserId) → (v == w) ≡ true → user ≡ u
        → has owner (act.Opened user v ∷ h) u Write (object.Window w) ≡ true
    opener v w u here same =
        ap (λ (b : Bool). Rattle.std.specs.Prelude.unwrap_or
        (if b then Rattle.acl.specs.History.opening owner h user u Write else None)
        (has owner h u Write (object.Window w))) here
        ∙ ap (λ (b : Bool). Rattle.std.specs.Prelude.unwrap_or
        (if b then Some true else decided (Rattle.acl.specs.History.is_known owner h u)
        (Rattle.acl.specs.History.mask h user u Write)) (has owner h u Write (object.Window w)))
        (ap (λ x. same_user user x) (sym same) ∙ Rattle.acl.proofs.StandsForLemmas.same_user-refl user)

    or_middle : (a b c : Bool) → b ≡ true → (a || b || c) ≡ true
    or_middle true b c is = refl
    or_middle false true c is = refl
    or_middle false false c is = absurd (cc (is))

    gives : Gives h (act.Opened user n)
    gives w u held at =
        let d : ((n == w && is_on (default_of h)) ≡ true)
        × (user ≡ u) = decides (n == w && is_on (default_of h)) user u at in
        let here : (n == w) ≡ true = and_first (n == w) (is_on (default_of h)) d.0 in record {
          own = subst P d.1 p;
          had = inl here;
          has_it = or_middle (same_user owner u) (has owner (act.Opened user n ∷ h) u Write (object.Window w)) _
              (opener n w u here d.1);
        }
