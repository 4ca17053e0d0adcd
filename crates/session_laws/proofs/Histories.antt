-- Acts that aren't list acts leave all rights unchanged, except on windows that they open.
use Rattle.session_laws.proofs.Vocabulary.{◌≡◌, ℕ, Bool, true, false, List, [], ◌∷◌, Option, None, refl, ap, ◌∙◌}
use Rattle.session_laws.proofs.Vocabulary.{if◌then◌else◌, ◌==◌, ◌||◌, unwrap_or, AllByRecursion, list_any, Edition}
use Rattle.session_laws.proofs.Vocabulary.{UserId, Bit, Act, Object, PresetKind, same_user, History, followed_by}
use Rattle.session_laws.proofs.Vocabulary.{users_of, leaders_of, mask, preset_of, has, may, opening, Tables}
use Rattle.session_laws.proofs.Vocabulary.{opens_window, opened_by, SameRights}
use Rattle.acl.specs.declared.act.Act.TheVariants as act
use Rattle.acl.specs.declared.act.Object.TheVariants as object
use Rattle.acl.specs.History.{is_known}
use Rattle.session_laws.proofs.Listing.{is_listing}

abbrev pub NoListing : List Act → Type 0
NoListing acts = AllByRecursion (λ a. is_listing a ≡ false) acts

-- two histories agree on everyone's rights, except on windows that these acts open
record Alike (edition : Edition) (owner : UserId) (h k : History) (acts : List Act) : Type 0 where
  users : users_of owner k ≡ users_of owner h
  known : (u : UserId) → is_known owner k u ≡ is_known owner h u
  leaders : (u : UserId) → leaders_of edition k u ≡ leaders_of edition h u
  masks : (by u : UserId) (bit : Bit) → mask k by u bit ≡ mask h by u bit
  presets : (kind : PresetKind) (bit : Bit) → preset_of k kind bit ≡ preset_of h kind bit
  rights : (u : UserId) (bit : Bit) (o : Object) → opened_by acts o ≡ false → has owner k u bit o ≡ has owner h u bit o

nothing_decided : {X : Type 0} (b : Bool) (d : Option X) (x : X) → (b || false) ≡ false
    → unwrap_or (if b then d else None) x ≡ x
nothing_decided true d x is = absurd (cc (is))
nothing_decided false d x is = refl

elsewhere : (owner : UserId) (h : History) (by : UserId) (w : ℕ) (u : UserId) (bit : Bit) (o : Object)
    → opened_by (act.Opened by w ∷ []) o ≡ false
    → has owner (act.Opened by w ∷ h) u bit o ≡ has owner h u bit o
elsewhere owner h by w u bit (object.Window v) not = nothing_decided (w == v) (opening owner h by u bit)
    (has owner h u bit (object.Window v)) not
elsewhere owner h by w u bit (object.Command c) not = refl

one : (edition : Edition) (owner : UserId) (h : History) (a : Act) → is_listing a ≡ false
    → Alike edition owner h (a ∷ h) (a ∷ [])
one edition owner h (act.Known u) is = absurd (cc (is))
one edition owner h (act.Gone u) is = absurd (cc (is))
one edition owner h (act.Set u bit o value) is = absurd (cc (is))
one edition owner h (act.Grouped u leader) is = absurd (cc (is))
one edition owner h (act.Masked by u bit value) is = absurd (cc (is))
one edition owner h (act.Preset kind bit value) is = absurd (cc (is))
one edition owner h (act.Opened by w) is = record {
  users = refl;
  known = λ u. refl;
  leaders = λ u. refl;
  masks = λ by u bit. refl;
  presets = λ kind bit. refl;
  rights = elsewhere owner h by w;
}
one edition owner h a is = record {
  users = refl;
  known = λ u. refl;
  leaders = λ u. refl;
  masks = λ by u bit. refl;
  presets = λ kind bit. refl;
  rights = λ u bit o not. refl;
}

or_none : (a b : Bool) → (a || b) ≡ false → (a || false) ≡ false
or_none true b is = is
or_none false b is = refl

or_later : (a b : Bool) → (a || b) ≡ false → b ≡ false
or_later true b is = absurd (cc (is))
or_later false b is = is

opened_first : (a : Act) (acts : List Act) (o : Object) → opened_by (a ∷ acts) o ≡ false → opened_by (a ∷ []) o ≡ false
opened_first a acts (object.Window w) is = or_none (opens_window w a) (list_any (opens_window w) acts) is
opened_first a acts (object.Command c) is = refl

opened_later : (a : Act) (acts : List Act) (o : Object) → opened_by (a ∷ acts) o ≡ false → opened_by acts o ≡ false
opened_later a acts (object.Window w) is = or_later (opens_window w a) (list_any (opens_window w) acts) is
opened_later a acts (object.Command c) is = refl

alike : (edition : Edition) (owner : UserId) (h : History) (acts : List Act) → NoListing acts
    → Alike edition owner h (followed_by h acts) acts
alike edition owner h [] none = record {
  users = refl;
  known = λ u. refl;
  leaders = λ u. refl;
  masks = λ by u bit. refl;
  presets = λ kind bit. refl;
  rights = λ u bit o not. refl;
}
alike edition owner h (a ∷ acts) none =
    let first : Alike edition owner h (a ∷ h) (a ∷ []) = one edition owner h a none.0 in
    let rest : Alike edition owner (a ∷ h) (followed_by (a ∷ h) acts) acts = alike edition owner (a ∷ h) acts none.1 in
    record {
      users = rest.users ∙ first.users;
      known = λ u. rest.known u ∙ first.known u;
      leaders = λ u. rest.leaders u ∙ first.leaders u;
      masks = λ by u bit. rest.masks by u bit ∙ first.masks by u bit;
      presets = λ kind bit. rest.presets kind bit ∙ first.presets kind bit;
      rights = λ u bit o not. rest.rights u bit o (opened_later a acts o not)
          ∙ first.rights u bit o (opened_first a acts o not);
    }

pub same_has : (edition : Edition) (owner : UserId) (h : History) (acts : List Act) → NoListing acts
    → (u : UserId) (bit : Bit) (o : Object) → opened_by acts o ≡ false
    → has owner (followed_by h acts) u bit o ≡ has owner h u bit o
same_has edition owner h acts none = (alike edition owner h acts none).rights

any_same : {A : Type 0} (p q : A → Bool) (xs : List A) → ((x : A) → p x ≡ q x) → list_any p xs ≡ list_any q xs
any_same p q [] same = refl
any_same p q (x ∷ xs) same = ap (λ b. b || list_any p xs) (same x) ∙ ap (λ b. q x || b) (any_same p q xs same)

may_same : (edition : Edition) (owner : UserId) (h k : History) (acts : List Act) → Alike edition owner h k acts
    → (u : UserId) (bit : Bit) (o : Object) → opened_by acts o ≡ false
    → may edition owner k u bit o ≡ may edition owner h u bit o
may_same edition owner h k acts a u bit o not =
    ap (λ b. (same_user owner u || b) || list_any (λ l. has owner k l bit o) (leaders_of edition k u))
    (a.rights u bit o not)
    ∙ ap (λ ls. (same_user owner u || has owner h u bit o) || list_any (λ l. has owner k l bit o) ls) (a.leaders u)
    ∙ ap (λ b. (same_user owner u || has owner h u bit o) || b)
    (any_same (λ l. has owner k l bit o) (λ l. has owner h l bit o) (leaders_of edition h u)
    (λ l. a.rights l bit o not))

pub same_may : (edition : Edition) (owner : UserId) (h : History) (acts : List Act) → NoListing acts
    → (u : UserId) (bit : Bit) (o : Object) → opened_by acts o ≡ false
    → may edition owner (followed_by h acts) u bit o ≡ may edition owner h u bit o
same_may edition owner h acts none = may_same edition owner h (followed_by h acts) acts
    (alike edition owner h acts none)

-- tables whose acts are followed by acts that aren't list acts have the same rights
pub same_rights : (t u : Tables) (acts : List Act) → u.owner ≡ t.owner → u.edition ≡ t.edition
    → u.acts ≡ followed_by t.acts acts → NoListing acts → SameRights t u acts
same_rights t u acts owner edition acts_are none =
    let a : Alike t.edition t.owner t.acts (followed_by t.acts acts) acts = alike t.edition t.owner t.acts acts none in
    record {
      lists = record {
        users = ap (λ (o : UserId). users_of o u.acts) owner ∙ ap (users_of t.owner) acts_are ∙ a.users;
        known = λ v. ap (λ (o : UserId). is_known o u.acts v) owner ∙ ap (λ h. is_known t.owner h v) acts_are
            ∙ a.known v;
        leaders = λ v. ap (λ (x : Edition). leaders_of x u.acts v) edition ∙ ap (λ h. leaders_of t.edition h v) acts_are
            ∙ a.leaders v;
        masks = λ by v bit. ap (λ h. mask h by v bit) acts_are ∙ a.masks by v bit;
        presets = λ kind bit. ap (λ h. preset_of h kind bit) acts_are ∙ a.presets kind bit;
      };
      rights = λ v bit o not.
          ap (λ (x : Edition). may x u.owner u.acts v bit o) edition
          ∙ ap (λ (x : UserId). may t.edition x u.acts v bit o) owner
          ∙ ap (λ h. may t.edition t.owner h v bit o) acts_are
          ∙ may_same t.edition t.owner t.acts (followed_by t.acts acts) acts a v bit o not;
    }
