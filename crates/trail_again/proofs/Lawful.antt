-- What users and leaders are like after acts each of which may come after those before it.
use Rattle.trail_again.proofs.Vocabulary.{◌≡◌, ◌∙◌, ◌+◌, ◌<◌, ◌≤◌, Bool, true, false, not, List, [], ◌∷◌, ◌++◌, refl}
use Rattle.trail_again.proofs.Vocabulary.{ap, sym, subst, ◌||◌, ◌&&◌, if◌then◌else◌, Option, Some, None, length, filter}
use Rattle.trail_again.proofs.Vocabulary.{arith, cond, length-append, append_assoc, AllByRecursion, append-nil, Edition}
use Rattle.trail_again.proofs.Vocabulary.{First, Second, UserId, USERS, History, among, leaders_of, leaders_with}
use Rattle.trail_again.proofs.Vocabulary.{users_of, without_user, same_user, same_user-sym, same_user-true}
use Rattle.std.proofs.lemmas.List.Folds.{list_any-append}
use Rattle.acl.specs.declared.act.Act.TheVariants as act
use Rattle.trail_again.proofs.Setting.{Distinct}

-- ---- lists of users

or_false : (a : Bool) → (a || false) ≡ a
or_false true = refl
or_false false = refl

pub among_more : (xs : List UserId) (v u : UserId) → among (xs ++ v ∷ []) u ≡ (among xs u || same_user u v)
among_more xs v u = list_any-append (same_user u) xs (v ∷ [])
    ∙ ap (λ c. among xs u || c) (or_false (same_user u v))

pub distinct_more : (xs : List UserId) (v : UserId) → Distinct xs → among xs v ≡ false → Distinct (xs ++ v ∷ [])
distinct_more [] v d new = (refl, tt)
distinct_more (x ∷ xs) v d new = at (same_user v x) refl new (λ f. distinct_more xs v d.1 f)
  where
    at : (a : Bool) → same_user v x ≡ a → (a || among xs v) ≡ false
        → (among xs v ≡ false → Distinct (xs ++ v ∷ [])) → Distinct ((x ∷ xs) ++ v ∷ [])
    at true e f later = absurd (cc (f))
    at false e f later = (among_more xs v x ∙ ap (λ c. c || same_user x v) d.0 ∙ same_user-sym x v ∙ e, later f)

-- others than the user who is left out stay
pub among_without : (v u : UserId) (xs : List UserId) → same_user v u ≡ false
    → among (without_user v xs) u ≡ among xs u
among_without v u [] apart = refl
among_without v u (x ∷ xs) apart = at (same_user v x) refl (among_without v u xs apart)
  where
    at : (b : Bool) → same_user v x ≡ b → among (without_user v xs) u ≡ among xs u
        → among (if b then xs else x ∷ without_user v xs) u ≡ (same_user u x || among xs u)
    at true e later = sym (ap (λ c. c || among xs u)
        (same_user-sym u x ∙ ap (λ (y : UserId). same_user y u) (sym (same_user-true v x e)) ∙ apart))
    at false e later = ap (λ c. same_user u x || c) later

-- who isn't there isn't there without one
pub without_new : (v u : UserId) (xs : List UserId) → among xs u ≡ false → among (without_user v xs) u ≡ false
without_new v u [] new = refl
without_new v u (x ∷ xs) new = at (same_user v x) (same_user u x) refl new (λ f. without_new v u xs f)
  where
    at : (b c : Bool) → same_user u x ≡ c → (c || among xs u) ≡ false
        → (among xs u ≡ false → among (without_user v xs) u ≡ false)
        → among (if b then xs else x ∷ without_user v xs) u ≡ false
    at b true e f later = absurd (cc (f))
    at true false e f later = f
    at false false e f later = ap (λ c. c || among (without_user v xs) u) e ∙ later f

pub distinct_without : (v : UserId) (xs : List UserId) → Distinct xs → Distinct (without_user v xs)
distinct_without v [] d = tt
distinct_without v (x ∷ xs) d = at (same_user v x) (distinct_without v xs d.1)
  where
    at : (b : Bool) → Distinct (without_user v xs) → Distinct (if b then xs else x ∷ without_user v xs)
    at true later = d.1
    at false later = (without_new v x xs d.0, later)

pub fewer_without : (v : UserId) (xs : List UserId) → length (without_user v xs) ≤ length xs
fewer_without v [] = omega arith
fewer_without v (x ∷ xs) = at (same_user v x) (fewer_without v xs)
  where
    at : (b : Bool) → length (without_user v xs) ≤ length xs
        → length (if b then xs else x ∷ without_user v xs) ≤ length (x ∷ xs)
    at true later = omega arith
    at false later = omega (arith, later)

module _ (p : UserId → Bool) where
  pub filtered_new : (u : UserId) (xs : List UserId) → among xs u ≡ false → among (filter p xs) u ≡ false
  filtered_new u [] new = refl
  filtered_new u (x ∷ xs) new = at (p x) (same_user u x) refl new (λ f. filtered_new u xs f)
    where
      at : (b c : Bool) → same_user u x ≡ c → (c || among xs u) ≡ false
          → (among xs u ≡ false → among (filter p xs) u ≡ false)
          → among (cond b (x ∷ filter p xs) (filter p xs)) u ≡ false
      at b true e f later = absurd (cc (f))
      at true false e f later = ap (λ c. c || among (filter p xs) u) e ∙ later f
      at false false e f later = later f

  pub distinct_filtered : (xs : List UserId) → Distinct xs → Distinct (filter p xs)
  distinct_filtered [] d = tt
  distinct_filtered (x ∷ xs) d = at (p x) (distinct_filtered xs d.1)
    where
      at : (b : Bool) → Distinct (filter p xs) → Distinct (cond b (x ∷ filter p xs) (filter p xs))
      at true later = (filtered_new x xs d.0, later)
      at false later = later

  pub fewer_filtered : (xs : List UserId) → length (filter p xs) ≤ length xs
  fewer_filtered [] = omega arith
  fewer_filtered (x ∷ xs) = at (p x) (fewer_filtered xs)
    where
      at : (b : Bool) → length (filter p xs) ≤ length xs
          → length (cond b (x ∷ filter p xs) (filter p xs)) ≤ length (x ∷ xs)
      at true later = omega (arith, later)
      at false later = omega (arith, later)

  pub all_filtered : (P Q : UserId → Type 0) (xs : List UserId) → ((x : UserId) → p x ≡ true → P x → Q x)
      → AllByRecursion P xs → AllByRecursion Q (filter p xs)
  all_filtered P Q [] step all = tt
  all_filtered P Q (x ∷ xs) step all = at (p x) refl (all_filtered P Q xs step all.1)
    where
      at : (b : Bool) → p x ≡ b → AllByRecursion Q (filter p xs)
          → AllByRecursion Q (cond b (x ∷ filter p xs) (filter p xs))
      at true e later = (step x e all.0, later)
      at false e later = later

-- ---- leaders

-- a known user, not the one who follows
abbrev pub Leads : List UserId → UserId → UserId → Type 0
Leads others u leader = (among others leader ≡ true) × (same_user u leader ≡ false)

-- a list of leaders that the edition can have
abbrev pub Fits : Edition → List UserId → Type 0
Fits First leaders = length leaders ≤ 1
Fits Second leaders = Distinct leaders

pub record AreLeaders (edition : Edition) (others : List UserId) (u : UserId) (leaders : List UserId) : Type 0 where
  pub lead : AllByRecursion (Leads others u) leaders
  pub fit : Fits edition leaders
  pub few : length leaders ≤ 8
  pub none : among others u ≡ false → leaders ≡ []

-- the owner and others are known, each once; there are at most as many as a session may have
pub record IsLawful (edition : Edition) (owner : UserId) (h : History) (others : List UserId) : Type 0 where
  pub users : users_of owner h ≡ owner ∷ others
  pub apart : Distinct (owner ∷ others)
  pub few : length (owner ∷ others) ≤ USERS
  pub led : (u : UserId) → AreLeaders edition others u (leaders_of edition h u)

-- whom the others don't have isn't the owner
pub not_owner : (owner : UserId) (others : List UserId) (u : UserId) → Distinct (owner ∷ others)
    → among others u ≡ true → same_user owner u ≡ false
not_owner owner others u d is = at (same_user owner u) refl
  where
    at : (b : Bool) → same_user owner u ≡ b → b ≡ false
    at true e = absurd (let wrong : true ≡ false = sym is ∙ ap (among others) (sym (same_user-true owner u e)) ∙ d.0 in
        cc)
    at false e = refl

-- ---- acts

abbrev pub Good : Edition → UserId → History → Type 0
Good edition owner h = (others : List UserId) × IsLawful edition owner h others

both : (a b : Bool) → (a && b) ≡ true → (a ≡ true) × (b ≡ true)
both true b e = (refl, e)
both false b e = absurd (cc (e))

is_off : (b : Bool) → not b ≡ true → b ≡ false
is_off true e = absurd (cc (e))
is_off false e = refl

all_weaker : (P Q : UserId → Type 0) (xs : List UserId) → ((x : UserId) → P x → Q x) → AllByRecursion P xs
    → AllByRecursion Q xs
all_weaker P Q [] step all = tt
all_weaker P Q (x ∷ xs) step all = (step x all.0, all_weaker P Q xs step all.1)

all_more : (P : UserId → Type 0) (xs : List UserId) (x : UserId) → AllByRecursion P xs → P x
    → AllByRecursion P (xs ++ x ∷ [])
all_more P [] x all last = (last, tt)
all_more P (y ∷ xs) x all last = (all.0, all_more P xs x all.1 last)

-- ---- one more leader

abbrev pub LeaderFits : List UserId → UserId → Option UserId → Type 0
LeaderFits others v None = Unit {0}
LeaderFits others v (Some leader) = Leads others v leader

pub fits_with : (e : Edition) (leader : Option UserId) (ls : List UserId) → Fits e ls
    → Fits e (leaders_with e leader ls)
fits_with First None ls fit = omega arith
fits_with First (Some leader) ls fit = omega arith
fits_with Second None ls fit = tt
fits_with Second (Some leader) ls fit = at (among ls leader) refl
  where
    at : (b : Bool) → among ls leader ≡ b → Distinct (if b then ls else ls ++ leader ∷ [])
    at true e = fit
    at false e = distinct_more ls leader fit e

abbrev IfAny : (UserId → Type 0) → Option UserId → Type 0
IfAny P None = Unit {0}
IfAny P (Some leader) = P leader

leads_of : (others : List UserId) (v : UserId) (leader : Option UserId) → LeaderFits others v leader
    → IfAny (Leads others v) leader
leads_of others v None ok = tt
leads_of others v (Some leader) ok = ok

lead_with : (e : Edition) (P : UserId → Type 0) (leader : Option UserId) (ls : List UserId) → AllByRecursion P ls
    → IfAny P leader → AllByRecursion P (leaders_with e leader ls)
lead_with First P None ls all is = tt
lead_with First P (Some leader) ls all is = (is, tt)
lead_with Second P None ls all is = tt
lead_with Second P (Some leader) ls all is = at (among ls leader)
  where
    at : (b : Bool) → AllByRecursion P (if b then ls else ls ++ leader ∷ [])
    at true = all
    at false = all_more P ls leader all is

-- ---- leaders who are given one after another

abbrev pub given_leaders : Edition → List UserId → List UserId → List UserId
given_leaders edition before [] = before
given_leaders edition before (l ∷ ls) = given_leaders edition (leaders_with edition (Some l) before) ls

pub others_of : (ls : List UserId) (l : UserId) → among ls l ≡ false → AllByRecursion (λ m. same_user m l ≡ false) ls
others_of [] l new = tt
others_of (m ∷ ls) l new = at (same_user l m) refl new (λ f. others_of ls l f)
  where
    at : (b : Bool) → same_user l m ≡ b → (b || among ls l) ≡ false
        → (among ls l ≡ false → AllByRecursion (λ m. same_user m l ≡ false) ls)
        → AllByRecursion (λ m. same_user m l ≡ false) (m ∷ ls)
    at true e f later = absurd (cc (f))
    at false e f later = (same_user-sym m l ∙ e, later f)

still_new : (before ls : List UserId) (l : UserId) → AllByRecursion (λ m. among before m ≡ false) ls
    → AllByRecursion (λ m. same_user m l ≡ false) ls → AllByRecursion (λ m. among (before ++ l ∷ []) m ≡ false) ls
still_new before [] l new apart = tt
still_new before (m ∷ ls) l new apart =
    (among_more before l m ∙ ap (λ b. b || same_user m l) new.0 ∙ apart.0, still_new before ls l new.1 apart.1)

rebuilt_more : (before ls : List UserId) → Distinct ls → AllByRecursion (λ m. among before m ≡ false) ls
    → given_leaders Second before ls ≡ before ++ ls
rebuilt_more before [] d new = sym (append-nil before)
rebuilt_more before (l ∷ ls) d new =
    ap (λ b. given_leaders Second (if b then before else before ++ l ∷ []) ls) new.0
    ∙ rebuilt_more (before ++ l ∷ []) ls d.1 (still_new before ls l new.1 (others_of ls l d.0))
    ∙ append_assoc before (l ∷ []) ls

all_new : (ls : List UserId) → AllByRecursion (λ m. among [] m ≡ false) ls
all_new [] = tt
all_new (l ∷ ls) = (refl, all_new ls)

-- leaders that an edition can have come back
pub rebuilt : (e : Edition) (ls : List UserId) → Fits e ls → given_leaders e [] ls ≡ ls
rebuilt First [] fit = refl
rebuilt First (l ∷ []) fit = refl
rebuilt First (l ∷ m ∷ ls) fit = absurd (omega (arith, fit))
rebuilt Second ls fit = rebuilt_more [] ls fit (all_new ls)

-- there is room for one leader more
pub room_with : (e : Edition) (l : UserId) (before : List UserId)
    → length (leaders_with e (Some l) before) ≤ length before + 1
room_with First l before = omega arith
room_with Second l before = at (among before l)
  where
    at : (b : Bool) → length (if b then before else before ++ l ∷ []) ≤ length before + 1
    at true = omega arith
    at false =
        let more : length (before ++ l ∷ []) ≡ length before + length (l ∷ []) = length-append before (l ∷ []) in
        omega (arith, more)

-- ---- one more user

module _ (edition : Edition) (owner : UserId) (h : History) (others : List UserId)
    (l : IsLawful edition owner h others) (v : UserId) where
  or_true : (a b : Bool) → a ≡ true → (a || b) ≡ true
  or_true a b e = ap (λ c. c || b) e

  more_leaders : (u : UserId) (ls : List UserId) → AreLeaders edition others u ls
      → AreLeaders edition (others ++ v ∷ []) u ls
  more_leaders u ls a = record {
    lead = all_weaker (Leads others u) (Leads (others ++ v ∷ []) u) ls
        (λ x is. (among_more others v x ∙ or_true (among others x) (same_user x v) is.0, is.1)) a.lead;
    fit = a.fit;
    few = a.few;
    none = λ new. a.none (first (among others u) (same_user u v) (sym (among_more others v u) ∙ new));
  }
    where
      first : (a b : Bool) → (a || b) ≡ false → a ≡ false
      first true b e = e
      first false b e = refl

  pub one_more : among (users_of owner h) v ≡ false → length (users_of owner h) < USERS
      → Good edition owner (act.Known v ∷ h)
  one_more new room = (
    others ++ v ∷ [],
    record {
      users = ap (λ (us : List UserId). us ++ v ∷ []) l.users;
      apart = distinct_more (owner ∷ others) v l.apart
          (ap (λ (us : List UserId). among us v) (sym l.users) ∙ new);
      few =
          let same : length (users_of owner h) ≡ length (owner ∷ others) = ap length l.users in
          let more : length ((owner ∷ others) ++ v ∷ []) ≡ length (owner ∷ others) + length (v ∷ []) =
          length-append (owner ∷ others) (v ∷ []) in
          omega (arith, room, same, more);
      led = λ u. more_leaders u (leaders_of edition h u) (l.led u);
    },
  )

  -- ---- one user less

  module _ (apart : same_user owner v ≡ false) where
    fits_less : (e : Edition) (p : UserId → Bool) (ls : List UserId) → Fits e ls → Fits e (filter p ls)
    fits_less First p ls fit = omega (arith, fit, fewer_filtered p ls)
    fits_less Second p ls fit = distinct_filtered p ls fit

    less_leaders : (u : UserId) (ls : List UserId) → same_user v u ≡ false → AreLeaders edition others u ls
        → AreLeaders edition (without_user v others) u (filter (λ leader. not (same_user v leader)) ls)
    less_leaders u ls other a = record {
      lead = all_filtered (λ leader. not (same_user v leader)) (Leads others u) (Leads (without_user v others) u) ls
          (λ x e is. (among_without v x others (is_off (same_user v x) e) ∙ is.0, is.1)) a.lead;
      fit = fits_less edition (λ leader. not (same_user v leader)) ls a.fit;
      few = omega (arith, a.few, fewer_filtered (λ leader. not (same_user v leader)) ls);
      none = λ new. ap (filter (λ leader. not (same_user v leader)))
          (a.none (sym (among_without v u others other) ∙ new));
    }

    fits_none : (e : Edition) → Fits e []
    fits_none First = omega arith
    fits_none Second = tt

    pub one_less : Good edition owner (act.Gone v ∷ h)
    one_less = (
      without_user v others,
      record {
        users = ap (without_user v) l.users
            ∙ ap (λ b. if b then others else owner ∷ without_user v others) (same_user-sym v owner ∙ apart);
        apart = (without_new v owner others l.apart.0, distinct_without v others l.apart.1);
        few = omega (arith, l.few, fewer_without v others);
        led = λ u. at u (same_user v u) refl;
      },
    )
      where
        at : (u : UserId) (b : Bool) → same_user v u ≡ b
            → AreLeaders edition (without_user v others) u
            (if b then [] else filter (λ leader. not (same_user v leader)) (leaders_of edition h u))
        at u true e = record { lead = tt; fit = fits_none edition; few = omega arith; none = λ new. refl }
        at u false e = less_leaders u (leaders_of edition h u) e (l.led u)

  -- ---- a user is given a leader, or none

  module _ (known : among others v ≡ true) where
    pub one_grouped : (leader : Option UserId) → LeaderFits others v leader
        → length (leaders_with edition leader (leaders_of edition h v)) ≤ 8
        → Good edition owner (act.Grouped v leader ∷ h)
    one_grouped leader ok few =
        (others, record { users = l.users; apart = l.apart; few = l.few; led = λ u. at u (same_user v u) refl })
      where
        new : AreLeaders edition others v (leaders_with edition leader (leaders_of edition h v))
        new = record {
          lead = lead_with edition (Leads others v) leader (leaders_of edition h v) (l.led v).lead
              (leads_of others v leader ok);
          fit = fits_with edition leader (leaders_of edition h v) (l.led v).fit;
          few = few;
          none = λ unknown. absurd (let wrong : true ≡ false = sym known ∙ unknown in cc);
        }

        at : (u : UserId) (b : Bool) → same_user v u ≡ b
            → AreLeaders edition others u
            (if b then leaders_with edition leader (leaders_of edition h u) else leaders_of edition h u)
        at u true e = subst
            (λ (x : UserId). AreLeaders edition others x (leaders_with edition leader (leaders_of edition h x)))
            (same_user-true v u e) new
        at u false e = l.led u
