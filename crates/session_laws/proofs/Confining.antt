-- A user who is shut out of a bit by the masks of all openers doesn't get it on windows that open
-- later.
use Rattle.session_laws.proofs.Vocabulary.{◌≡◌, ℕ, ◌+◌, Bool, true, false, not, List, [], ◌∷◌, refl, ap, sym, ◌∙◌}
use Rattle.session_laws.proofs.Vocabulary.{subst, inl, inr, arith, ◌||◌, ◌&&◌, nat_lt, AllByRecursion, list_any}
use Rattle.session_laws.proofs.Vocabulary.{nat_tests, Edition, UserId, Bit, Execute, Act, Object, same_user, History}
use Rattle.session_laws.proofs.Vocabulary.{has, may, mask, leaders_of, same_user-true, commands_of, may_in, has_in}
use Rattle.session_laws.proofs.Vocabulary.{IsRunFrom, after, tables_from, Tables, is_known, Entry, not_so, contradicts}
use Rattle.session_laws.proofs.Vocabulary.{all_weaken, SameRights, RightsAreGated, AllSteps, AreGuests, may_open}
use Rattle.session_laws.proofs.Vocabulary.{circle, AreShutOut, GrantsAreTheirs, came, AreConfined}
use Rattle.acl.specs.declared.command_name.CommandName.TheVariants as name
use Rattle.acl.specs.declared.act.Object.TheVariants as object
use Rattle.session_laws.proofs.Gating.{Below, gated}
use Rattle.session_laws.proofs.Containing.{Grows, Remains, grows, stays, none_granted, not_opened, step_remains}
use Rattle.session_laws.proofs.Comings.{Opens, Comes, comes}

-- ---- a user who may not

none_of_three : (a b c : Bool) → a ≡ false → b ≡ false → c ≡ false → (a || b || c) ≡ false
none_of_three false false false p q r = refl
none_of_three true b c p q r = absurd (cc (p))
none_of_three false true c p q r = absurd (cc (q))
none_of_three false false true p q r = absurd (cc (r))

none_any : {A : Type 0} (p : A → Bool) (xs : List A) → AllByRecursion (λ x. p x ≡ false) xs → list_any p xs ≡ false
none_any p [] all = refl
none_any p (x ∷ xs) all = ap (λ b. b || list_any p xs) all.0 ∙ none_any p xs all.1

may_not : (edition : Edition) (owner : UserId) (h : History) (u : UserId) (bit : Bit) (o : Object)
    → same_user owner u ≡ false
    → AllByRecursion (λ v. has owner h v bit o ≡ false) (u ∷ leaders_of edition h u)
    → may edition owner h u bit o ≡ false
may_not edition owner h u bit o other all =
    none_of_three (same_user owner u) (has owner h u bit o)
    (list_any (λ l. has owner h l bit o) (leaders_of edition h u)) other all.0
    (none_any (λ l. has owner h l bit o) (leaders_of edition h u) all.1)

-- the owner opens windows
owner_opens : (a b c d : Bool) → ((a || b) && (a || c || d)) ≡ false → a ≡ false
owner_opens true b c d is = is
owner_opens false b c d is = refl

not_owner : (t : Tables) (u : UserId) → may_open t u ≡ false → same_user t.owner u ≡ false
not_owner t u not = owner_opens (same_user t.owner u) _ _ _ not

-- ---- a user who is shut out stays shut out

shut_still : (t u : Tables) (acts : List Act) (users : UserId → Bool) (bit : Bit) → SameRights t u acts
    → AreShutOut t users bit → AreShutOut u users bit
shut_still t u acts users bit same shut = record {
  known = λ user is. circled (λ v. is_known t v ≡ true) (λ v. is_known u v ≡ true) user
      (λ v known. same.lists.known v ∙ known) (shut.known user is);
  openers = λ user is. circled (λ v. may_open t v ≡ false) (λ v. may_open u v ≡ false) user
      (λ v not. opens_same v ∙ not) (shut.openers user is);
  masks = λ opener user may is. circled (λ v. mask t.acts opener v bit ≡ false) (λ v. mask u.acts opener v bit ≡ false)
      user (λ v off. same.lists.masks opener v bit ∙ off)
      (shut.masks opener user (sym (opens_same opener) ∙ may) is);
} where
  circled : (P Q : UserId → Type 0) (user : UserId) → ((v : UserId) → P v → Q v) → AllByRecursion P (circle t user)
      → AllByRecursion Q (circle u user)
  circled P Q user on all = subst (λ ls. AllByRecursion Q (user ∷ ls)) (sym (same.lists.leaders user))
      (all_weaken P Q (circle t user) on all)

  opens_same : (v : UserId) → may_open u v ≡ may_open t v
  opens_same v =
      ap (λ b. b && may_in u v Execute (object.Command name.Screen)) (same.lists.known v)
      ∙ ap (λ b. is_known t v && b) (same.rights v Execute (object.Command name.Screen) refl)

-- ---- a window that is opened

another : (t : Tables) (opener u : UserId) → may_open t opener ≡ true → may_open t u ≡ false
    → same_user opener u ≡ false
another t opener u may not = not_so (same_user opener u)
    (λ is. contradicts (may_open t opener) may (ap (may_open t) (same_user-true opener u is) ∙ not))

neither : (a b : Bool) → a ≡ false → b ≡ false → (a || b) ≡ false
neither false b p q = q
neither true b p q = absurd (cc (p))

nothing_given : (t : Tables) (e : Entry) (bit : Bit) (o : Opens t e) (us : List UserId)
    → AllByRecursion (λ u. is_known t u ≡ true) us → AllByRecursion (λ u. may_open t u ≡ false) us
    → AllByRecursion (λ u. mask t.acts o.opener u bit ≡ false) us
    → AllByRecursion (λ u. has_in (after t e) u bit (object.Window t.next_window) ≡ false) us
nothing_given t e bit o [] known none masked = tt
nothing_given t e bit o (u ∷ us) known none masked = (
  o.given u bit known.0
      ∙ neither (same_user o.opener u) (mask t.acts o.opener u bit) (another t o.opener u o.may none.0) masked.0,
  nothing_given t e bit o us known.1 none.1 masked.1,
)

new_window : (t : Tables) (e : Entry) (users : UserId → Bool) (bit : Bit) (user : UserId) → users user ≡ true
    → AreShutOut t users bit → AreShutOut (after t e) users bit → SameRights t (after t e) e.acts
    → Opens t e → may_in (after t e) user bit (object.Window t.next_window) ≡ false
new_window t e users bit user is shut later same o =
    let u : Tables = after t e in
    may_not u.edition u.owner u.acts user bit (object.Window t.next_window) (not_owner u user (later.openers user is).0)
    (subst (λ ls. AllByRecursion (λ v. has_in u v bit (object.Window t.next_window) ≡ false) (user ∷ ls))
    (sym (same.lists.leaders user))
    (nothing_given t e bit o (circle t user) (shut.known user is) (shut.openers user is)
    (shut.masks o.opener user o.may is)))

-- ---- each step

pub record Confines (start t : Tables) (users : UserId → Bool) (bit : Bit) : Type 0 where
  pub windows : (user : UserId) (w : ℕ) → users user ≡ true → came start t w ≡ true
      → may_in t user bit (object.Window w) ≡ false
  pub remains : Remains start t users
  pub shut : AreShutOut t users bit

not_both : {P : Type 0} (b : Bool) → (not b && b) ≡ true → P
not_both true is = absurd (cc (is))
not_both false is = absurd (cc (is))

came_before : (a b c : Bool) → (not a && c) ≡ true → b ≡ true → (not a && b) ≡ true
came_before false b c is at = at
came_before true b c is at = is

came_now : (a c : Bool) → (not a && c) ≡ true → c ≡ true
came_now false c is = is
came_now true c is = absurd (cc (is))

is_next : (w n m : ℕ) → nat_lt w n ≡ false → nat_lt w m ≡ true → m ≡ n + 1 → n ≡ w
is_next w n m not is more = grind (arith, nat_tests, not, is, more)

none_new : {P : Type 0} (w n m : ℕ) → nat_lt w n ≡ false → nat_lt w m ≡ true → m ≡ n → P
none_new w n m not is same = contradicts (nat_lt w n) (ap (λ k. nat_lt w k) (sym same) ∙ is) not

step_confines : (start t : Tables) (e : Entry) (users : UserId → Bool) (bit : Bit) → Grows t e.acts (after t e)
    → SameRights t (after t e) e.acts → Comes t e → Confines start t users bit → Confines start (after t e) users bit
step_confines start t e users bit g same c before = record {
  windows = λ user w is at. window user w is at (nat_lt w t.next_window) refl c;
  remains = step_remains start t e.acts (after t e) users g same before.remains;
  shut = later;
} where
  later : AreShutOut (after t e) users bit
  later = shut_still t (after t e) e.acts users bit same before.shut

  window : (user : UserId) (w : ℕ) → users user ≡ true → came start (after t e) w ≡ true → (b : Bool)
      → nat_lt w t.next_window ≡ b → Comes t e → may_in (after t e) user bit (object.Window w) ≡ false
  window user w is at true stood c =
      same.rights user bit (object.Window w) (not_opened t.next_window w e.acts g.opened stood)
      ∙ before.windows user w is
      (came_before (nat_lt w start.next_window) (nat_lt w t.next_window) (nat_lt w (after t e).next_window) at
      stood)
  window user w is at false new (inl next) = none_new w t.next_window (after t e).next_window new
      (came_now (nat_lt w start.next_window) (nat_lt w (after t e).next_window) at) next
  window user w is at false new (inr o) =
      subst (λ n. may_in (after t e) user bit (object.Window n) ≡ false)
      (is_next w t.next_window (after t e).next_window new
      (came_now (nat_lt w start.next_window) (nat_lt w (after t e).next_window) at) o.next)
      (new_window t e users bit user is before.shut later same o)

gated_confines : (start t : Tables) (e : Entry) (users : UserId → Bool) (bit : Bit) → Grows t e.acts (after t e)
    → RightsAreGated t e → Comes t e → GrantsAreTheirs users t e → Confines start t users bit
    → Confines start (after t e) users bit
gated_confines start t e users bit g (inl same) c theirs before = step_confines start t e users bit g same c before
gated_confines start t e users bit g (inr some) c theirs before = absurd
    (none_granted t users (commands_of t e.event) before.remains.contained.as_before theirs some)

-- ---- every run

confines : Below → (start : Tables) (later : List Entry) (users : UserId → Bool) (bit : Bit) → AreGuests start users
    → AreShutOut start users bit → IsRunFrom start later → AllSteps (GrantsAreTheirs users) start later
    → Confines start (tables_from start later) users bit
confines laws start [] users bit are shut run theirs = record {
  windows = λ user w is at. not_both (nat_lt w start.next_window) at;
  remains = stays laws start [] users are tt tt;
  shut = shut;
}
confines laws start (e ∷ past) users bit are shut run theirs =
    let t : Tables = tables_from start past in
    gated_confines start t e users bit (grows laws t e run.1) (gated laws t e run.1) (comes laws t e run.1) theirs.1
    (confines laws start past users bit are shut run.0 theirs.0)

pub confined : Below → (start : Tables) (later : List Entry) (users : UserId → Bool) (bit : Bit) → AreGuests start users
    → AreShutOut start users bit → IsRunFrom start later → AllSteps (GrantsAreTheirs users) start later
    → AreConfined start (tables_from start later) users bit
confined laws start later users bit are shut run theirs =
    let c : Confines start (tables_from start later) users bit = confines laws start later users bit are shut run theirs
    in
    record { windows = c.windows; contained = c.remains.contained; as_before = c.shut }
