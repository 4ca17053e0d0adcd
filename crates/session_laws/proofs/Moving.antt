-- Which acts of commands leave windows and clients, and how a step may move them: some windows
-- close, and some clients go.
use Rattle.session_laws.proofs.Vocabulary.{◌≡◌, ℕ, ◌+◌, ◌≤◌, Bool, true, false, not, List, [], ◌∷◌, ◌++◌, Option, Some}
use Rattle.session_laws.proofs.Vocabulary.{refl, ap, sym, ◌∙◌, map, filter, length, arith, if◌then◌else◌, ◌==◌}
use Rattle.session_laws.proofs.Vocabulary.{AllByRecursion, UserId, BitChange, Act, Object, MaskEntry, NewLeader}
use Rattle.session_laws.proofs.Vocabulary.{change_acts, add_acts, group_acts, mask_acts, Tables, Client, row_of}
use Rattle.session_laws.proofs.Vocabulary.{with_row, Deed, acting, listing, NumbersDiffer, filter_all, all_weaken}
use Rattle.acl.specs.declared.act.Act.TheVariants as act
use Rattle.session_laws.proofs.Listing.{is_listing, AllListing, change_list, add_list, group_list, mask_list}
use Rattle.session_laws.proofs.DifferentNumbers.{serial_of, Differ}

-- ---- acts aside: these say nothing of which windows and clients there are

abbrev pub is_aside : Act → Bool
is_aside (act.Opened by window) = false
is_aside (act.Closed window) = false
is_aside (act.Attached client user) = false
is_aside (act.Parted client) = false
is_aside _ = true

abbrev pub AllAside : List Act → Type 0
AllAside acts = AllByRecursion (λ a. is_aside a ≡ true) acts

pub aside_append : (a b : List Act) → AllAside a → AllAside b → AllAside (a ++ b)
aside_append [] b p q = q
aside_append (x ∷ a) b p q = (p.0, aside_append a b p.1 q)

-- acts on rights
abbrev pub is_right : Act → Bool
is_right (act.Opened by window) = false
is_right (act.Closed window) = false
is_right (act.Attached client user) = false
is_right (act.Parted client) = false
is_right (act.Entered user window) = false
is_right (act.Left user window) = false
is_right _ = true

abbrev pub AllRights : List Act → Type 0
AllRights acts = AllByRecursion (λ a. is_right a ≡ true) acts

pub right_aside : (acts : List Act) → AllRights acts → AllAside acts
right_aside acts all = all_weaken (λ a. is_right a ≡ true) (λ a. is_aside a ≡ true) acts one all where
  one : (a : Act) → is_right a ≡ true → is_aside a ≡ true
  one (act.Opened by window) is = absurd (cc (is))
  one (act.Closed window) is = absurd (cc (is))
  one (act.Attached client user) is = absurd (cc (is))
  one (act.Parted client) is = absurd (cc (is))
  one a is = refl

-- acts on access lists are acts on rights
listed_rights : (acts : List Act) → AllListing acts → AllRights acts
listed_rights acts all = all_weaken (λ a. is_listing a ≡ true) (λ a. is_right a ≡ true) acts one all where
  one : (a : Act) → is_listing a ≡ true → is_right a ≡ true
  one (act.Opened by window) is = absurd (cc (is))
  one (act.Closed window) is = absurd (cc (is))
  one (act.Attached client user) is = absurd (cc (is))
  one (act.Parted client) is = absurd (cc (is))
  one (act.Entered user window) is = absurd (cc (is))
  one (act.Left user window) is = absurd (cc (is))
  one a is = refl

pub change_rights : (users : List UserId) (names : List (Option UserId)) (bits : List BitChange) (objects : List Object)
    → AllRights (change_acts users names bits objects)
change_rights users names bits objects = listed_rights _ (change_list users names bits objects)

pub add_rights : (users : List UserId) (names : List (Option UserId)) (objects : List Object)
    → AllRights (add_acts users names objects)
add_rights users names objects = listed_rights _ (add_list users names objects)

pub group_rights : (name : Option UserId) (leader : NewLeader) → AllRights (group_acts name leader)
group_rights name leader = listed_rights _ (group_list name leader)

pub mask_rights : (by : UserId) (entries : List MaskEntry) → AllRights (mask_acts by entries)
mask_rights by entries = listed_rights _ (mask_list by entries)

-- ---- what a command moves

abbrev pub id_of : Client → ℕ × UserId
id_of c = (c.serial, c.user)

-- the attached clients, with their users; and the open windows, by their serials
abbrev pub ids : Tables → List (ℕ × UserId)
ids t = map id_of t.clients

abbrev pub serials : Tables → List ℕ
serials t = map serial_of t.windows

abbrev pub closed : List ℕ → List Act
closed ns = map (λ n. act.Closed n) ns

abbrev pub parted : List (ℕ × UserId) → List Act
parted ps = map (λ (p : ℕ × UserId). act.Parted p.0) ps

-- Some windows are closed and some clients go, in order; the others stay, and all other acts are
-- aside.
pub record Moves (t : Tables) (u : Tables) (acts : List Act) (effects : ℕ) : Type 0 where
  pub closing : ℕ → Bool
  pub parting : ℕ × UserId → Bool
  pub others : List Act
  pub aside : AllAside others
  pub acts_are : acts ≡ closed (filter closing (serials t)) ++ (parted (filter parting (ids t)) ++ others)
  pub windows : serials u ≡ filter (λ n. not (closing n)) (serials t)
  pub clients : ids u ≡ filter (λ p. not (parting p)) (ids t)
  pub next_window : u.next_window ≡ t.next_window
  pub next_client : u.next_client ≡ t.next_client
  pub few : effects ≤ length t.windows + length t.clients + 1
  pub numbers : Differ t.windows → NumbersDiffer t.windows → NumbersDiffer u.windows

abbrev pub DeedMoves : Tables → Deed → Type 0
DeedMoves t d = Moves t d.tables d.acts (length d.effects)

pub filter_map : {A B : Type 0} (f : A → B) (p : B → Bool) (xs : List A)
    → map f (filter (λ x. p (f x)) xs) ≡ filter p (map f xs)
filter_map f p [] = refl
filter_map f p (x ∷ xs) = on (p (f x)) (filter_map f p xs) where
  on : (b : Bool) → map f (filter (λ x. p (f x)) xs) ≡ filter p (map f xs)
      → map f (if b then x ∷ filter (λ x. p (f x)) xs else filter (λ x. p (f x)) xs) ≡
      (if b then f x ∷ filter p (map f xs) else filter p (map f xs))
  on true same = ap (λ ys. f x ∷ ys) same
  on false same = same

pub filter_none : {A : Type 0} (xs : List A) → filter (λ x. false) xs ≡ []
filter_none [] = refl
filter_none (x ∷ xs) = filter_none xs

-- no window and no client goes
pub stays : (t u : Tables) (acts : List Act) (effects : ℕ) → AllAside acts → serials u ≡ serials t → ids u ≡ ids t
    → u.next_window ≡ t.next_window → u.next_client ≡ t.next_client → effects ≤ length t.windows + length t.clients + 1
    → (Differ t.windows → NumbersDiffer t.windows → NumbersDiffer u.windows) → Moves t u acts effects
stays t u acts effects aside windows clients next_window next_client few numbers = record {
  closing = λ n. false;
  parting = λ p. false;
  others = acts;
  aside = aside;
  acts_are = sym
      (ap (λ ns. closed ns ++ (parted (filter (λ p. false) (ids t)) ++ acts)) (filter_none (serials t))
      ∙ ap (λ ps. parted ps ++ acts) (filter_none (ids t)));
  windows = windows ∙ sym (filter_all (serials t));
  clients = clients ∙ sym (filter_all (ids t));
  next_window = next_window;
  next_client = next_client;
  few = few;
  numbers = numbers;
}

-- a deed with acts aside alone
pub acts_only : (t : Tables) (acts : List Act) → AllAside acts → DeedMoves t (acting t acts)
acts_only t acts aside = stays t t acts 0 aside refl refl refl refl (omega arith) (λ differ numbers. numbers)

pub lists_only : (t : Tables) (bytes : List ℕ) → DeedMoves t (listing t bytes)
lists_only t bytes = stays t t [] 0 tt refl refl refl refl (omega arith) (λ differ numbers. numbers)

-- a change of a client's row keeps what is read of the rows
pub map_with_row : {A B : Type 0} (f : A → B) (s : A → ℕ) (rows : List A) (n : ℕ) (x : A)
    → ((r : A) → row_of s rows n ≡ Some r → f x ≡ f r) → map f (with_row s rows n x) ≡ map f rows
map_with_row f s [] n x same = refl
map_with_row {A = A} f s (r ∷ rows) n x same = on (s r == n) same (map_with_row f s rows n x) where
  on : (b : Bool) → ((q : A) → (if b then Some r else row_of s rows n) ≡ Some q → f x ≡ f q)
      → (((q : A) → row_of s rows n ≡ Some q → f x ≡ f q) → map f (with_row s rows n x) ≡ map f rows)
      → map f (if b then x ∷ rows else r ∷ with_row s rows n x) ≡ map f (r ∷ rows)
  on true same later = ap (λ y. y ∷ map f rows) (same r refl)
  on false same later = ap (λ ys. f r ∷ ys) (later same)
