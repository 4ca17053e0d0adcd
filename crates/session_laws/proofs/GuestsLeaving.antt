-- Which users leave windows in a step, and which windows.
use Rattle.session_laws.proofs.Vocabulary.{◌≡◌, ℕ, zero, suc, Bool, true, false, not, List, [], ◌∷◌, ◌++◌, Option, Some}
use Rattle.session_laws.proofs.Vocabulary.{None, refl, ap, sym, ◌∙◌, map, filter, inl, inr, if◌then◌else◌, ◌==◌, ◌||◌}
use Rattle.session_laws.proofs.Vocabulary.{◌&&◌, ◌⊎◌, AllByRecursion, UserId, Act, same_user, same_user-refl, Shown}
use Rattle.session_laws.proofs.Vocabulary.{without_window, without_windows, left_acts_of, left_acts, unread, Window}
use Rattle.session_laws.proofs.Vocabulary.{Client, row_of, with_row, focused, is_window, shows, is_in_focus, equal}
use Rattle.session_laws.proofs.Vocabulary.{itself, contradicts, all_weaken, all_append}
use Rattle.acl.specs.declared.act.Act.TheVariants as act
use Rattle.regions.specs.Layouts as layouts
use Rattle.session_laws.proofs.Showing.{at_place}
use Rattle.session_laws.proofs.Callers.{focus_read}

pub or_early : (a b : Bool) → a ≡ true → (a || b) ≡ true
or_early true b is = refl
or_early false b is = absurd (cc (is))

pub or_late : (a b : Bool) → b ≡ true → (a || b) ≡ true
or_late true b is = refl
or_late false b is = is

-- ---- acts

-- the act is that a user left a window, and this holds of them
abbrev pub LeftBy : (UserId → ℕ → Type 0) → Act → Type 0
LeftBy Q (act.Left u w) = Q u w
LeftBy Q a = ⊥

-- the user may have left the window in focus, or still sees it
abbrev pub Leaves : (UserId → ℕ → Type 0) → List Client → Client → Type 0
Leaves Q after c = (w : ℕ) → focused c ≡ Some w → Q c.user w ⊎ (is_in_focus after c.user w ≡ true)

pub left_where : (Q : UserId → ℕ → Type 0) (before after : List Client) → AllByRecursion (Leaves Q after) before
    → AllByRecursion (LeftBy Q) (left_acts before after)
left_where Q [] after all = tt
left_where Q (c ∷ before) after all =
    all_append (LeftBy Q) (left_acts_of c (focused c) before after) (left_acts before after) (one (focused c) refl)
    (left_where Q before after all.1) where
      on : (w : ℕ) (a b : Bool) → is_in_focus after c.user w ≡ b → Q c.user w ⊎ (is_in_focus after c.user w ≡ true)
          → AllByRecursion (LeftBy Q) (if a || b then [] else act.Left c.user w ∷ [])
      on w true b is q = tt
      on w false true is q = tt
      on w false false is (inl q) = (q, tt)
      on w false false is (inr there) = contradicts (is_in_focus after c.user w) there is

      one : (o : Option ℕ) → focused c ≡ o → AllByRecursion (LeftBy Q) (left_acts_of c o before after)
      one None at = tt
      one (Some w) at = on w (is_in_focus before c.user w) (is_in_focus after c.user w) refl (all.0 w at)

-- no user leaves a window
pub nobody : (acts : List Act) → AllByRecursion (LeftBy (λ u w. ⊥)) acts → acts ≡ []
nobody [] all = refl
nobody (a ∷ acts) all = absurd (on a all.0) where
  on : (a : Act) → LeftBy (λ u w. ⊥) a → ⊥
  on (act.Left u w) is = is
  on a is = is

left_before : (bs after : List Client) → left_acts bs after ≡ left_acts (map unread bs) after
left_before [] after = refl
left_before (c ∷ bs) after = ap (λ acts. acts ++ left_acts bs after) (one (focused c))
    ∙ ap (λ acts. left_acts_of (unread c) (focused c) (map unread bs) after ++ acts) (left_before bs after) where
      one : (o : Option ℕ) → left_acts_of c o bs after ≡ left_acts_of (unread c) o (map unread bs) after
      one None = refl
      one (Some w) = ap
          (λ b. if b || is_in_focus after c.user w then (let none : List Act = [] in none) else act.Left c.user w ∷ [])
          (focus_read bs c.user w)

-- a user who reads keys sees the same windows
pub left_read : (bs cs after : List Client) → map unread cs ≡ map unread bs → left_acts bs after ≡ left_acts cs after
left_read bs cs after same = left_before bs after ∙ ap (λ ds. left_acts ds after) (sym same)
    ∙ sym (left_before cs after)

-- ---- clients

shows_own : (c : Client) (w : ℕ) → focused c ≡ Some w → shows c.user w c ≡ true
shows_own c w is = ap (λ b. b && is_window w (focused c)) (same_user-refl c.user) ∙ ap (is_window w) is ∙ itself w

abbrev Sees : List Client → Client → Type 0
Sees after c = (w : ℕ) → focused c ≡ Some w → is_in_focus after c.user w ≡ true

sees_own : (cs : List Client) → AllByRecursion (Sees cs) cs
sees_own [] = tt
sees_own (c ∷ cs) = (
  (λ w at. or_early (shows c.user w c) (is_in_focus cs c.user w) (shows_own c w at)),
  all_weaken (Sees cs)
      (Sees (c ∷ cs)) cs (λ d sees w at. or_late (shows d.user w c) (is_in_focus cs d.user w) (sees w at))
      (sees_own cs),
)

as_leaves : (Q : UserId → ℕ → Type 0) (after : List Client) (c : Client) → Sees after c → Leaves Q after c
as_leaves Q after c sees w at = inr (sees w at)

more : (Q : UserId → ℕ → Type 0) (d : Client) (after : List Client) (c : Client) → Leaves Q after c
    → Leaves Q (d ∷ after) c
more Q d after c leaves w at = on (leaves w at) where
  on : Q c.user w ⊎ (is_in_focus after c.user w ≡ true) → Q c.user w ⊎ (is_in_focus (d ∷ after) c.user w ≡ true)
  on (inl q) = inl q
  on (inr there) = inr (or_late (shows c.user w d) (is_in_focus after c.user w) there)

-- the clients that pass a test go
pub parted : (Q : UserId → ℕ → Type 0) (goes : Client → Bool) (cs : List Client)
    → AllByRecursion (λ (c : Client). goes c ≡ true → (w : ℕ) → Q c.user w) cs
    → AllByRecursion (Leaves Q (filter (λ c. not (goes c)) cs)) cs
parted Q goes [] all = tt
parted Q goes (c ∷ cs) all = on (goes c) all.0 (parted Q goes cs all.1) where
  rest : List Client
  rest = filter (λ d. not (goes d)) cs

  on : (b : Bool) → (b ≡ true → (w : ℕ) → Q c.user w) → AllByRecursion (Leaves Q (filter (λ d. not (goes d)) cs)) cs
      → AllByRecursion (Leaves Q (if not b then c ∷ filter (λ d. not (goes d)) cs else filter (λ d. not (goes d)) cs))
      (c ∷ cs)
  on true q later = ((λ w at. inl (q refl w)), later)
  on false q later = (
    (λ w at. inr
        (or_early (shows c.user w c) (is_in_focus (filter (λ d. not (goes d)) cs) c.user w) (shows_own c w at))),
    all_weaken (Leaves Q (filter (λ d. not (goes d)) cs)) (Leaves Q (c ∷ filter (λ d. not (goes d)) cs)) cs
        (λ d l. more Q c (filter (λ d. not (goes d)) cs) d l) later,
  )

-- one client's row is replaced
pub turned : (Q : UserId → ℕ → Type 0) (cs : List Client) (n : ℕ) (y : Client)
    → ((r : Client) → row_of (λ (c : Client). c.serial) cs n ≡ Some r → (w : ℕ) → Q r.user w)
    → AllByRecursion (Leaves Q (with_row (λ (c : Client). c.serial) cs n y)) cs
turned Q [] n y own = tt
turned Q (r ∷ cs) n y own = on (r.serial == n) own (turned Q cs n y) where
  on : (b : Bool)
      → ((q : Client) → (if b then Some r else row_of (λ (c : Client). c.serial) cs n) ≡ Some q → (w : ℕ) → Q q.user w)
      → (((q : Client) → row_of (λ (c : Client). c.serial) cs n ≡ Some q → (w : ℕ) → Q q.user w)
      → AllByRecursion (Leaves Q (with_row (λ (c : Client). c.serial) cs n y)) cs)
      → AllByRecursion (Leaves Q (if b then y ∷ cs else r ∷ with_row (λ (c : Client). c.serial) cs n y)) (r ∷ cs)
  on true own later = (
    (λ w at. inl (own r refl w)),
    all_weaken (Sees cs) (Leaves Q (y ∷ cs)) cs
        (λ d sees. more Q y cs d (as_leaves Q cs d sees)) (sees_own cs),
  )
  on false own later = (
    (λ w at. inr
        (or_early (shows r.user w r) (is_in_focus (with_row (λ (c : Client). c.serial) cs n y) r.user w)
        (shows_own r w at))),
    all_weaken (Leaves Q (with_row (λ (c : Client). c.serial) cs n y))
        (Leaves Q (r ∷ with_row (λ (c : Client). c.serial) cs n y)) cs
        (λ d l. more Q r (with_row (λ (c : Client). c.serial) cs n y) d l) (later own),
  )

-- one more client
focus_more : (cs ds : List Client) (u : UserId) (w : ℕ) → is_in_focus cs u w ≡ true → is_in_focus (cs ++ ds) u w ≡ true
focus_more [] ds u w is = absurd (cc (is))
focus_more (c ∷ cs) ds u w is = on (shows u w c) is (focus_more cs ds u w) where
  on : (b : Bool) → (b || is_in_focus cs u w) ≡ true → (is_in_focus cs u w ≡ true → is_in_focus (cs ++ ds) u w ≡ true)
      → (b || is_in_focus (cs ++ ds) u w) ≡ true
  on true is later = refl
  on false is later = later is

pub appended : (cs ds : List Client) → AllByRecursion (Leaves (λ u w. ⊥) (cs ++ ds)) cs
appended cs ds = all_weaken (Sees cs) (Leaves (λ u w. ⊥) (cs ++ ds)) cs
    (λ c sees w at. inr (focus_more cs ds c.user w (sees w at))) (sees_own cs)

-- ---- windows that close

window_is : (o : Option ℕ) (w : ℕ) → is_window w o ≡ true → o ≡ Some w
window_is None w is = absurd (cc (is))
window_is (Some v) w is = ap Some (equal v w is)

window_kept : (m v : ℕ) → (v == m) ≡ false → (o : Option ℕ) (back : ℕ) → o ≡ Some v
    → (layouts.emptied m (record { window = o; back = back })).window ≡ Some v
window_kept m v off None back is = absurd (cc (is))
window_kept m v off (Some u) back is = on (u == m) (let same : u ≡ v = cc (is) in ap (λ n. n == m) same ∙ off) is where
  on : (b : Bool) → b ≡ false → Some u ≡ Some v
      → (let s : Shown = record { window = Some u; back = back } in if b then record s { window = None } else s).window
      ≡ Some v
  on true not is = absurd (cc (not))
  on false not is = is

place_kept : (m v : ℕ) → (v == m) ≡ false → (xs : List Shown) (n : ℕ) → at_place xs n ≡ Some v
    → at_place (map (layouts.emptied m) xs) n ≡ Some v
place_kept m v off [] n is = is
place_kept m v off (s ∷ xs) zero is = window_kept m v off s.window s.back is
place_kept m v off (s ∷ xs) (suc n) is = place_kept m v off xs n is

both : (a b : Bool) → (a && b) ≡ true → (a ≡ true) × (b ≡ true)
both true b is = (refl, is)
both false b is = absurd (cc (is))

shows_kept : (m w : ℕ) → (w == m) ≡ false → (u : UserId) (c : Client) → shows u w c ≡ true
    → shows u w (without_window m c) ≡ true
shows_kept m w off u c is =
    let parts : (same_user c.user u ≡ true)
    × (is_window w (focused c) ≡ true) = both (same_user c.user u) (is_window w (focused c)) is in
    ap (λ b. b && is_window w (focused (without_window m c))) parts.0
    ∙ ap (is_window w) (place_kept m w off c.layout.shown c.layout.focus (window_is (focused c) w parts.1)) ∙ itself w

focus_kept : (m w : ℕ) → (w == m) ≡ false → (u : UserId) (cs : List Client) → is_in_focus cs u w ≡ true
    → is_in_focus (map (without_window m) cs) u w ≡ true
focus_kept m w off u [] is = absurd (cc (is))
focus_kept m w off u (c ∷ cs) is = on (shows u w c) refl is (focus_kept m w off u cs) where
  on : (b : Bool) → shows u w c ≡ b → (b || is_in_focus cs u w) ≡ true
      → (is_in_focus cs u w ≡ true → is_in_focus (map (without_window m) cs) u w ≡ true)
      → (shows u w (without_window m c) || is_in_focus (map (without_window m) cs) u w) ≡ true
  on true at is later = or_early (shows u w (without_window m c)) (is_in_focus (map (without_window m) cs) u w)
      (shows_kept m w off u c at)
  on false at is later = or_late (shows u w (without_window m c)) (is_in_focus (map (without_window m) cs) u w)
      (later is)

focus_without : (w : ℕ) (ws : List Window) → AllByRecursion (λ (v : Window). (w == v.serial) ≡ false) ws
    → (u : UserId) (cs : List Client) → is_in_focus cs u w ≡ true → is_in_focus (without_windows ws cs) u w ≡ true
focus_without w [] all u cs is = is
focus_without w (v ∷ ws) all u cs is = focus_without w ws all.1 u (map (without_window v.serial) cs)
    (focus_kept v.serial w all.0 u cs is)

pub shut : (window : ℕ) (ws : List Window) (cs : List Client) → AllByRecursion (λ (v : Window). v.serial ≡ window) ws
    → AllByRecursion (Leaves (λ u w. (w == window) ≡ true) (without_windows ws cs)) cs
shut window ws cs all = all_weaken (Sees cs) (Leaves (λ u w. (w == window) ≡ true) (without_windows ws cs)) cs
    (λ c sees w at. on c w (sees w at) (w == window) refl) (sees_own cs) where
      on : (c : Client) (w : ℕ) → is_in_focus cs c.user w ≡ true → (b : Bool) → (w == window) ≡ b
          → ((w == window) ≡ true) ⊎ (is_in_focus (without_windows ws cs) c.user w ≡ true)
      on c w sees true is = inl is
      on c w sees false is = inr
          (focus_without w ws
          (all_weaken (λ (v : Window). v.serial ≡ window) (λ (v : Window). (w == v.serial) ≡ false) ws
          (λ v same. ap (λ n. w == n) same ∙ is) all) c.user cs sees)
