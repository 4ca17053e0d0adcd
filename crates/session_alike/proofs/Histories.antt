-- Histories that answer alike do so after the same act.
use Rattle.session_alike.proofs.Vocabulary.{◌≡◌, ℕ, Bool, true, false, not, List, [], ◌∷◌, Option, Some, None, refl, ap}
use Rattle.session_alike.proofs.Vocabulary.{sym, ◌∙◌, map, filter, arith, if◌then◌else◌, ◌==◌, ◌&&◌, ◌||◌, unwrap_or}
use Rattle.session_alike.proofs.Vocabulary.{list_any, nat_tests, Act, Object, Bit, Write, Edition, UserId, History}
use Rattle.session_alike.proofs.Vocabulary.{followed_by, decided, decides_known, decides_mask, decides_open}
use Rattle.session_alike.proofs.Vocabulary.{decides_preset, decision, greeting, has, latest, leaders_after, leaders_of}
use Rattle.session_alike.proofs.Vocabulary.{mask, may, opening, users_after, users_of, same_bit, same_object, same_user}
use Rattle.session_alike.proofs.Vocabulary.{Renaming, act_as, object_as, HistoriesAlike, client_as, if_as}
use Rattle.acl.specs.declared.act.Act.TheVariants as act
use Rattle.acl.specs.declared.act.Object.TheVariants as object
use Rattle.acl.specs.declared.act.PresetKind.TheVariants as preset
use Rattle.acl.specs.declared.act.LockMode.{LockMode}
use Rattle.acl.specs.declared.act.PresetKind.{PresetKind}
use Rattle.acl.specs.History.{is_known}
use Rattle.writelock.specs.Holding.{clients_after, clients_of, decides_default, ends, given, holder, is_off, kept}
use Rattle.writelock.specs.Holding.{loses_last, mode_after, mode_of}

-- ---- serials

equal : (m n : ℕ) → (m == n) ≡ true → m ≡ n
equal m n is = grind (arith, nat_tests, is)

itself : (n : ℕ) → (n == n) ≡ true
itself n = grind (arith, nat_tests)

apart : (a b : Bool) → (a ≡ true → b ≡ true) → b ≡ false → a ≡ false
apart false b on not = refl
apart true b on not = sym (on refl) ∙ not

-- a test of serials says the same under other serials
pub same_test : (f : ℕ → ℕ) → ((v w : ℕ) → f v ≡ f w → v ≡ w) → (v w : ℕ) → (f v == f w) ≡ (v == w)
same_test f differ v w = on (v == w) refl where
  on : (b : Bool) → (v == w) ≡ b → (f v == f w) ≡ b
  on true is = ap (λ x. f v == f x) (sym (equal v w is)) ∙ itself (f v)
  on false is = apart (f v == f w) (v == w)
      (λ same. ap (λ x. v == x) (sym (differ v w (equal (f v) (f w) same))) ∙ itself v) is

pub same_any : {A B : Type 0} (f : A → B) (p : A → Bool) (q : B → Bool) (xs : List A) → ((x : A) → q (f x) ≡ p x)
    → list_any q (map f xs) ≡ list_any p xs
same_any f p q [] same = refl
same_any f p q (x ∷ xs) same = ap (λ b. b || list_any q (map f xs)) (same x)
    ∙ ap (λ b. p x || b) (same_any f p q xs same)

any_as : {A : Type 0} (p q : A → Bool) (xs : List A) → ((x : A) → q x ≡ p x) → list_any q xs ≡ list_any p xs
any_as p q [] same = refl
any_as p q (x ∷ xs) same = ap (λ b. b || list_any q xs) (same x) ∙ ap (λ b. p x || b) (any_as p q xs same)

or_later : (b : Bool) (o : Option Bool) (x y : Bool) → (b || y) ≡ (b || x) → (b || unwrap_or o y) ≡ (b || unwrap_or o x)
or_later true o x y same = refl
or_later false o x y same = ap (unwrap_or o) same

pub window_test : (n : Renaming) (v w : ℕ) → (n.window v == n.window w) ≡ (v == w)
window_test n v w = same_test n.window n.windows_differ v w

pub client_test : (n : Renaming) (v w : ℕ) → (n.client v == n.client w) ≡ (v == w)
client_test n v w = same_test n.client n.clients_differ v w

module _ (n : Renaming) (edition : Edition) (owner : UserId) where
  object_test : (p o : Object) → same_object (object_as n p) (object_as n o) ≡ same_object p o
  object_test (object.Window v) (object.Window w) = window_test n v w
  object_test (object.Window v) (object.Command c) = refl
  object_test (object.Command c) (object.Window w) = refl
  object_test (object.Command c) (object.Command d) = refl

  -- ---- what an act says

  users_as : (a : Act) (us : List UserId) → users_after (act_as n a) us ≡ users_after a us
  users_as (act.Known u) us = refl
  users_as _ us = refl

  known_as : (u : UserId) (a : Act) → decides_known u (act_as n a) ≡ decides_known u a
  known_as u (act.Known v) = refl
  known_as u _ = refl

  leaders_as : (a : Act) (u : UserId) (ls : List UserId)
      → leaders_after edition (act_as n a) u ls ≡ leaders_after edition a u ls
  leaders_as (act.Known v) u ls = refl
  leaders_as _ u ls = refl

  mask_as : (by u : UserId) (bit : Bit) (a : Act) → decides_mask by u bit (act_as n a) ≡ decides_mask by u bit a
  mask_as by u bit (act.Known v) = refl
  mask_as by u bit _ = refl

  preset_as : (kind : PresetKind) (bit : Bit) (a : Act)
      → decides_preset kind bit (act_as n a) ≡ decides_preset kind bit a
  preset_as kind bit (act.Known v) = refl
  preset_as kind bit _ = refl

  default_as : (a : Act) → decides_default (act_as n a) ≡ decides_default a
  default_as (act.Known v) = refl
  default_as _ = refl

  open_as : (w : ℕ) (a : Act) → decides_open (n.window w) (act_as n a) ≡ decides_open w a
  open_as w (act.Opened by v) = ap (λ b. decided b true) (window_test n v w)
  open_as w (act.Closed v) = ap (λ b. decided b false) (window_test n v w)
  open_as w (act.Known v) = refl
  open_as w _ = refl

  clients_as : (a : Act) (cs : List (ℕ × UserId))
      → clients_after (act_as n a) (map (client_as n) cs) ≡ map (client_as n) (clients_after a cs)
  clients_as (act.Parted client) cs = left cs where
    left : (cs : List (ℕ × UserId))
        → filter (λ (c : ℕ × UserId). not (c.0 == n.client client)) (map (client_as n) cs) ≡ map (client_as n)
        (filter (λ (c : ℕ × UserId). not (c.0 == client)) cs)
    left [] = refl
    left (c ∷ cs) =
        let others = filter (λ (d : ℕ × UserId). not (d.0 == client)) cs in
        let here = if_as (map (client_as n)) (not (c.0 == client)) (c ∷ others) others in
        cc (client_test n c.0 client, left cs, here)
  clients_as (act.Known v) cs = refl
  clients_as _ cs = refl

  may_by : (h g : History) → ((u : UserId) → leaders_of edition g u ≡ leaders_of edition h u)
      → ((u : UserId) (bit : Bit) (o : Object) → has owner g u bit (object_as n o) ≡ has owner h u bit o)
      → (u : UserId) (bit : Bit) (o : Object)
      → may edition owner g u bit (object_as n o) ≡ may edition owner h u bit o
  may_by h g leaders entries u bit o =
      let led = any_as (λ leader. has owner h leader bit o) (λ leader. has owner g leader bit (object_as n o))
      (leaders_of edition h u) (λ leader. entries leader bit o) in
      cc (entries u bit o, leaders u, led)

  -- ---- what it says after histories that answer alike
  module _ (h g : History) (s : HistoriesAlike n edition owner h g) where
    pub may_as : (u : UserId) (bit : Bit) (o : Object)
        → may edition owner g u bit (object_as n o) ≡ may edition owner h u bit o
    may_as = may_by h g s.leaders s.entries

    greeting_as : (bit : Bit) (o : Object) → greeting g bit (object_as n o) ≡ greeting h bit o
    greeting_as bit (object.Window w) = cc (s.opened w, s.presets preset.Windows bit)
    greeting_as bit (object.Command c) = ap Some (s.presets preset.Commands bit)

    opening_as : (by u : UserId) (bit : Bit) → opening owner g by u bit ≡ opening owner h by u bit
    opening_as by u bit = on (same_user by u) refl where
      on : (b : Bool) → same_user by u ≡ b
          → (if b then Some true else decided (is_known owner g u) (mask g by u bit)) ≡
          (if b then Some true else decided (is_known owner h u) (mask h by u bit))
      on true is = refl
      on false is = cc (s.known u, s.masks by u bit is)

    decision_as : (a : Act) (u : UserId) (bit : Bit) (o : Object)
        → decision owner (act_as n a) g u bit (object_as n o) ≡ decision owner a h u bit o
    decision_as (act.Known v) u bit o = ap (λ x. if same_user v u then x else None) (greeting_as bit o)
    decision_as (act.Set v c place value) u bit o =
        ap (λ b. decided (same_user v u && same_bit c bit && b) value) (object_test place o)
    decision_as (act.Opened by w) u bit o = cc (object_test (object.Window w) o, opening_as by u bit)
    decision_as (act.Gone v) u bit o = refl
    decision_as _ u bit o = refl

    mode_as : (a : Act) (w : ℕ) (m : LockMode) → mode_after (act_as n a) g (n.window w) m ≡ mode_after a h w m
    mode_as (act.Mode by v mode) w m = ap (λ b. if b then mode else m) (window_test n v w)
    mode_as (act.Opened by v) w m = cc (window_test n v w, s.default)
    mode_as (act.Known v) w m = refl
    mode_as _ w m = refl

    -- ---- locks

    has_client_as : (u : UserId) (cs : List (ℕ × UserId))
        → list_any (λ (c : ℕ × UserId). same_user c.1 u) (map (client_as n) cs) ≡ list_any
        (λ (c : ℕ × UserId). same_user c.1 u) cs
    has_client_as u cs = same_any (client_as n) (λ c. same_user c.1 u) (λ c. same_user c.1 u) cs (λ c. refl)

    loses_as : (client : ℕ) (u : UserId) → loses_last g (n.client client) u ≡ loses_last h client u
    loses_as client u =
        let after = has_client_as u (clients_after (act.Parted client) (clients_of h)) in
        cc (s.clients, has_client_as u (clients_of h), clients_as (act.Parted client) (clients_of h), after)

    ends_as : (a : Act) (u : UserId) (w : ℕ) → ends (act_as n a) g u (n.window w) ≡ ends a h u w
    ends_as (act.Mode by v mode) u w = ap (λ b. b && is_off mode) (window_test n v w)
    ends_as (act.Left v x) u w = cc (window_test n x w, s.modes w)
    ends_as (act.Set v Write (object.Window x) false) u w = ap (λ b. same_user v u && b) (window_test n x w)
    ends_as (act.Parted client) u w = loses_as client u
    ends_as (act.Closed x) u w = window_test n x w
    ends_as (act.Known v) u w = refl
    ends_as _ u w = refl

    given_as : (a : Act) (w : ℕ) (held : Option UserId)
        → given edition owner (act_as n a) g (n.window w) held ≡ given edition owner a h w held
    given_as (act.Mode by v mode) w held = ap (λ b. decided (b && not (is_off mode)) by) (window_test n v w)
    given_as (act.Opened by v) w held = cc (window_test n v w, s.default)
    given_as (act.Entered u v) w held = cc (window_test n v w, s.modes w, may_as u Write (object.Window w))
    given_as (act.Known v) w held = refl
    given_as _ w held = refl

    kept_as : (a : Act) (w : ℕ) (held : Option UserId)
        → ((u : UserId) → may edition owner (act_as n a ∷ g) u Write (object.Window (n.window w)) ≡ may edition owner
        (a ∷ h) u Write (object.Window w))
        → kept edition owner (act_as n a) g (n.window w) held ≡ kept edition owner a h w held
    kept_as a w None may_so = refl
    kept_as a w (Some u) may_so = cc (ends_as a u w, may_so u)

    -- ---- an act

    rights_after : (a : Act) (u : UserId) (bit : Bit) (o : Object)
        → has owner (act_as n a ∷ g) u bit (object_as n o) ≡ has owner (a ∷ h) u bit o
    rights_after a u bit o = cc (decision_as a u bit o, s.entries u bit o)

    led_after : (a : Act) (u : UserId) → leaders_of edition (act_as n a ∷ g) u ≡ leaders_of edition (a ∷ h) u
    led_after a u = leaders_as a u (leaders_of edition g u) ∙ ap (leaders_after edition a u) (s.leaders u)

    pub alike_after : (a : Act) → HistoriesAlike n edition owner (a ∷ h) (act_as n a ∷ g)
    alike_after a = record {
      users = users_as a (users_of owner g) ∙ ap (users_after a) s.users;
      known = λ u. ap (λ d. same_user owner u || unwrap_or d (latest (decides_known u) false g)) (known_as u a)
          ∙ or_later (same_user owner u) (decides_known u a) (latest (decides_known u) false h)
          (latest (decides_known u) false g) (s.known u);
      leaders = led_after a;
      entries = rights_after a;
      masks = λ by u bit other. cc (mask_as by u bit a, s.masks by u bit other);
      presets = λ kind bit. cc (preset_as kind bit a, s.presets kind bit);
      opened = λ w. cc (open_as w a, s.opened w);
      default = cc (default_as a, s.default);
      modes = λ w. cc (mode_as a w (mode_of g (n.window w)), s.modes w);
      holders = λ w.
          let kept = kept_as a w (holder edition owner h w)
          (λ u. may_by (a ∷ h) (act_as n a ∷ g) (led_after a) (rights_after a) u Write (object.Window w)) in
          cc (s.holders w, given_as a w (holder edition owner h w), kept);
      clients = ap (clients_after (act_as n a)) s.clients ∙ clients_as a (clients_of h);
    }

  pub all_alike : (h g : History) (acts : List Act) → HistoriesAlike n edition owner h g
      → HistoriesAlike n edition owner (followed_by h acts) (followed_by g (map (act_as n) acts))
  all_alike h g [] s = s
  all_alike h g (a ∷ acts) s = all_alike (a ∷ h) (act_as n a ∷ g) acts (alike_after h g s a)
