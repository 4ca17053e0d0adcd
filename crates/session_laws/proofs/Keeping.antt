-- Commands leave each client's keys, and what was delivered to it, unchanged.
use Rattle.session_laws.proofs.Vocabulary.{◌≡◌, ℕ, Bool, true, false, not, List, [], ◌∷◌, Option, Some, None, refl, ap}
use Rattle.session_laws.proofs.Vocabulary.{sym, ◌∙◌, map, filter, ⊎_elim, if◌then◌else◌, ◌==◌, AllByRecursion, UserId}
use Rattle.session_laws.proofs.Vocabulary.{named_by, Order, one_region, empty, Tables, Window, Client, with_row}
use Rattle.session_laws.proofs.Vocabulary.{client_at, with_client, Caller, Deed, removes, without_window}
use Rattle.session_laws.proofs.Vocabulary.{without_windows, hearing, does, caller_client, SomeOf, all_weaken, all_map}
use Rattle.session_laws.proofs.Vocabulary.{all_filter, members, some_weaken, some_row}
use Rattle.session_model.specs.declared.event.StatusMessage.TheVariants as message
use Rattle.session_laws.proofs.Unread.{caller_row}
use Rattle.session_laws.proofs.Doing.{Either}
use Rattle.session_laws.proofs.Shapes as shapes

-- a client without its regions, the windows that were in its focus, and its message
abbrev pub core : Client → Client
core c = record c { layout = one_region empty; last = None; former = None; message = message.Silence }

-- each client was there before, with the same core
abbrev pub Keeps : List Client → List Client → Type 0
Keeps before after = AllByRecursion (λ d. SomeOf (λ c. core c ≡ core d) before) after

pub keeps_same : (cs : List Client) → Keeps cs cs
keeps_same cs = all_weaken (λ d. SomeOf (λ c. c ≡ d) cs) (λ d. SomeOf (λ c. core c ≡ core d) cs) cs
    (λ d some. some_weaken (λ c. c ≡ d) (λ c. core c ≡ core d) cs (λ c e. ap core e) some) (members cs)

pub keeps_filter : (p : Client → Bool) (before after : List Client) → Keeps before after → Keeps before (filter p after)
keeps_filter p before after all = all_filter (λ d. SomeOf (λ c. core c ≡ core d) before) p after all

keeps_map : (f : Client → Client) (before after : List Client) → ((c : Client) → core (f c) ≡ core c)
    → Keeps before after → Keeps before (map f after)
keeps_map f before after same all =
    all_map (λ d. SomeOf (λ c. core c ≡ core d) before) f after
    (all_weaken (λ d. SomeOf (λ c. core c ≡ core d) before) (λ d. SomeOf (λ c. core c ≡ core (f d)) before) after
    (λ d some. some_weaken (λ c. core c ≡ core d) (λ c. core c ≡ core (f d)) before (λ c e. e ∙ sym (same d)) some) all)

keeps_row : (before after : List Client) (n : ℕ) (x : Client) → SomeOf (λ c. core c ≡ core x) before
    → Keeps before after → Keeps before (with_row (λ (c : Client). c.serial) after n x)
keeps_row before [] n x some all = tt
keeps_row before (r ∷ after) n x some all = on (r.serial == n) (keeps_row before after n x some all.1) where
  on : (b : Bool) → Keeps before (with_row (λ (c : Client). c.serial) after n x)
      → Keeps before (if b then x ∷ after else r ∷ with_row (λ (c : Client). c.serial) after n x)
  on true rest = (some, all.1)
  on false rest = (all.0, rest)

pub keeps_client : (t : Tables) (n : ℕ) (c x : Client) → client_at t n ≡ Some c → core x ≡ core c
    → Keeps t.clients (with_client t x).clients
keeps_client t n c x is same =
    keeps_row t.clients t.clients x.serial x
    (some_weaken (λ d. d ≡ c) (λ d. core d ≡ core x) t.clients (λ d e. ap core e ∙ sym same)
    (some_row (λ (d : Client). d.serial) t.clients n c is)) (keeps_same t.clients)

pub keeps_then : (first : List Client) (cs ds : List Client) → Keeps first cs → Keeps cs ds → Keeps first ds
keeps_then first cs ds one two = all_weaken (λ d. SomeOf (λ c. core c ≡ core d) cs)
    (λ d. SomeOf (λ c. core c ≡ core d) first) ds (λ d some. through cs one d some) two where
      through : (cs : List Client) → Keeps first cs → (d : Client) → SomeOf (λ c. core c ≡ core d) cs
          → SomeOf (λ c. core c ≡ core d) first
      through [] all d some = absurd some
      through (c ∷ cs) all d some = ⊎_elim
          (λ (here : core c ≡ core d). some_weaken (λ b. core b ≡ core c) (λ b. core b ≡ core d) first (λ b e. e ∙ here)
          all.0) (λ later. through cs all.1 d later) some

pub without_keeps : (before : List Client) (ws : List Window) (cs : List Client) → Keeps before cs
    → Keeps before (without_windows ws cs)
without_keeps before [] cs all = all
without_keeps before (w ∷ ws) cs all = without_keeps before ws (map (without_window w.serial) cs)
    (keeps_map (without_window w.serial) before cs (λ c. refl) all)

-- ---- the kinds

abbrev KeepsAll : Tables → Deed → Type 0
KeepsAll t d = Keeps t.clients d.tables.clients

page_keeps : (t : Tables) (k : Caller) (c x : Client) → caller_client t k ≡ Some c → core x ≡ core c
    → Keeps t.clients (with_client t x).clients
page_keeps t k c x is same = keeps_client t c.serial c x (caller_row t k.client c is) same

removal_keeps : (t : Tables) (o : Option UserId) → KeepsAll t (removes o t)
removal_keeps t None = keeps_same t.clients
removal_keeps t (Some u) = keeps_filter _ t.clients t.clients (keeps_same t.clients)

keeps_deed : (t : Tables) (k : Caller) (c : Order) (d : Deed) → shapes.Shape t k c d → KeepsAll t d
keeps_deed t k c d (shapes.enters_page x l of at shows) = page_keeps t k x _ at refl
keeps_deed t k c d (shapes.keeps_page x l of at shows same) = page_keeps t k x _ at refl
keeps_deed t k c d (shapes.shut is) = keeps_filter _ t.clients t.clients (keeps_same t.clients)
keeps_deed t k c d (shapes.told bytes is) = keeps_map (hearing (message.Text _)) t.clients t.clients (λ x. refl)
    (keeps_same t.clients)
keeps_deed t k c d (shapes.removed word is clear) = removal_keeps t (named_by word)
keeps_deed t k c d (shapes.detached x is at) = keeps_filter _ t.clients t.clients (keeps_same t.clients)
keeps_deed t k c d (shapes.killed w is at) = without_keeps t.clients
    (filter (λ (v : Window). v.serial == w.serial) t.windows) t.clients (keeps_same t.clients)
keeps_deed t k c d (shapes.quits is) = keeps_filter (λ x. not true) t.clients _
    (without_keeps t.clients (filter (λ (w : Window). true) t.windows) t.clients (keeps_same t.clients))
keeps_deed t k c d kind = keeps_same t.clients

pub keeps : (t : Tables) (k : Caller) (c : Order) → Either (KeepsAll t) (does t k c)
keeps t k c = shapes.by_shape (KeepsAll t) t k c (keeps_deed t k c)
