-- Each client has a serial of its own, and a command by keys is given by its client's user.
use Rattle.session_laws.proofs.Vocabulary.{◌≡◌, ◌<◌, ℕ, Bool, true, false, List, [], ◌∷◌, Option, Some, None, refl, ap}
use Rattle.session_laws.proofs.Vocabulary.{sym, ◌∙◌, subst, map, reverse, arith, if◌then◌else◌, ◌==◌, ◌||◌}
use Rattle.session_laws.proofs.Vocabulary.{AllByRecursion, option_map_or, reverse-append, UserId, Order, Given}
use Rattle.session_laws.proofs.Vocabulary.{commands_of, with_order, order_in, ok_of, step_items, command_item, Caller}
use Rattle.session_laws.proofs.Vocabulary.{caller_of, line_caller, read_line, unread, Rises, Tables, Client, row_of}
use Rattle.session_laws.proofs.Vocabulary.{client_at, shows, is_in_focus, is_known, EventValue, Keys, Command}
use Rattle.session_laws.proofs.Vocabulary.{contradicts, equal, all_append, all_map}
use Rattle.session_laws.proofs.Unread.{SameClients, row_at}

abbrev pub Own : ℕ → UserId → Client → Type 0
Own s user d = (d.serial == s) ≡ true → d.user ≡ user

pub above : (n s : ℕ) (user : UserId) (cs : List Client) → n ≡ s
    → AllByRecursion (λ m. n < m) (map (λ (c : Client). c.serial) cs) → AllByRecursion (Own s user) cs
above n s user [] is all = tt
above n s user (c ∷ cs) is all =
    let less : n < c.serial = all.0 in (
      (λ at. let same : c.serial ≡ s = equal c.serial s at in absurd (omega (arith, less, same, is))),
      above n s user cs
          is all.1,
    )

pub unique : (cs : List Client) (next s : ℕ) (c : Client) → Rises (map (λ (d : Client). d.serial) cs) next
    → row_of (λ (d : Client). d.serial) cs s ≡ Some c → AllByRecursion (Own s c.user) cs
unique [] next s c rise is = tt
unique (r ∷ cs) next s c rise is = on (r.serial == s) refl is (unique cs next s c rise.2) where
  on : (b : Bool) → (r.serial == s) ≡ b → (if b then Some r else row_of (λ (d : Client). d.serial) cs s) ≡ Some c
      → (row_of (λ (d : Client). d.serial) cs s ≡ Some c → AllByRecursion (Own s c.user) cs)
      → AllByRecursion (Own s c.user) (r ∷ cs)
  on true at is more = let same : r ≡ c = cc (is) in
      ((λ _. ap (λ (d : Client). d.user) same), above r.serial s c.user cs (equal r.serial s at) rise.1)
  on false at is more = ((λ here. contradicts (r.serial == s) here at), more is)

pub all_reverse : {A : Type 0} (P : A → Type 0) (xs : List A) → AllByRecursion P xs → AllByRecursion P (reverse xs)
all_reverse P [] all = tt
all_reverse P (x ∷ xs) all = subst (AllByRecursion P) (sym (reverse-append (x ∷ []) xs))
    (all_append P (reverse xs) (x ∷ []) (all_reverse P xs all.1) (all.0, tt))

pub all_mapped : {A B : Type 0} (P : B → Type 0) (f : A → B) (xs : List A) → AllByRecursion P (map f xs)
    → AllByRecursion (λ x. P (f x)) xs
all_mapped P f [] all = tt
all_mapped P f (x ∷ xs) all = (all.0, all_mapped P f xs all.1)

pub own_read : (t : Tables) (cs : List Client) (s : ℕ) (user : UserId) → SameClients t cs
    → AllByRecursion (Own s user) t.clients → AllByRecursion (Own s user) cs
own_read t cs s user same all = all_mapped (Own s user) unread cs
    (subst (AllByRecursion (Own s user)) (sym same) (all_map (Own s user) unread t.clients all))

pub focus_read : (cs : List Client) (x : UserId) (w : ℕ) → is_in_focus cs x w ≡ is_in_focus (map unread cs) x w
focus_read [] x w = refl
focus_read (c ∷ cs) x w = ap (λ b. shows x w c || b) (focus_read cs x w)

-- the user whose client gives a command
abbrev pub IsOf : Tables → Caller → Type 0
IsOf t k = (s : ℕ) → k.client ≡ Some s → (c : Client) × (client_at t s ≡ Some c) × (c.user ≡ k.user)

line_of : (t : Tables) (user : UserId) (number : Option ℕ) (o : Option Order)
    → AllByRecursion (λ (g : Given). IsOf t g.caller) (with_order (line_caller t user number) o)
line_of t user number None = tt
line_of t user number (Some c) = ((λ s is. absurd (cc (is))), tt)

keys_of : (t : Tables) (c : Client) (o : Option Order) → client_at t c.serial ≡ Some c
    → AllByRecursion (λ (g : Given). IsOf t g.caller) (with_order (caller_of t c) o)
keys_of t c None at = tt
keys_of t c (Some order) at =
    ((λ s is. (c, (let same : c.serial ≡ s = cc (is) in ap (client_at t) (sym same) ∙ at), refl)), tt)

pub callers : (t : Tables) (event : EventValue) → AllByRecursion (λ (g : Given). IsOf t g.caller) (commands_of t event)
callers t (Command user number bytes) = on (is_known t user) where
  on : (b : Bool)
      → AllByRecursion (λ (g : Given). IsOf t g.caller)
      (if b then with_order (line_caller t user number) (ok_of (read_line bytes)) else [])
  on true = line_of t user number (ok_of (read_line bytes))
  on false = tt
callers t (Keys client bytes) = on (client_at t client) refl where
  on : (o : Option Client) → client_at t client ≡ o
      → AllByRecursion (λ (g : Given). IsOf t g.caller)
      (option_map_or (λ c. with_order (caller_of t c) (order_in (command_item (step_items c bytes)))) o [])
  on None is = tt
  on (Some c) is = keys_of t c (order_in (command_item (step_items c bytes))) (row_at t client c is)
callers t event = tt
