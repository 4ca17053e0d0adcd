-- The mode changes only by granted commands, and so do other users' clients part.
use Rattle.session_laws.proofs.Vocabulary.{◌≡◌, ℕ, Bool, true, false, not, List, [], ◌∷◌, ◌++◌, Some, refl, ap, sym}
use Rattle.session_laws.proofs.Vocabulary.{◌∙◌, subst, inl, inr, map, filter, reverse, if◌then◌else◌, ◌==◌, ◌||◌, ◌⊎◌}
use Rattle.session_laws.proofs.Vocabulary.{is_some, AllByRecursion, list_any, reverse-append, UserId, Act, History}
use Rattle.session_laws.proofs.Vocabulary.{followed_by, clients_of, Order, name_of, left_acts, Given, commands_of}
use Rattle.session_laws.proofs.Vocabulary.{has_x, SomeOf, IsStep, after, AreFit, ActsAgree, Tables, Client, client_at}
use Rattle.session_laws.proofs.Vocabulary.{row_of, EventValue, Detach, Entry, some_or, some_elim, some_weaken}
use Rattle.session_laws.proofs.Vocabulary.{TablesStayFit, equal, all_weaken, all_append, IsGranted, sets_mode}
use Rattle.session_laws.proofs.Vocabulary.{ModeIsGated, parts_others, DetachesItself, IsParted}
use Rattle.acl.specs.declared.act.Act.TheVariants as act
use Rattle.command_lang.specs.declared.command.Command.TheVariants as command
use Rattle.session_laws.proofs.Passing.{passed_has_x}
use Rattle.session_laws.proofs.CommandActs.{IsActOf, is_mode}
use Rattle.session_laws.proofs.Steps.{Did}
use Rattle.session_laws.proofs.Events.{IsActIn, all_left}
use Rattle.session_laws.proofs.Gating.{Below, Steps, steps_of, row_did}
use Rattle.session_laws.proofs.Holding.{KeepsOwner, kept}

pub did_x : (t : Tables) (e : Entry) (g : Given) → Did t e g → has_x t g ≡ true
did_x t e g d = passed_has_x t g.caller g.order d.passes

-- ---- the mode

mode_name : (c : Order) → is_mode c ≡ true → sets_mode (name_of c) ≡ true
mode_name (command.Multiuser is_on) is = refl
mode_name c is = absurd (cc (is))

did_mode : (t : Tables) (e : Entry) (g : Given) → Did t e g
    → ((after t e).is_multiuser ≡ t.is_multiuser) ⊎ IsGranted t sets_mode g
did_mode t e g d = on (is_mode g.order) refl where
  on : (b : Bool) → is_mode g.order ≡ b → ((after t e).is_multiuser ≡ t.is_multiuser) ⊎ IsGranted t sets_mode g
  on true is = inr (record { is_such = mode_name g.order is; granted = did_x t e g d })
  on false is = inl (d.tables.multiuser ∙ (row_did t e g d).mode is)

pub mode_gated : Below → (t : Tables) (e : Entry) → IsStep t e → ModeIsGated t e
mode_gated laws t e step = on (steps_of laws t e step) where
  on : Steps t e → ModeIsGated t e
  on (inl p) = inl p.mode
  on (inr (inl rests)) = inl rests.tables.multiuser
  on (inr (inr some)) = some_or (Did t e) (IsGranted t sets_mode) ((after t e).is_multiuser ≡ t.is_multiuser)
      (commands_of t e.event) (did_mode t e) some

-- ---- which clients are attached, by the acts

abbrev pub parts_it : ℕ → Act → Bool
parts_it client (act.Parted c) = c == client
parts_it client _ = false

abbrev pub among : ℕ → List (ℕ × UserId) → Bool
among client ps = list_any (λ (p : ℕ × UserId). p.0 == client) ps

among_filter : (client gone : ℕ) (ps : List (ℕ × UserId)) → (gone == client) ≡ false → among client ps ≡ true
    → among client (filter (λ (p : ℕ × UserId). not (p.0 == gone)) ps) ≡ true
among_filter client gone [] other is = absurd (cc (is))
among_filter client gone (p ∷ ps) other is = on (p.0 == gone) refl (p.0 == client) refl is
    (among_filter client gone ps other) where
      on : (a : Bool) → (p.0 == gone) ≡ a → (b : Bool) → (p.0 == client) ≡ b → (b || among client ps) ≡ true
          → (among client ps ≡ true → among client (filter (λ (p : ℕ × UserId). not (p.0 == gone)) ps) ≡ true)
          → among client
          (if not a then p ∷ filter (λ (p : ℕ × UserId). not (p.0 == gone)) ps else filter
          (λ (p : ℕ × UserId). not (p.0 == gone)) ps) ≡ true
      on true at true here is more = absurd
          (let same : p.0 ≡ gone = equal p.0 gone at in let f : (gone == client) ≡ true = ap (λ n. n == client)
          (sym same)
          ∙ here in cc (f, other))
      on true at false here is more = more is
      on false at true here is more = ap (λ b. b || among client (filter (λ (p : ℕ × UserId). not (p.0 == gone)) ps))
          here
      on false at false here is more = ap (λ b. b || among client (filter (λ (p : ℕ × UserId). not (p.0 == gone)) ps))
          here
          ∙ more is

or_second : (a b : Bool) → b ≡ true → (a || b) ≡ true
or_second true b is = refl
or_second false b is = is

attached_one : (client : ℕ) (a : Act) (h : History) → parts_it client a ≡ false → among client (clients_of h) ≡ true
    → among client (clients_of (a ∷ h)) ≡ true
attached_one client (act.Parted c) h not is = among_filter client c (clients_of h) not is
attached_one client (act.Attached c user) h not is = or_second (c == client) (among client (clients_of h)) is
attached_one client a h not is = is

attached_all : (client : ℕ) (acts : List Act) (h : History) → AllByRecursion (λ a. parts_it client a ≡ false) acts
    → among client (clients_of h) ≡ true → among client (clients_of (followed_by h acts)) ≡ true
attached_all client [] h none is = is
attached_all client (a ∷ acts) h none is = attached_all client acts (a ∷ h) none.1 (attached_one client a h none.0 is)

-- ---- which clients are attached, by the tables

any_append : {A : Type 0} (p : A → Bool) (xs ys : List A) → list_any p (xs ++ ys) ≡ (list_any p xs || list_any p ys)
any_append p [] ys = refl
any_append p (x ∷ xs) ys = on (p x) (any_append p xs ys) where
  on : (b : Bool) → list_any p (xs ++ ys) ≡ (list_any p xs || list_any p ys)
      → (b || list_any p (xs ++ ys)) ≡ ((b || list_any p xs) || list_any p ys)
  on true same = refl
  on false same = same

or_swap : (a b : Bool) → (b || (a || false)) ≡ (a || b)
or_swap true true = refl
or_swap true false = refl
or_swap false true = refl
or_swap false false = refl

any_reverse : {A : Type 0} (p : A → Bool) (xs : List A) → list_any p (reverse xs) ≡ list_any p xs
any_reverse p [] = refl
any_reverse p (x ∷ xs) = ap (list_any p) (reverse-append (x ∷ []) xs) ∙ any_append p (reverse xs) (x ∷ [])
    ∙ or_swap (p x) (list_any p (reverse xs)) ∙ ap (λ b. p x || b) (any_reverse p xs)

row_among : (cs : List Client) (client : ℕ)
    → is_some (row_of (λ (c : Client). c.serial) cs client) ≡ among client (map (λ (c : Client). (c.serial, c.user)) cs)
row_among [] client = refl
row_among (c ∷ cs) client = on (c.serial == client) (row_among cs client) where
  on : (b : Bool)
      → is_some (row_of (λ (c : Client). c.serial) cs client) ≡ among client
      (map (λ (c : Client). (c.serial, c.user)) cs)
      → is_some (if b then Some c else row_of (λ (c : Client). c.serial) cs client) ≡
      (b || among client (map (λ (c : Client). (c.serial, c.user)) cs))
  on true same = refl
  on false same = same

attached_is : (t : Tables) → ActsAgree t → (client : ℕ)
    → is_some (client_at t client) ≡ among client (clients_of t.acts)
attached_is t a client =
    row_among t.clients client
    ∙ sym (any_reverse (λ (p : ℕ × UserId). p.0 == client) (map (λ (c : Client). (c.serial, c.user)) t.clients))
    ∙ ap (among client) (sym a.clients_are)

pub stays_attached : (t : Tables) (e : Entry) → ActsAgree t → ActsAgree (after t e) → KeepsOwner t e → (client : ℕ)
    → is_some (client_at t client) ≡ true → AllByRecursion (λ a. parts_it client a ≡ false) e.acts
    → is_some (client_at (after t e) client) ≡ true
stays_attached t e before later k client is none =
    attached_is (after t e) later client ∙ ap (λ h. among client (clients_of h)) k.acts
    ∙ attached_all client e.acts t.acts none (sym (attached_is t before client) ∙ is)

-- ---- which acts part a client

abbrev Why : Tables → ℕ → Given → Type 0
Why t client g = DetachesItself t client g ⊎ IsGranted t parts_others g

-- each element of a list passes the test, or one of them doesn't
search_act : (p : Act → Bool) (acts : List Act) → AllByRecursion (λ a. p a ≡ false) acts ⊎ SomeOf (λ a. p a ≡ true) acts
search_act p [] = inl tt
search_act p (a ∷ acts) = on (p a) refl (search_act p acts) where
  on : (b : Bool) → p a ≡ b → AllByRecursion (λ a. p a ≡ false) acts ⊎ SomeOf (λ a. p a ≡ true) acts
      → AllByRecursion (λ a. p a ≡ false) (a ∷ acts) ⊎ SomeOf (λ a. p a ≡ true) (a ∷ acts)
  on true is rest = inr (inl is)
  on false is (inl none) = inl (is, none)
  on false is (inr some) = inr (inr some)

row_parts : (t : Tables) (client : ℕ) (g : Given) → has_x t g ≡ true → (c : Order) → g.order ≡ c → (a : Act)
    → IsActOf g.caller c a → parts_it client a ≡ true → Why t client g
row_parts t client g has (command.Detach) is (act.Parted d) of parts =
    inl (record { is_detach = ap name_of is; own = of ∙ ap Some (equal d client parts) })
row_parts t client g has (command.Acldel word) is (act.Parted d) of parts = inr
    (record { is_such = ap (λ c. parts_others (name_of c)) is; granted = has })
row_parts t client g has (command.Multiuser is_on) is (act.Parted d) of parts = inr
    (record { is_such = ap (λ c. parts_others (name_of c)) is; granted = has })
row_parts t client g has command.Quit is (act.Parted d) of parts = inr
    (record { is_such = ap (λ c. parts_others (name_of c)) is; granted = has })
row_parts t client g has c is (act.Parted d) of parts = absurd of
row_parts t client g has c is a of parts = absurd (cc (parts))

did_parts : (t : Tables) (e : Entry) (g : Given) (client : ℕ) → Did t e g
    → SomeOf (λ a. parts_it client a ≡ true) e.acts → Why t client g
did_parts t e g client d some =
    let left : List Act = left_acts t.clients d.deed.tables.clients in
    let of : Act → Type 0 = λ a. parts_it client a ≡ true → Why t client g in
    some_elim (λ a. parts_it client a ≡ true) of (Why t client g) e.acts (λ a parts on. on parts) some
    (subst (AllByRecursion of) (sym d.acts)
    (all_append of d.deed.acts left
    (all_weaken (IsActOf g.caller g.order) of d.deed.acts
    (λ a is parts. row_parts t client g (did_x t e g d) g.order refl a is parts) (row_did t e g d).acts)
    (all_left of t.clients d.deed.tables.clients (λ user w parts. absurd (cc (parts))))))

plain_parts : (t : Tables) (client : ℕ) (event : EventValue) (a : Act) → IsActIn t event a → parts_it client a ≡ true
    → event ≡ Detach client
plain_parts t client (Detach c) (act.Parted d) is parts = ap Detach (sym is ∙ equal d client parts)
plain_parts t client event (act.Parted d) is parts = absurd is
plain_parts t client event a is parts = absurd (cc (parts))

pub clients_stay : Below → TablesStayFit → (t : Tables) (e : Entry) → AreFit t → IsStep t e → (client : ℕ)
    → is_some (client_at t client) ≡ true
    → (is_some (client_at (after t e) client) ≡ true) ⊎ IsParted t e client
clients_stay laws fits t e fit step client is = on (search_act (parts_it client) e.acts) (steps_of laws t e step) where
  on : AllByRecursion (λ a. parts_it client a ≡ false) e.acts ⊎ SomeOf (λ a. parts_it client a ≡ true) e.acts
      → Steps t e → (is_some (client_at (after t e) client) ≡ true) ⊎ IsParted t e client
  on (inl none) s = inl (stays_attached t e fit.agree (fits t e fit).agree (kept laws t e step) client is none)
  on (inr some) (inl p) = inr
      (inl
      (some_elim (λ a. parts_it client a ≡ true) (IsActIn t e.event) (e.event ≡ Detach client) e.acts
      (λ a parts is. plain_parts t client e.event a is parts) some p.acts_in))
  on (inr some) (inr (inl rests)) = absurd (subst (SomeOf (λ a. parts_it client a ≡ true)) rests.acts some)
  on (inr some) (inr (inr did)) = inr
      (inr (some_weaken (Did t e) (Why t client) (commands_of t e.event) (λ g d. did_parts t e g client d some) did))
