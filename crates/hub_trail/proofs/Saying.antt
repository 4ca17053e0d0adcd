-- The line of a Command that was done is a command, and says all acts on users and rights.
use Rattle.hub_trail.proofs.Vocabulary.{◌≡◌, ℕ, Bool, true, false, List, [], ◌∷◌, Option, Some, None, Result, Ok, Err}
use Rattle.hub_trail.proofs.Vocabulary.{refl, ap, sym, ◌∙◌, subst, map, filter, inl, inr, if◌then◌else◌, ◌&&◌, is_ok}
use Rattle.hub_trail.proofs.Vocabulary.{AllByRecursion, UserId, Act, History, named_by, change_acts}
use Rattle.hub_trail.proofs.Vocabulary.{add_acts, added, group_acts, names_user, same_user-refl, ParseFault, read_line}
use Rattle.hub_trail.proofs.Vocabulary.{Effect, Verdict, EventValue, Attach, Detach, Keys, Command, Open, Closed, Reply}
use Rattle.hub_trail.proofs.Vocabulary.{Window, Client, Tables, known_users, focused, with_layout, is_known, names_of}
use Rattle.hub_trail.proofs.Vocabulary.{new_leader_of, Caller, line_caller, Deed, Answer, entering, is_of, does}
use Rattle.hub_trail.proofs.Vocabulary.{mask_entries, Given, with_order, ok_of, UnknownUser, commanded, line_ruling}
use Rattle.hub_trail.proofs.Vocabulary.{outcome, left_acts, refused, SomeOf, IsStep, both_true, all_append, all_of}
use Rattle.hub_trail.proofs.Vocabulary.{Either, all_left, obeys_of, Did, Obeys, with_clients, kept_of, entry_of, Entry}
use Rattle.hub_trail.proofs.Vocabulary.{changes, items_say}
use Rattle.acl.specs.declared.act.Act.TheVariants as act
use Rattle.acl.specs.Commands.{chosen_leader}
use Rattle.command_lang.specs.declared.command.Command.{Command as Order}
use Rattle.command_lang.specs.declared.command.Command.TheVariants as command
use Rattle.command_lang.specs.declared.command.Users.{Users}
use Rattle.command_lang.specs.declared.command.Users.TheVariants as users
use Rattle.command_lang.proofs.OneReading.{reads-relates}
use Rattle.session.specs.Trace as trace
use Rattle.session.specs.Deeds as deeds
use Rattle.session.proofs.Shapes as shapes
use Rattle.hub_trail.specs.Legal.{IsSaid}
use Rattle.hub_trail.specs.Saying.{is_named, same_leader, says}
use Rattle.hub_trail.proofs.Below.{below}
use Rattle.hub_trail.proofs.Listed.{mask_all}
use Rattle.hub_trail.proofs.Worded.{change_all, add_all, words_all, others_all, bits_all, items_said}

abbrev pub EntrySays : UserId → History → Entry → Type 0
EntrySays owner h e = IsSaid owner h e.event e.reply e.acts

-- ---- a command

module _ (v : Tables) (k : Caller) where
  abbrev Said : Order → Act → Type 0
  Said c a = says v.owner v.acts c a ≡ true

  named : (names : Users)
      → AllByRecursion (λ n. (u : UserId) → n ≡ Some u → is_named v.owner v.acts names u ≡ true) (names_of v names)
  named users.All = others_all v.owner (known_users v)
  named (users.Listed words) = words_all words

  leader_itself : (o : Option UserId) → same_leader o o ≡ true
  leader_itself None = refl
  leader_itself (Some u) = same_user-refl u

  grouped : (word : List ℕ) (leader : Rattle.command_lang.specs.declared.command.Leader.Leader)
      → AllByRecursion (Said (command.Aclgrp word (Some leader))) (group_acts (named_by word) (new_leader_of leader))
  grouped word leader = on (named_by word) refl where
    on : (o : Option UserId) → named_by word ≡ o
        → AllByRecursion (Said (command.Aclgrp word (Some leader))) (group_acts o (new_leader_of leader))
    on None is = tt
    on (Some u) is = (
      both_true (names_user u (named_by word))
          (same_leader (chosen_leader (new_leader_of leader)) (chosen_leader (new_leader_of leader)))
          (ap (names_user u) is ∙ same_user-refl u) (leader_itself (chosen_leader (new_leader_of leader))),
      tt,
    )

  acted : (c : Order) (acts : List Act) → shapes.Acted v k c acts → AllByRecursion (Said c) acts
  acted c _ (shapes.added names all is clear every) =
      subst (λ y. AllByRecursion (Said y) (add_acts (known_users v) (names_of v names) all)) (sym is)
      (add_all (Said (command.Acladd names)) (λ u. is_named v.owner v.acts names u ≡ true) (λ bit value. value ≡ true)
      (λ o. Unit {0}) (λ u n. n)
      (λ u bit o value n b x. both_true (is_named v.owner v.acts names u) value n b) (refl, (refl, (refl, tt)))
      (known_users v) (names_of v names) (named names) all (all_of (λ o. Unit {0}) all (λ o. tt)))
  acted c _ (shapes.changed names bits list all is clear objects) =
      subst (λ y. AllByRecursion (Said y) (change_acts (known_users v) (names_of v names) bits all)) (sym is)
      (change_all (Said (command.Aclchg names bits list)) (λ u. is_named v.owner v.acts names u ≡ true)
      (λ bit value. changes bits bit value ≡ true) (λ o. items_say list o ≡ true) (λ u n. n)
      (λ u bit o value n b x. both_true (is_named v.owner v.acts names u) (changes bits bit value && items_say list o) n
      (both_true (changes bits bit value) (items_say list o) b x))
      (known_users v) (names_of v names) (named names) bits (bits_all bits) all (items_said v list all objects))
  acted c _ (shapes.grouped word leader is clear) = subst
      (λ y. AllByRecursion (Said y) (group_acts (named_by word) (new_leader_of leader))) (sym is) (grouped word leader)
  acted c _ (shapes.masked masks is clear) =
      mask_all (Said c) k.user (λ u b y. refl) (λ kind b y. refl) (mask_entries v masks)
  acted c _ (shapes.locked y mode is at) = (refl, tt)
  acted c _ (shapes.preset mode is) = (refl, tt)

  entering_said : (c : Order) (u : UserId) (o : Option ℕ) → AllByRecursion (Said c) (entering u o)
  entering_said c u None = tt
  entering_said c u (Some n) = (refl, tt)

  parted_said : (c : Order) (ds : List Client) → AllByRecursion (Said c) (map (λ (d : Client). act.Parted d.serial) ds)
  parted_said c [] = tt
  parted_said c (d ∷ ds) = (refl, parted_said c ds)

  closed_said : (c : Order) (ws : List Window) → AllByRecursion (Said c) (map (λ (w : Window). act.Closed w.serial) ws)
  closed_said c [] = tt
  closed_said c (w ∷ ws) = (refl, closed_said c ws)

  removed : (word : List ℕ) (o : Option UserId) → named_by word ≡ o
      → AllByRecursion (Said (command.Acldel word)) (deeds.removes o v).acts
  removed word None is = tt
  removed word (Some u) is =
      all_append (Said (command.Acldel word)) (map (λ (d : Client). act.Parted d.serial) (filter (is_of u) v.clients))
      (act.Gone u ∷ []) (parted_said (command.Acldel word) (filter (is_of u) v.clients))
      (ap (names_user u) is ∙ same_user-refl u, tt)

  deed_said : (c : Order) (d : Deed) → shapes.Shape v k c d → AllByRecursion (Said c) d.acts
  deed_said c d (shapes.acts all none is) = acted c all is
  deed_said c d (shapes.enters_page y l is at shows) = entering_said c y.user (focused (with_layout l y))
  deed_said c d (shapes.shut is) = parted_said c _
  deed_said c d (shapes.removed word is clear) = subst
      (λ y. AllByRecursion (Said y) (deeds.removes (named_by word) v).acts) (sym is) (removed word (named_by word) refl)
  deed_said c d (shapes.detached y is at) = parted_said c _
  deed_said c d (shapes.killed y is at) = closed_said c _
  deed_said c d (shapes.quits is) =
      let ws : List Window = filter (λ (w : Window). true) v.windows in
      let ds : List Client = filter (λ (d : Client). true) (deeds.without_windows ws v.clients) in
      all_append (Said c) (map (λ (w : Window). act.Closed w.serial) ws) (map (λ (d : Client). act.Parted d.serial) ds)
      (closed_said c ws) (parted_said c ds)
  deed_said c d (shapes.lists bytes none tells) = tt
  deed_said c d (shapes.keeps_page y l is at shows keeps) = tt
  deed_said c d (shapes.writes_to y what one at) = tt
  deed_said c d (shapes.opened is) = tt
  deed_said c d (shapes.told bytes is) = tt
  deed_said c d (shapes.fitted y rows columns is at) = tt
  deed_said c d (shapes.titled y bytes is at) = tt
  deed_said c d (shapes.numbered y n is at clear) = tt
  deed_said c d (shapes.typed y bytes is at) = tt

-- ---- every step

deed_of : (P : Deed → Type 0) (a : Answer) (d : Deed) → a ≡ Ok d → Either P a → P d
deed_of P (Ok e) d is p = let same : e ≡ d = cc (is) in subst P same p
deed_of P (Err r) d is p = absurd (cc (is))

did_said : (t : Tables) (e : trace.Entry) (g : Given) → Did t e g
    → AllByRecursion (λ a. says t.owner t.acts g.order a ≡ true) e.acts
did_said t e g d =
    let P : Act → Type 0 = λ a. says t.owner t.acts g.order a ≡ true in
    subst (AllByRecursion P) (sym d.acts)
    (all_append P d.deed.acts (left_acts t.clients d.deed.tables.clients)
    (deed_of (λ y. AllByRecursion P y.acts) (does (with_clients t d.clients) g.caller g.order) d.deed d.does_it
    (shapes.by_shape (λ y. AllByRecursion P y.acts) (with_clients t d.clients) g.caller g.order
    (λ y is. deed_said (with_clients t d.clients) g.caller g.order y is)))
    (all_left P t.clients d.deed.tables.clients (λ u n. refl)))

line_said : (t : Tables) (e : trace.Entry) (k : Caller) (c : Order) (b : Bool) (r : Result Order ParseFault) → r ≡ Ok c
    → SomeOf (Did t e) (if b then with_order k (ok_of r) else [])
    → AllByRecursion (λ a. says t.owner t.acts c a ≡ true) e.acts
line_said t e k c false r is some = absurd some
line_said t e k c true (Err f) is some = absurd some
line_said t e k c true (Ok d) is (inl did) = let same : d ≡ c = cc (is) in
    subst (λ y. AllByRecursion (λ a. says t.owner t.acts y a ≡ true) e.acts) same
    (did_said t e (record { caller = k; order = d }) did)
line_said t e k c true (Ok d) is (inr none) = absurd none

none_said : (t : Tables) (c : Order) (acts : List Act) → acts ≡ []
    → AllByRecursion (λ a. says t.owner t.acts c a ≡ true) acts
none_said t c acts is = subst (AllByRecursion (λ a. says t.owner t.acts c a ≡ true)) (sym is) tt

-- the line of a Command that was done is a command
line_reads : (t : Tables) (k : Caller) (r : Result Order ParseFault)
    → is_ok (commanded t (line_ruling t k r)).reply ≡ true → (c : Order) × (r ≡ Ok c)
line_reads t k (Ok c) ok = (c, refl)
line_reads t k (Err f) ok = absurd (cc (ok))

reads : (t : Tables) (user : UserId) (number : Option ℕ) (bytes : List ℕ)
    → is_ok (outcome t (Command user number bytes)).reply ≡ true → (c : Order) × (read_line bytes ≡ Ok c)
reads t user number bytes = on (is_known t user) where
  on : (b : Bool)
      → is_ok
      (if b then commanded t (line_ruling t (line_caller t user number) (read_line bytes))
      else refused t [] UnknownUser).reply ≡ true
      → (c : Order) × (read_line bytes ≡ Ok c)
  on true ok = line_reads t (line_caller t user number) (read_line bytes) ok
  on false ok = absurd (cc (ok))

pub filed_says : (t : Tables) (event : EventValue) (reply : Reply) (acts : List Act) (vs : List Verdict)
    (effects : List Effect)
    → let e : trace.Entry = record { event = event; reply = reply; acts = acts; verdicts = vs; effects = effects } in
    IsStep t e → AllByRecursion (EntrySays t.owner t.acts) (entry_of (kept_of event) e)
filed_says t (Command user number bytes) (Ok y) acts vs effects step =
    let c : (c : Order) × (read_line bytes ≡ Ok c) = reads t user number bytes (ap is_ok (sym step.reply)) in
    ((c.0, reads-relates bytes c.0 c.1, on c.0 c.1 (obeys_of below t e step refl)), tt) where
      e : trace.Entry
      e = record { event = Command user number bytes; reply = Ok y; acts = acts; verdicts = vs; effects = effects }

      on : (c : Order) → read_line bytes ≡ Ok c → Obeys t e → AllByRecursion (λ a. says t.owner t.acts c a ≡ true) acts
      on c read (inl rests) = none_said t c acts rests.acts
      on c read (inr some) = line_said t e (line_caller t user number) c (is_known t user) (read_line bytes) read some
filed_says t (Command user number bytes) (Err r) acts vs effects step = (tt, tt)
filed_says t (Attach user rows columns) reply acts vs effects step = (tt, tt)
filed_says t (Detach client) reply acts vs effects step = (tt, tt)
filed_says t (Open user rows columns keep title) reply acts vs effects step = (tt, tt)
filed_says t (Closed window) reply acts vs effects step = (tt, tt)
filed_says t (Keys client bytes) reply acts vs effects step = (tt, tt)
filed_says t event reply acts vs effects step = tt
