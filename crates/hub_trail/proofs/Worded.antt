-- The words of a line name the users, bits and objects of the acts that they give.
use Rattle.hub_trail.proofs.Vocabulary.{◌≡◌, ℕ, Bool, true, false, List, [], ◌∷◌, ◌++◌, Option, Some, None, refl, ap}
use Rattle.hub_trail.proofs.Vocabulary.{◌∙◌, subst, map, filter, if◌then◌else◌, ◌&&◌, nat_eq, not, AllByRecursion}
use Rattle.hub_trail.proofs.Vocabulary.{list_any, option_map, option_map_or, option_or, option_and_then, UserId, Bit}
use Rattle.hub_trail.proofs.Vocabulary.{Read, Write, Execute, BitChange, Act, Object, CommandName, among, same_user}
use Rattle.hub_trail.proofs.Vocabulary.{same_bit, named_by, change_acts, name_acts, user_acts, sets_on, with_name}
use Rattle.hub_trail.proofs.Vocabulary.{add_acts, known_acts, new_acts, names_sets, name_sets, added, names_user}
use Rattle.hub_trail.proofs.Vocabulary.{same_user-refl, command_named, all_names, Command, Window, Tables, is_wide}
use Rattle.hub_trail.proofs.Vocabulary.{wide_objects, item_objects, objects_of, every_window, every_command}
use Rattle.hub_trail.proofs.Vocabulary.{window_named, itself, both_true, all_weaken, all_append, all_map, all_of}
use Rattle.hub_trail.proofs.Vocabulary.{all_passed, changes, items_say}
use Prim.Native.Char.{code}
use Rattle.acl.specs.declared.act.Act.TheVariants as act
use Rattle.acl.specs.declared.act.Object.TheVariants as object
use Rattle.acl.specs.Same.{same_command}
use Rattle.acl.specs.Commands as acl
use Rattle.command_lang.specs.declared.command.Command.TheVariants as command
use Rattle.command_lang.specs.declared.command.Users.TheVariants as users
use Rattle.session.proofs.GuestsLeaving.{or_early, or_late}
use Rattle.hub_trail.specs.Saying.{same_value, item_says}

-- whether an item names the object, if that is a command
abbrev item_names : List ℕ → Object → Bool
item_names item (object.Window w) = true
item_names item (object.Command c) = item_says c item

-- ---- acts of names, bits and objects

module _ (P : Act → Type 0) (N : UserId → Type 0) (B : Bit → Bool → Type 0) (O : Object → Type 0)
    (known : (u : UserId) → N u → P (act.Known u))
    (set : (u : UserId) (bit : Bit) (o : Object) (value : Bool) → N u → B bit value → O o
    → P (act.Set u bit o value)) where
  abbrev pub Names : List (Option UserId) → Type 0
  Names names = AllByRecursion (λ n. (u : UserId) → n ≡ Some u → N u) names

  abbrev pub Bits : List BitChange → Type 0
  Bits bits = AllByRecursion (λ (c : BitChange). B c.bit c.value) bits

  on_all : (u : UserId) → N u → (bits : List BitChange) → Bits bits → (o : Object) → O o
      → AllByRecursion P (sets_on u bits o)
  on_all u n [] b o is = tt
  on_all u n (c ∷ bits) b o is = (set u c.bit o c.value n b.0 is, on_all u n bits b.1 o is)

  sets_all : (u : UserId) → N u → (bits : List BitChange) → Bits bits → (os : List Object) → AllByRecursion O os
      → AllByRecursion P (acl.sets u bits os)
  sets_all u n bits b [] is = tt
  sets_all u n bits b (o ∷ os) is =
      all_append P (sets_on u bits o) (acl.sets u bits os) (on_all u n bits b o is.0) (sets_all u n bits b os is.1)

  user_all : (k : Bool) (u : UserId) → N u → (bits : List BitChange) → Bits bits → (os : List Object)
      → AllByRecursion O os → AllByRecursion P (user_acts k u bits os)
  user_all true u n bits b os is = sets_all u n bits b os is
  user_all false u n bits b os is = (known u n, sets_all u n bits b os is)

  name_all : (us : List UserId) (name : Option UserId) → ((u : UserId) → name ≡ Some u → N u) → (bits : List BitChange)
      → Bits bits → (os : List Object) → AllByRecursion O os → AllByRecursion P (name_acts us name bits os)
  name_all us None n bits b os is = tt
  name_all us (Some u) n bits b os is = user_all (among us u) u (n u refl) bits b os is

  pub change_all : (us : List UserId) (names : List (Option UserId)) → Names names → (bits : List BitChange) → Bits bits
      → (os : List Object) → AllByRecursion O os → AllByRecursion P (change_acts us names bits os)
  change_all us [] n bits b os is = tt
  change_all us (name ∷ names) n bits b os is =
      all_append P (name_acts us name bits os) (change_acts (with_name us name) names bits os)
      (name_all us name n.0 bits b os is) (change_all (with_name us name) names n.1 bits b os is)

  new_all : (us : List UserId) (name : Option UserId) → ((u : UserId) → name ≡ Some u → N u)
      → AllByRecursion P (new_acts us name)
  new_all us None n = tt
  new_all us (Some u) n = on (among us u) where
    on : (b : Bool) → AllByRecursion P (if b then [] else act.Known u ∷ [])
    on true = tt
    on false = (known u (n u refl), tt)

  known_all : (us : List UserId) (names : List (Option UserId)) → Names names → AllByRecursion P (known_acts us names)
  known_all us [] n = tt
  known_all us (name ∷ names) n = all_append P (new_acts us name) (known_acts (with_name us name) names)
      (new_all us name n.0) (known_all (with_name us name) names n.1)

  name_sets_all : (bits : List BitChange) → Bits bits → (os : List Object) → AllByRecursion O os
      → (name : Option UserId) → ((u : UserId) → name ≡ Some u → N u) → AllByRecursion P (name_sets bits os name)
  name_sets_all bits b os is None n = tt
  name_sets_all bits b os is (Some u) n = sets_all u (n u refl) bits b os is

  names_sets_all : Bits added → (os : List Object) → AllByRecursion O os → (names : List (Option UserId)) → Names names
      → AllByRecursion P (names_sets os names)
  names_sets_all b os is [] n = tt
  names_sets_all b os is (name ∷ names) n = all_append P (name_sets added os name) (names_sets os names)
      (name_sets_all added b os is name n.0) (names_sets_all b os is names n.1)

  pub add_all : Bits added → (us : List UserId) (names : List (Option UserId)) → Names names → (os : List Object)
      → AllByRecursion O os → AllByRecursion P (add_acts us names os)
  add_all b us names n os is = all_append P (known_acts us names) (names_sets os names) (known_all us names n)
      (names_sets_all b os is names n)

-- ---- what is on lists is said

-- words that name users
pub words_all : (words : List (List ℕ))
    → AllByRecursion (λ n. (u : UserId) → n ≡ Some u → list_any (λ w. names_user u (named_by w)) words ≡ true)
    (map named_by words)
words_all [] = tt
words_all (w ∷ words) = (
  (λ u is. or_early (names_user u (named_by w)) (list_any (λ x. names_user u (named_by x)) words)
      (ap (names_user u) is ∙ same_user-refl u)),
  all_weaken (λ n. (u : UserId) → n ≡ Some u → list_any (λ x. names_user u (named_by x)) words ≡ true)
      (λ n. (u : UserId) → n ≡ Some u → list_any (λ x. names_user u (named_by x)) (w ∷ words) ≡ true)
      (map named_by words)
      (λ n on u is. or_late (names_user u (named_by w)) (list_any (λ x. names_user u (named_by x)) words) (on u is))
      (words_all words),
)

-- the known users without the owner
each_among : (us : List UserId) → AllByRecursion (λ u. among us u ≡ true) us
each_among [] = tt
each_among (u ∷ us) = (
  or_early (same_user u u) (among us u) (same_user-refl u),
  all_weaken (λ v. among us v ≡ true) (λ v. among (u ∷ us) v ≡ true) us
      (λ v on. or_late (same_user v u) (among us v) on) (each_among us),
)

pub others_all : (owner : UserId) (us : List UserId)
    → AllByRecursion (λ n. (u : UserId) → n ≡ Some u → (not (same_user owner u) && among us u) ≡ true)
    (map (λ u. Some u) (filter (λ u. not (same_user owner u)) us))
others_all owner us =
    let P : UserId → Type 0 = λ u. (not (same_user owner u) && among us u) ≡ true in
    all_map (λ n. (u : UserId) → n ≡ Some u → P u) (λ u. Some u) (filter (λ u. not (same_user owner u)) us)
    (all_weaken P (λ v. (u : UserId) → Some v ≡ Some u → P u) (filter (λ u. not (same_user owner u)) us)
    (λ v on u is. let same : v ≡ u = cc (is) in subst P same on)
    (all_passed P (λ u. not (same_user owner u)) us
    (all_weaken (λ v. among us v ≡ true) (λ v. not (same_user owner v) ≡ true → P v) us
    (λ v there other. both_true (not (same_user owner v)) (among us v) other there) (each_among us))))

bit_itself : (b : Bit) → same_bit b b ≡ true
bit_itself Read = refl
bit_itself Write = refl
bit_itself Execute = refl

value_itself : (b : Bool) → same_value b b ≡ true
value_itself true = refl
value_itself false = refl

pub bits_all : (bits : List BitChange) → AllByRecursion (λ (c : BitChange). changes bits c.bit c.value ≡ true) bits
bits_all [] = tt
bits_all (d ∷ bits) = (
  or_early (same_bit d.bit d.bit && same_value d.value d.value) (changes bits d.bit d.value)
      (both_true (same_bit d.bit d.bit) (same_value d.value d.value) (bit_itself d.bit) (value_itself d.value)),
  all_weaken (λ (c : BitChange). changes bits c.bit c.value ≡ true)
      (λ (c : BitChange). changes (d ∷ bits) c.bit c.value ≡ true) bits
      (λ c on. or_late (same_bit d.bit c.bit && same_value d.value c.value) (changes bits c.bit c.value) on)
      (bits_all bits),
)

windows_said : (item : List ℕ) (ws : List Window)
    → AllByRecursion (λ o. item_names item o ≡ true) (map (λ (w : Window). object.Window w.serial) ws)
windows_said item [] = tt
windows_said item (w ∷ ws) = (refl, windows_said item ws)

wide_says : (item : List ℕ) (c : CommandName) → (b : Bool) → is_wide item ≡ b → b ≡ true
    → list_any (nat_eq (code "?")) item ≡ true → item_says c item ≡ true
wide_says item c true wide is any = ap
    (λ b. if b then list_any (nat_eq (code "?")) item else option_map_or (λ d. same_command d c)
    (command_named item) false) wide ∙ any
wide_says item c false wide is any = absurd (cc (is))

wide_said : (t : Tables) (item : List ℕ) → is_wide item ≡ true
    → AllByRecursion (λ o. item_names item o ≡ true) (wide_objects t item)
wide_said t item wide =
    all_append Said (if list_any (nat_eq (code "#")) item then every_window t else [])
    (if list_any (nat_eq (code "?")) item then every_command else []) (windows (list_any (nat_eq (code "#")) item))
    (commands (list_any (nat_eq (code "?")) item) refl) where
      Said : Object → Type 0
      Said o = item_names item o ≡ true

      windows : (b : Bool) → AllByRecursion Said (if b then every_window t else [])
      windows true = windows_said item t.windows
      windows false = tt

      commands : (b : Bool) → list_any (nat_eq (code "?")) item ≡ b
          → AllByRecursion Said (if b then every_command else [])
      commands true is = all_map Said object.Command all_names
          (all_of (λ c. Said (object.Command c)) all_names (λ c. wide_says item c (is_wide item) refl wide is))
      commands false is = tt

one_said : (t : Tables) (item : List ℕ) (wide : is_wide item ≡ false) (o : Option CommandName) → command_named item ≡ o
    → (os : List Object)
    → option_or (option_map (λ c. object.Command c ∷ []) o)
    (option_map (λ (w : Window). object.Window w.serial ∷ []) (window_named t.windows item)) ≡ Some os
    → AllByRecursion (λ x. item_names item x ≡ true) os
one_said t item wide (Some d) named os is =
    let same : object.Command d ∷ [] ≡ os = cc (is) in
    subst (AllByRecursion (λ x. item_names item x ≡ true)) same (
      (ap (λ b. if b then list_any (nat_eq (code "?")) item else option_map_or (λ c. same_command c d)
          (command_named item) false) wide ∙ ap (λ o. option_map_or (λ c. same_command c d) o false) named
          ∙ itself (Rattle.acl.specs.Same.index_of_command d)),
      tt,
    )
one_said t item wide None named os is = on (window_named t.windows item) is where
  on : (o : Option Window) → option_map (λ (w : Window). object.Window w.serial ∷ []) o ≡ Some os
      → AllByRecursion (λ x. item_names item x ≡ true) os
  on None is = absurd (cc (is))
  on (Some w) is = let same : object.Window w.serial ∷ [] ≡ os = cc (is) in
      subst (AllByRecursion (λ x. item_names item x ≡ true)) same (refl, tt)

item_said : (t : Tables) (item : List ℕ) (os : List Object) → item_objects t item ≡ Some os
    → AllByRecursion (λ o. item_names item o ≡ true) os
item_said t item os is = on (is_wide item) refl is where
  on : (b : Bool) → is_wide item ≡ b
      → (if b then Some (wide_objects t item) else option_or
      (option_map (λ c. object.Command c ∷ []) (command_named item))
      (option_map (λ (w : Window). object.Window w.serial ∷ []) (window_named t.windows item))) ≡ Some os
      → AllByRecursion (λ o. item_names item o ≡ true) os
  on true wide is = let same : wide_objects t item ≡ os = cc (is) in
      subst (AllByRecursion (λ o. item_names item o ≡ true)) same (wide_said t item wide)
  on false wide is = one_said t item wide (command_named item) refl os is

first_says : (item : List ℕ) (items : List (List ℕ)) (o : Object) → item_names item o ≡ true
    → items_say (item ∷ items) o ≡ true
first_says item items (object.Window w) is = refl
first_says item items (object.Command c) is = or_early (item_says c item) (list_any (item_says c) items) is

later_says : (item : List ℕ) (items : List (List ℕ)) (o : Object) → items_say items o ≡ true
    → items_say (item ∷ items) o ≡ true
later_says item items (object.Window w) is = refl
later_says item items (object.Command c) is = or_late (item_says c item) (list_any (item_says c) items) is

pub items_said : (t : Tables) (items : List (List ℕ)) (os : List Object) → objects_of t items ≡ Some os
    → AllByRecursion (λ o. items_say items o ≡ true) os
items_said t [] os is = let same : (let none : List Object = [] in none) ≡ os = cc (is) in
    subst (AllByRecursion (λ o. items_say [] o ≡ true)) same tt
items_said t (item ∷ items) os is =
    on (item_objects t item) refl (objects_of t items) refl is (items_said t items) where
      on : (a : Option (List Object)) → item_objects t item ≡ a → (b : Option (List Object)) → objects_of t items ≡ b
          → option_and_then (λ objects. option_map (λ more. objects ++ more) b) a ≡ Some os
          → ((xs : List Object) → objects_of t items ≡ Some xs → AllByRecursion (λ o. items_say items o ≡ true) xs)
          → AllByRecursion (λ o. items_say (item ∷ items) o ≡ true) os
      on None at b rest is later = absurd (cc (is))
      on (Some xs) at None rest is later = absurd (cc (is))
      on (Some xs) at (Some ys) rest is later =
          let same : xs ++ ys ≡ os = cc (is) in
          subst (AllByRecursion (λ o. items_say (item ∷ items) o ≡ true)) same
          (all_append (λ o. items_say (item ∷ items) o ≡ true) xs ys
          (all_weaken (λ o. item_names item o ≡ true) (λ o. items_say (item ∷ items) o ≡ true) xs
          (λ o s. first_says item items o s) (item_said t item xs at))
          (all_weaken (λ o. items_say items o ≡ true) (λ o. items_say (item ∷ items) o ≡ true) ys
          (λ o s. later_says item items o s) (later ys rest)))
