-- Commands, whether read from a line or bound to keys, give windows numbers below 40.
use Rattle.session_laws.proofs.Vocabulary.{◌≡◌, ℕ, zero, suc, Bool, true, false, List, [], ◌∷◌, ◌++◌, Option, Some}
use Rattle.session_laws.proofs.Vocabulary.{None, Result, Ok, Err, drop, refl, ap, sym, ◌∙◌, ◌==◌, if◌then◌else◌, find}
use Rattle.session_laws.proofs.Vocabulary.{length, AllByRecursion, list_all, option_map, option_map_or, chars, Order}
use Rattle.session_laws.proofs.Vocabulary.{AreSmall, line_small, ParseFault, words, line_command, first_of, faults_of}
use Rattle.session_laws.proofs.Vocabulary.{command_or, Item, typed, bound, line, Rest, nothing, command_key, prompt}
use Rattle.session_laws.proofs.Vocabulary.{bindings, binding, bound_items, key_items, line_items, line_after_key}
use Rattle.session_laws.proofs.Vocabulary.{ends_line, stays, rest_step, items_from, items, Client, items_behind}
use Rattle.session_laws.proofs.Vocabulary.{is_command, command_item, step_items, taken, all_append, and_first}
use Rattle.session_laws.proofs.Vocabulary.{and_second}
use Rattle.command_lang.specs.Relation.{read_line}
pub use Rattle.command_lang.proofs.Numbers.{is_small, small_below}

pub read_small : (text : List ℕ) (c : Order) → read_line text ≡ Ok c → is_small c ≡ true
read_small text c is = on (first_of (faults_of text)) is where
  one : (o : Option Order) → AreSmall o → command_or o ≡ Ok c → is_small c ≡ true
  one None small is = absurd (cc (is))
  one (Some d) small is = (let e : d ≡ c = cc (is) in ap is_small (sym e)) ∙ small

  on : (o : Option ParseFault)
      →
      (elim o as (λ _. Result Order ParseFault)
      [ Some f ↦ Err f | None ↦ command_or (line_command (words (chars text))) ]) ≡ Ok c → is_small c ≡ true
  on (Some f) is = absurd (cc (is))
  on None is = one (line_command (words (chars text))) (line_small (words (chars text))) is

-- ---- keys

abbrev pub is_small_item : Item → Bool
is_small_item (bound c) = is_small c
is_small_item i = true

abbrev AllSmall : List Item → Type 0
AllSmall given = AllByRecursion (λ i. is_small_item i ≡ true) given

found_small : (p : (ℕ × Order) → Bool) (bs : List (ℕ × Order))
    → AllByRecursion (λ (b : ℕ × Order). is_small b.1 ≡ true) bs
    → AllSmall (bound_items (option_map (λ (b : ℕ × Order). b.1) (find p bs)))
found_small p [] all = tt
found_small p (b ∷ bs) all = on (p b) (found_small p bs all.1) where
  on : (is : Bool) → AllSmall (bound_items (option_map (λ (b : ℕ × Order). b.1) (find p bs)))
      → AllSmall (bound_items (option_map (λ (b : ℕ × Order). b.1) (if is then Some b else find p bs)))
  on true rest = (all.0, tt)
  on false rest = rest

all_pass : {A : Type 0} (p : A → Bool) (xs : List A) → list_all p xs ≡ true → AllByRecursion (λ x. p x ≡ true) xs
all_pass p [] is = tt
all_pass p (x ∷ xs) is = (and_first (p x) (list_all p xs) is, all_pass p xs (and_second (p x) (list_all p xs) is))

binding_small : (k : ℕ) → AllSmall (bound_items (binding k))
binding_small k = found_small (λ b. b.0 == k) bindings (all_pass (λ b. is_small b.1) bindings refl)

key_small : (k : ℕ) → AllSmall (key_items k)
key_small k = on (k == 0x61) where
  on : (b : Bool) → AllSmall (if b then typed 1 ∷ [] else bound_items (binding k))
  on true = (refl, tt)
  on false = binding_small k

step_small : (rest : Rest) (k : ℕ) → AllSmall (rest_step rest k).0
step_small nothing k = on (k == 0x01) where
  on : (b : Bool)
      → AllSmall (let s : List Item × Rest = if b then ([], command_key) else (typed k ∷ [], nothing) in s).0
  on true = tt
  on false = (refl, tt)
step_small command_key k = on (k == 0x3A) where
  on : (b : Bool) → AllSmall (let s : List Item × Rest = if b then ([], prompt []) else (key_items k, nothing) in s).0
  on true = tt
  on false = key_small k
step_small (prompt bytes) k = on (stays k) where
  ends : (b : Bool) → AllSmall (if b then line bytes ∷ [] else [])
  ends true = (refl, tt)
  ends false = tt

  on : (b : Bool)
      → AllSmall
      (let s : List Item
      × Rest = if b then ([], prompt (line_after_key bytes k)) else (line_items bytes k, nothing) in s).0
  on true = tt
  on false = ends (ends_line k)

items_small : (rest : Rest) (keys : List ℕ) → AllSmall (items_from rest keys).0
unfolding items_from
items_small rest [] = tt
items_small rest (k ∷ keys) = all_append (λ i. is_small_item i ≡ true) (rest_step rest k).0
    (items_from (rest_step rest k).1 keys).0 (step_small rest k) (items_small (rest_step rest k).1 keys)

drop_all : {A : Type 0} (P : A → Type 0) (n : ℕ) (xs : List A) → AllByRecursion P xs → AllByRecursion P (drop n xs)
drop_all P zero xs all = all
drop_all P (suc n) [] all = tt
drop_all P (suc n) (x ∷ xs) all = drop_all P n xs all.1

abbrev pub is_small_order : Option Item → Bool
is_small_order o = option_map_or is_small_item o true

command_small_in : (given : List Item) → AllSmall given → is_small_order (command_item given) ≡ true
command_small_in [] all = refl
command_small_in (i ∷ given) all = on (is_command i) (command_small_in given all.1) where
  on : (b : Bool) → is_small_order (command_item given) ≡ true
      → is_small_order (if b then Some i else command_item given) ≡ true
  on true rest = all.0
  on false rest = rest

-- the command to which a step's keys are bound
pub keys_small : (c : Client) (bytes : List ℕ) → is_small_order (command_item (step_items c bytes)) ≡ true
keys_small c bytes =
    let keys : List ℕ = Rattle.std.proofs.Common.take (taken c.keys bytes) bytes in
    command_small_in (items_behind c.keys keys)
    (drop_all (λ i. is_small_item i ≡ true) (length (items c.keys).0) (items (c.keys ++ keys)).0
    (items_small nothing (c.keys ++ keys)))
