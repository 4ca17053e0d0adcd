-- Tests of lists, and the lines of commands.
use Rattle.hub_check.proofs.Vocabulary.{◌≡◌, ◌∙◌, ◌∷◌, ◌&&◌, ◌||◌, [], ℕ, List, Bool, true, not, Some, Ok, Err, refl}
use Rattle.hub_check.proofs.Vocabulary.{ap, sym, map, filter, drop, suc, zero, ◌↔◌, AllByRecursion, list_all}
use Rattle.hub_check.proofs.Vocabulary.{false≢true, Act, UserId, same_user, Command, has_act_of}
use Rattle.std.proofs.Common.{false, if◌then◌else◌, slice_get}
use Rattle.std.specs.Prelude.{Result}
use Rattle.std.specs.Option.{option_map_or}
use Rattle.command_lang.specs.Relation.{Relates}
use Rattle.command_lang.proofs.OneReading.{relates-reads}
use Rattle.command_lang.specs.declared.fault.ParseFault.{ParseFault}

-- ---- tests of lists

pub all_holds : {X : Type 0} (p : X → Bool) (xs : List X) → list_all p xs ≡ true → AllByRecursion (λ x. p x ≡ true) xs
all_holds p [] e = tt
all_holds p (x ∷ xs) e = at (p x) refl e (all_holds p xs)
  where
    at : (b : Bool) → p x ≡ b → (b && list_all p xs) ≡ true
        → (list_all p xs ≡ true → AllByRecursion (λ y. p y ≡ true) xs) → (p x ≡ true)
        × AllByRecursion (λ y. p y ≡ true) xs
    at true is e below = (is, below e)
    at false is e below = absurd (false≢true e)

pub holds_all : {X : Type 0} (p : X → Bool) (xs : List X) → AllByRecursion (λ x. p x ≡ true) xs → list_all p xs ≡ true
holds_all p [] a = refl
holds_all p (x ∷ xs) a = ap (λ b. b && list_all p xs) a.0 ∙ holds_all p xs a.1

pub all_tells : {X : Type 0} (p : X → Bool) (xs : List X) (b : Bool) → b ≡ list_all p xs
    → (b ≡ true) ↔ AllByRecursion (λ x. p x ≡ true) xs
all_tells p xs b e = (λ is. all_holds p xs (sym e ∙ is), λ a. e ∙ holds_all p xs a)

pub all_mapped : {X Y : Type 0} (f : X → Y) (q : Y → Bool) (xs : List X) (b : Bool) → b ≡ list_all (λ x. q (f x)) xs
    → (b ≡ true) ↔ AllByRecursion (λ y. q y ≡ true) (map f xs)
all_mapped f q xs b e = all_tells q (map f xs) b (e ∙ same xs)
  where
    step : (x : _) (l m : Bool) → l ≡ m → (q (f x) && l) ≡ (q (f x) && m)
    step x l m h = ap (λ c. q (f x) && c) h

    same : (ys : List _) → list_all (λ x. q (f x)) ys ≡ list_all q (map f ys)
    same [] = refl
    same (y ∷ ys) = step y (list_all (λ x. q (f x)) ys) (list_all q (map f ys)) (same ys)

-- users but the owner
pub others_have : (owner : UserId) (acts : List Act) (users : List UserId)
    → list_all (λ u. same_user owner u || has_act_of acts (Some u)) users
    ≡ list_all (λ name. has_act_of acts name) (map (λ u. Some u) (filter (λ u. not (same_user owner u)) users))
others_have owner acts [] = refl
others_have owner acts (u ∷ users) = at (same_user owner u) (others_have owner acts users)
  where
    at : (b : Bool)
        → list_all (λ v. same_user owner v || has_act_of acts (Some v)) users ≡ list_all (λ name. has_act_of acts name)
        (map (λ v. Some v) (filter (λ v. not (same_user owner v)) users))
        → ((b || has_act_of acts (Some u)) && list_all (λ v. same_user owner v || has_act_of acts (Some v)) users)
        ≡ list_all (λ name. has_act_of acts name)
        (map (λ v. Some v)
        (if not b then u ∷ filter (λ v. not (same_user owner v)) users else filter (λ v. not (same_user owner v))
        users))
    at true below = below
    at false below = ap (λ l. has_act_of acts (Some u) && l) below

-- one element more of what is left
pub all_next : {X : Type 0} (p : X → Bool) (xs rest : List X) (x : X) (whole : Bool) → x ∷ rest ≡ xs
    → whole ≡ list_all p xs → p x ≡ true → whole ≡ list_all p rest
all_next p xs rest x whole next e is = e ∙ (ap (list_all p) (sym next) ∙ ap (λ b. b && list_all p rest) is)

pub all_fails : {X : Type 0} (p : X → Bool) (xs rest : List X) (x : X) (whole : Bool) → x ∷ rest ≡ xs
    → whole ≡ list_all p xs → p x ≡ false → false ≡ whole
all_fails p xs rest x whole next e is = sym (e ∙ (ap (list_all p) (sym next) ∙ ap (λ b. b && list_all p rest) is))

-- what stands from a place on
pub at_place : {X : Type 0} (p : X → Bool) (xs : List X) (i : ℕ)
    → list_all p (drop i xs) ≡ (option_map_or p (slice_get xs i) true && list_all p (drop (suc i) xs))
at_place p [] zero = refl
at_place p [] (suc i) = refl
at_place p (x ∷ xs) zero = refl
at_place p (x ∷ xs) (suc i) = at_place p xs i

-- ---- the command of a line

abbrev value_of : Result Command ParseFault → Command → Command
value_of (Ok c) d = c
value_of (Err f) d = d

pub one_command : (line : List ℕ) (c d : Command) → Relates line c → Relates line d → d ≡ c
one_command line c d first other = ap (λ r. value_of r c)
    (sym (relates-reads line d other) ∙ relates-reads line c first)
