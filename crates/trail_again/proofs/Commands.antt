-- Objects of a setup's lines that are commands.
use Rattle.trail_again.proofs.Vocabulary.{◌≡◌, ◌∙◌, ℕ, Bool, true, false, List, [], ◌∷◌, ◌++◌, refl, ap, sym, map}
use Rattle.trail_again.proofs.Vocabulary.{filter, cond, ◌||◌, ◌&&◌, if◌then◌else◌, Some, arith, ◌==◌, list_any}
use Rattle.trail_again.proofs.Vocabulary.{list_all, option_and_then, option_map, option_or, nat_tests, ALL, Command}
use Rattle.trail_again.proofs.Vocabulary.{window_object, CommandName, index_of_command, same_command, command_named}
use Rattle.trail_again.proofs.Vocabulary.{name_text, objects_of, Tables, Window}
use Rattle.acl.specs.declared.command_name.CommandName.TheVariants as name
use Rattle.command_lang.specs.Values.{is_wide}
use Rattle.session.specs.Naming.{item_objects, wide_objects, window_named}
use Rattle.trail_again.proofs.Reading.{name_found}
use Rattle.trail_again.proofs.Setting.{object_among}
use Rattle.trail_again.proofs.Wording.{IsItem}

-- ---- a command's name as an item

pub name_item : (c : CommandName) → IsItem (name_text c)
name_item name.Acladd = (refl, search)
name_item _ = (refl, search)

narrow : (c : CommandName) → is_wide (name_text c) ≡ false
narrow name.Acladd = refl
narrow _ = refl

named_object : (t : Tables) (c : CommandName) → item_objects t (name_text c) ≡ Some (Command c ∷ [])
named_object t c =
    ap (λ b. if b then Some (wide_objects t (name_text c))
    else option_or (option_map (λ d. Command d ∷ []) (command_named (name_text c)))
    (option_map (λ (w : Window). window_object w.serial ∷ [])
    (window_named t.windows (name_text c)))) (narrow c)
    ∙ ap (λ o. option_or (option_map (λ d. Command d ∷ []) o)
    (option_map (λ (w : Window). window_object w.serial ∷ [])
    (window_named t.windows (name_text c)))) (name_found c)

pub named_objects : (t : Tables) (cs : List CommandName) → objects_of t (map name_text cs) ≡ Some (map Command cs)
named_objects t [] = refl
named_objects t (c ∷ cs) =
    ap (λ o. option_and_then (λ objects. option_map (λ more. objects ++ more) (objects_of t (map name_text cs))) o)
    (named_object t c)
    ∙ ap (λ o. option_map (λ more. Command c ∷ more) o) (named_objects t cs)

-- ---- which commands

abbrev pub command_among : List CommandName → CommandName → Bool
command_among cs c = list_any (λ d. same_command d c) cs

pub among_commands : (cs : List CommandName) (c : CommandName)
    → object_among (map Command cs) (Command c) ≡ command_among cs c
among_commands [] c = refl
among_commands (d ∷ cs) c = ap (λ b. same_command d c || b) (among_commands cs c)

pub all_there : (c : CommandName) → command_among ALL c ≡ true
all_there name.Acladd = refl
all_there _ = refl

-- the command of an index
abbrev nth : ℕ → List CommandName → CommandName
nth n [] = name.Quit
nth n (c ∷ cs) = if n == index_of_command c then c else nth n cs

nth_index : (c : CommandName) → nth (index_of_command c) ALL ≡ c
nth_index name.Acladd = refl
nth_index _ = refl

equal : (m n : ℕ) → (m == n) ≡ true → m ≡ n
equal m n is = grind (arith, nat_tests, is)

pub same_one : (c d : CommandName) → same_command c d ≡ true → c ≡ d
same_one c d is = sym (nth_index c) ∙ ap (λ n. nth n ALL) (equal (index_of_command c) (index_of_command d) is)
    ∙ nth_index d

pub among_filtered : (p : CommandName → Bool) (cs : List CommandName) (c : CommandName)
    → command_among (filter p cs) c ≡ (command_among cs c && p c)
among_filtered p [] c = refl
among_filtered p (d ∷ cs) c = at (p d) (same_command d c) refl refl (among_filtered p cs c)
  where
    at : (a b : Bool) → p d ≡ a → same_command d c ≡ b → command_among (filter p cs) c ≡ (command_among cs c && p c)
        → command_among (cond a (d ∷ filter p cs) (filter p cs)) c ≡ ((b || command_among cs c) && p c)
    at true true e f later = ap (λ b. b || command_among (filter p cs) c) f ∙ sym e ∙ ap p (same_one d c f)
    at true false e f later = ap (λ b. b || command_among (filter p cs) c) f ∙ later
    at false true e f later = later ∙ off (command_among cs c) (p c) (sym (ap p (same_one d c f)) ∙ e)
      where
        off : (a b : Bool) → b ≡ false → (a && b) ≡ (true && b)
        off true b e = refl
        off false b e = sym e
    at false false e f later = later

-- if all pass, all stay
pub all_kept : (p : CommandName → Bool) (cs : List CommandName) → list_all p cs ≡ true → filter p cs ≡ cs
all_kept p [] all = refl
all_kept p (c ∷ cs) all = at (p c) refl all (λ e. all_kept p cs e)
  where
    at : (b : Bool) → p c ≡ b → (b && list_all p cs) ≡ true → (list_all p cs ≡ true → filter p cs ≡ cs)
        → cond b (c ∷ filter p cs) (filter p cs) ≡ c ∷ cs
    at true e f later = ap (λ (l : List CommandName). c ∷ l) (later f)
    at false e f later = absurd (cc (f))
