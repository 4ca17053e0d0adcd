-- Lines by which openers mask users, and by which they are lent x on `aclumask`.
use Rattle.trail_again.proofs.Vocabulary.{◌≡◌, ◌∙◌, ℕ, Bool, true, false, List, [], ◌∷◌, ◌++◌, refl, ap, subst, map}
use Rattle.trail_again.proofs.Vocabulary.{codes, if◌then◌else◌, Some, None, arith, cond, not, AllByRecursion, flat_map}
use Rattle.trail_again.proofs.Vocabulary.{bytes_eq, nat_tests, append-nil, Act, Command, PresetKind, Execute, BitChange}
use Rattle.trail_again.proofs.Vocabulary.{Edition, MaskEntry, MaskScope, UserId, History, followed_by, is_known, may}
use Rattle.trail_again.proofs.Vocabulary.{users_of, begins_with_letter, name_of, named_by, Mask, mask_entries}
use Rattle.trail_again.proofs.Vocabulary.{line_caller, Tables, preset_text, given_text, mask_word, session_after}
use Rattle.acl.specs.declared.act.Act.TheVariants as act
use Rattle.acl.specs.declared.act.PresetKind.TheVariants as preset
use Rattle.acl.specs.declared.command_name.CommandName.TheVariants as name
use Rattle.acl.specs.declared.entries.MaskScope.TheVariants as scope
use Rattle.acl.specs.Commands.{mask_acts, mask_fault}
use Rattle.command_lang.specs.declared.command.Command.TheVariants as command
use Rattle.command_lang.specs.declared.command.Users.TheVariants as users
use Rattle.session.specs.Naming.{entries_of, word_scope}
use Rattle.trail_again.proofs.Commands.{name_item, named_objects}
use Rattle.trail_again.proofs.Doing.{acts_append, does_masks, entries_in, fault_append, here, preset_acts_of}
use Rattle.trail_again.proofs.Doing.{preset_fault_of, user_acts_of, user_fault_of}
use Rattle.trail_again.proofs.SetupLines.{IsNamedOther, change_leads, changes_of, given_say, known_is_fine}
use Rattle.trail_again.proofs.SetupLines.{letter_first, name_is_item}
use Rattle.trail_again.proofs.Leading.{Leads}
use Rattle.trail_again.proofs.Reading.{Says, line_of}
use Rattle.trail_again.proofs.Saying.{owner_leads, said_by, user_leads}
use Rattle.trail_again.proofs.Setting.{masks_on, presets_on}
use Rattle.trail_again.proofs.Wording.{AllMasks, BitsSay, HasName, MaskSays, cut_mask, joined, mask_says, name_no_sign}
use Rattle.trail_again.proofs.Wording.{name_text_is, says_masks, word_append, word_plain}
use Rattle.command_lang.specs.declared.fault.FaultKind.TheVariants.{BadBits}

-- ---- masks of users

-- a user, and what a mask leaves to them
abbrev pub Said : Type 0
Said = UserId × List Bool

abbrev pub word_for : Said → List ℕ
word_for x = mask_word x.0 x.1

abbrev pub mask_for : Said → Mask
mask_for x = record { users = Some (users.Listed (name_of x.0 ∷ [])); bits = changes_of x.1 }

abbrev pub acts_for : UserId → Said → List Act
acts_for by x = masks_on by x.0 (changes_of x.1)

no_mark : (word : List ℕ) → begins_with_letter word ≡ true → bytes_eq word (codes "?") ≡ false
no_mark [] first = absurd (let wrong : false ≡ true = first in cc)
no_mark (c ∷ word) first = grind (arith, nat_tests)

no_marks : (word : List ℕ) → begins_with_letter word ≡ true → bytes_eq word (codes "??") ≡ false
no_marks [] first = absurd (let wrong : false ≡ true = first in cc)
no_marks (c ∷ word) first = grind (arith, nat_tests)

user_scope : (u : UserId) → HasName u → word_scope (name_of u) ≡ scope.User (Some u)
user_scope u named =
    ap (λ b. if b then scope.Preset preset.Windows
    else if bytes_eq (name_of u) (codes "??") then scope.Preset preset.Commands else scope.User (named_by (name_of u)))
    (no_mark (name_of u) (letter_first u named))
    ∙ ap (λ b. if b then scope.Preset preset.Commands else scope.User (named_by (name_of u)))
    (no_marks (name_of u) (letter_first u named))
    ∙ ap scope.User named

module _ (owner : UserId) (h : History) where
  abbrev pub AreOthers : List Said → Type 0
  AreOthers xs = AllByRecursion (λ (x : Said). IsNamedOther owner h x.0) xs

entries_for : (t : Tables) (x : Said) → HasName x.0
    → entries_of t (mask_for x) ≡ entries_in (scope.User (Some x.0)) (changes_of x.1)
entries_for t x named =
    ap (λ (s : MaskScope). entries_in s (changes_of x.1) ++ []) (user_scope x.0 named)
    ∙ append-nil (entries_in (scope.User (Some x.0)) (changes_of x.1))

abbrev all_entries : List Said → List MaskEntry
all_entries xs = flat_map (λ (x : Said). entries_in (scope.User (Some x.0)) (changes_of x.1)) xs

entries_are : (owner : UserId) (h : History) (t : Tables) (xs : List Said) → AreOthers owner h xs
    → mask_entries t (map mask_for xs) ≡ all_entries xs
entries_are owner h t [] all = refl
entries_are owner h t (x ∷ xs) all = (λ j. entries_for t x all.0.named j ++ entries_are owner h t xs all.1 j)

entries_fine : (owner : UserId) (h : History) (xs : List Said) → AreOthers owner h xs
    → mask_fault owner (users_of owner h) (all_entries xs) ≡ None
entries_fine owner h [] all = refl
entries_fine owner h (x ∷ xs) all =
    fault_append owner (users_of owner h) (entries_in (scope.User (Some x.0)) (changes_of x.1)) (all_entries xs)
    (user_fault_of owner x.0 (users_of owner h) (changes_of x.1)
    (known_is_fine owner (users_of owner h) x.0 all.0.apart all.0.known)) (entries_fine owner h xs all.1)

entries_act : (by : UserId) (xs : List Said) → mask_acts by (all_entries xs) ≡ flat_map (acts_for by) xs
entries_act by [] = refl
entries_act by (x ∷ xs) =
    acts_append by (entries_in (scope.User (Some x.0)) (changes_of x.1)) (all_entries xs)
    ∙ (λ j. user_acts_of by x.0 (changes_of x.1) j ++ entries_act by xs j)

one_says : (owner : UserId) (h : History) (x : Said) → IsNamedOther owner h x.0 → MaskSays (word_for x) (mask_for x)
one_says owner h x o = mask_says (name_of x.0) (given_text x.1) (changes_of x.1) (name_is_item x.0 o.named)
    (letter_first x.0 o.named) (name_no_sign (name_of x.0) (name_text_is x.0 o.named)) (given_say x.1)

all_say : (owner : UserId) (h : History) (xs : List Said) → AreOthers owner h xs
    → AllMasks (map word_for xs) (map mask_for xs)
all_say owner h [] all = tt
all_say owner h (x ∷ xs) all = (one_says owner h x all.0, all_say owner h xs all.1)

module _ (edition : Edition) (owner : UserId) (h : History) (x : Said) (xs : List Said)
    (all : AreOthers owner h (x ∷ xs)) where
  says : Says name.Aclumask (word_for x ∷ map word_for xs) (command.Aclumask (mask_for x ∷ map mask_for xs))
  says = says_masks (word_for x) (map word_for xs) (mask_for x) (map mask_for xs) (one_says owner h x all.0)
      (all_say owner h xs all.1)

  pub owner_masks : Leads owner (session_after edition owner h)
      (line_of name.Aclumask (word_for x ∷ map word_for xs) ++ 0x0A ∷ [])
      (session_after edition owner (followed_by h (flat_map (acts_for owner) (x ∷ xs))))
  owner_masks = subst (λ (acts : List Act). Leads owner (session_after edition owner h)
      (line_of name.Aclumask (word_for x ∷ map word_for xs) ++ 0x0A ∷ [])
      (session_after edition owner (followed_by h acts))) (entries_act owner (x ∷ xs))
      (owner_leads edition owner h name.Aclumask (word_for x ∷ map word_for xs)
      (command.Aclumask (mask_for x ∷ map mask_for xs)) (mask_acts owner (all_entries (x ∷ xs))) says refl
      (does_masks edition owner h (line_caller (here edition owner h) owner None) (mask_for x ∷ map mask_for xs)
      (all_entries (x ∷ xs)) (entries_are owner h (here edition owner h) (x ∷ xs) all)
      (entries_fine owner h (x ∷ xs) all)))

  pub user_masks : (by : UserId) → HasName by → is_known owner h by ≡ true
      → may edition owner h by Execute (Command name.Aclumask) ≡ true
      → Leads owner (session_after edition owner h)
      (said_by by (line_of name.Aclumask (word_for x ∷ map word_for xs)) ++ 0x0A ∷ [])
      (session_after edition owner (followed_by h (flat_map (acts_for by) (x ∷ xs))))
  user_masks by named known allowed = subst (λ (acts : List Act). Leads owner (session_after edition owner h)
      (said_by by (line_of name.Aclumask (word_for x ∷ map word_for xs)) ++ 0x0A ∷ [])
      (session_after edition owner (followed_by h acts))) (entries_act by (x ∷ xs))
      (user_leads edition owner h name.Aclumask (word_for x ∷ map word_for xs)
      (command.Aclumask (mask_for x ∷ map mask_for xs)) (mask_acts by (all_entries (x ∷ xs))) says by named known
      allowed refl
      (does_masks edition owner h (line_caller (here edition owner h) by None) (mask_for x ∷ map mask_for xs)
      (all_entries (x ∷ xs)) (entries_are owner h (here edition owner h) (x ∷ xs) all)
      (entries_fine owner h (x ∷ xs) all)))

-- ---- presets

-- `?` or `??`, and bits
preset_word : (kind : PresetKind) (b : List ℕ) (changes : List BitChange) → BitsSay b changes
    → MaskSays (preset_text kind ++ b) (record { users = Some (users.Listed (preset_text kind ∷ [])); bits = changes })
preset_word preset.Windows b changes s =
    let cut = cut_mask (codes "?") b (refl, tt) s.begins in
    record {
      word = word_append (codes "?") b refl (word_plain b s.word);
      fine = cut.1 ∙ ap (λ c. cond (not c)
          (Some BadBits) None) s.fine;
      means = cut.0 ∙ ap (λ (l : List BitChange). record {
        users = Some (users.Listed (codes "?" ∷
            []));
        bits = l;
      }) s.means;
    }
preset_word preset.Commands b changes s =
    let cut = cut_mask (codes "??") b (refl, (refl, tt)) s.begins in
    record {
      word = word_append (codes "??") b refl (word_plain b s.word);
      fine = cut.1 ∙ ap (λ c. cond (not c)
          (Some BadBits) None) s.fine;
      means = cut.0 ∙ ap (λ (l : List BitChange). record {
        users = Some (users.Listed (codes "??" ∷
            []));
        bits = l;
      }) s.means;
    }

preset_entries : (t : Tables) (kind : PresetKind) (changes : List BitChange)
    → entries_of t (record { users = Some (users.Listed (preset_text kind ∷ [])); bits = changes })
    ≡ entries_in (scope.Preset kind) changes
preset_entries t preset.Windows changes = append-nil (entries_in (scope.Preset preset.Windows) changes)
preset_entries t preset.Commands changes = append-nil (entries_in (scope.Preset preset.Commands) changes)

module _ (edition : Edition) (owner : UserId) (h : History) where
  pub preset_leads : (kind : PresetKind) (b : List ℕ) (changes : List BitChange) → BitsSay b changes
      → Leads owner (session_after edition owner h)
      (line_of name.Aclumask ((preset_text kind ++ b) ∷ []) ++ 0x0A ∷ [])
      (session_after edition owner (followed_by h (presets_on kind changes)))
  preset_leads kind b changes s =
      let m : Mask = record { users = Some (users.Listed (preset_text kind ∷ [])); bits = changes } in
      subst (λ (acts : List Act). Leads owner (session_after edition owner h)
      (line_of name.Aclumask ((preset_text kind ++ b) ∷ []) ++ 0x0A ∷ [])
      (session_after edition owner (followed_by h acts))) (preset_acts_of owner kind changes)
      (owner_leads edition owner h name.Aclumask ((preset_text kind ++ b) ∷ []) (command.Aclumask (m ∷ []))
      (mask_acts owner (entries_in (scope.Preset kind) changes))
      (says_masks (preset_text kind ++ b) [] m [] (preset_word kind b changes s) tt) refl
      (does_masks edition owner h (line_caller (here edition owner h) owner None) (m ∷ [])
      (entries_in (scope.Preset kind) changes)
      (append-nil (entries_of (here edition owner h) m) ∙ preset_entries (here edition owner h) kind changes)
      (preset_fault_of owner kind (users_of owner h) changes)))

  -- the line with which presets are nothing first
  pub both_presets : (b c : List ℕ) (changes others : List BitChange) → BitsSay b changes → BitsSay c others
      → Leads owner (session_after edition owner h)
      (line_of name.Aclumask ((preset_text preset.Windows ++ b) ∷ (preset_text preset.Commands ++ c) ∷ []) ++ 0x0A ∷ [])
      (session_after edition owner (followed_by h (presets_on preset.Windows changes
      ++ presets_on preset.Commands others)))
  both_presets b c changes others s o =
      let m : Mask = record { users = Some (users.Listed (preset_text preset.Windows ∷ [])); bits = changes } in
      let n : Mask = record { users = Some (users.Listed (preset_text preset.Commands ∷ [])); bits = others } in
      let first : List MaskEntry = entries_in (scope.Preset preset.Windows) changes in
      let second : List MaskEntry = entries_in (scope.Preset preset.Commands) others in
      subst (λ (acts : List Act). Leads owner (session_after edition owner h)
      (line_of name.Aclumask ((preset_text preset.Windows ++ b) ∷ (preset_text preset.Commands ++ c) ∷ []) ++ 0x0A ∷ [])
      (session_after edition owner (followed_by h acts)))
      (acts_append owner first second
      ∙ (λ j. preset_acts_of owner preset.Windows changes j ++ preset_acts_of owner preset.Commands others j))
      (owner_leads edition owner h name.Aclumask
      ((preset_text preset.Windows ++ b) ∷ (preset_text preset.Commands ++ c) ∷ []) (command.Aclumask (m ∷ n ∷ []))
      (mask_acts owner (first ++ second))
      (says_masks (preset_text preset.Windows ++ b) ((preset_text preset.Commands ++ c) ∷ []) m (n ∷ [])
      (preset_word preset.Windows b changes s) (preset_word preset.Commands c others o, tt)) refl
      (does_masks edition owner h (line_caller (here edition owner h) owner None) (m ∷ n ∷ []) (first ++ second)
      (λ j. preset_entries (here edition owner h) preset.Windows changes j
      ++ (append-nil (entries_of (here edition owner h) n)
      ∙ preset_entries (here edition owner h) preset.Commands others) j)
      (fault_append owner (users_of owner h) first second (preset_fault_of owner preset.Windows
      (users_of owner h) changes)
      (preset_fault_of owner preset.Commands (users_of owner h) others))))

  -- ---- x on `aclumask` that is lent

  x_on : BitsSay (codes "+x") (record { bit = Execute; value = true } ∷ [])
  x_on = record { word = refl; fine = refl; means = refl; begins = refl }

  x_off : BitsSay (codes "-x") (record { bit = Execute; value = false } ∷ [])
  x_off = record { word = refl; fine = refl; means = refl; begins = refl }

  abbrev pub lent_words : UserId → List ℕ → List (List ℕ)
  lent_words by b = joined (name_of by) [] ∷ b ∷ joined (codes "aclumask") [] ∷ []

  abbrev pub lent_act : UserId → Bool → Act
  lent_act by value = act.Set by Execute (Command name.Aclumask) value

  pub lends : (by : UserId) → IsNamedOther owner h by
      → Leads owner (session_after edition owner h) (line_of name.Aclchg (lent_words by (codes "+x")) ++ 0x0A ∷ [])
      (session_after edition owner (followed_by h (lent_act by true ∷ [])))
  lends by o = change_leads edition owner h by (codes "+x") (record { bit = Execute; value = true } ∷ [])
      (codes "aclumask") [] (Command name.Aclumask ∷ []) o x_on (name_item name.Aclumask) tt
      (named_objects (here edition owner h) (name.Aclumask ∷ []))

  pub takes_back : (by : UserId) → IsNamedOther owner h by
      → Leads owner (session_after edition owner h) (line_of name.Aclchg (lent_words by (codes "-x")) ++ 0x0A ∷ [])
      (session_after edition owner (followed_by h (lent_act by false ∷ [])))
  takes_back by o = change_leads edition owner h by (codes "-x") (record { bit = Execute; value = false } ∷ [])
      (codes "aclumask") [] (Command name.Aclumask ∷ []) o x_off (name_item name.Aclumask) tt
      (named_objects (here edition owner h) (name.Aclumask ∷ []))
