-- The lines by which openers close their masks.
use Rattle.trail_again.proofs.Vocabulary.{◌≡◌, ◌∙◌, ℕ, Bool, true, false, List, [], ◌∷◌, ◌++◌, refl, ap, sym, subst}
use Rattle.trail_again.proofs.Vocabulary.{map, codes, if◌then◌else◌, ◌||◌, ◌&&◌, Option, Some, None, append_assoc}
use Rattle.trail_again.proofs.Vocabulary.{unwrap_or, slice_index_or, flat_map, list_any, append-nil, Act, Command, Bit}
use Rattle.trail_again.proofs.Vocabulary.{Execute, Read, Write, CommandName, Edition, UserId, History, among}
use Rattle.trail_again.proofs.Vocabulary.{followed_by, has, is_known, mask, may, users_of, decided, leaders_of, name_of}
use Rattle.trail_again.proofs.Vocabulary.{same_bit, same_user, same_object, followed_by-append, same_user-sym}
use Rattle.trail_again.proofs.Vocabulary.{same_user-refl, Part, PutsLines, Known, are_any, is_first, is_lent, lent_text}
use Rattle.trail_again.proofs.Vocabulary.{mask_kind, other_head, other_parts, owner_head, parts_by, said_bits, word_of}
use Rattle.trail_again.proofs.Vocabulary.{words_in, words_of, session_after, bit_in}
use Rattle.acl.specs.declared.act.Act.TheVariants as act
use Rattle.acl.specs.declared.command_name.CommandName.TheVariants as name
use Rattle.trail_again.proofs.Blocks.{masks_without}
use Rattle.trail_again.proofs.Leading.{EachLeads, Leads, lines_lead}
use Rattle.trail_again.proofs.Openers.{AreOthers, Said, acts_for, lends, lent_act, owner_masks, takes_back, user_masks}
use Rattle.trail_again.proofs.Openers.{word_for}
use Rattle.trail_again.proofs.Putting.{PartsLead, lines_part, parts_nothing, parts_then, text_part}
use Rattle.trail_again.proofs.Saying.{said_by}
use Rattle.trail_again.proofs.SetupLines.{IsNamedOther, changes_of}
use Rattle.trail_again.proofs.Setting.{mask_value, pick}
use Rattle.trail_again.proofs.Touching.{Without, known_stays, none_append, on_users, stays, users_stay}
use Rattle.trail_again.proofs.Wording.{HasName}

-- ---- who is said what

abbrev pub said_in : UserId → Option (List Bool) → List Said
said_in u None = []
said_in u (Some bits) = (u, bits) ∷ []

abbrev pub said_of : UserId → History → Known → UserId → UserId → List Said
said_of owner from m by u = said_in u (said_bits false owner from m by u)

abbrev pub said : UserId → History → Known → UserId → List Said
said owner from m by = flat_map (said_of owner from m by) m.users

one_word : (u : UserId) (o : Option (List Bool)) → words_in u o ≡ map word_for (said_in u o)
one_word u None = refl
one_word u (Some bits) = refl

map_append : (xs ys : List Said) → map word_for (xs ++ ys) ≡ map word_for xs ++ map word_for ys
map_append [] ys = refl
map_append (x ∷ xs) ys = ap (λ (l : List (List ℕ)). word_for x ∷ l) (map_append xs ys)

pub words_are : (owner : UserId) (from : History) (m : Known) (by : UserId) (us : List UserId)
    → flat_map (word_of false owner from m by) us ≡ map word_for (flat_map (said_of owner from m by) us)
words_are owner from m by [] = refl
words_are owner from m by (u ∷ us) =
    (λ j. one_word u (said_bits false owner from m by u) j ++ words_are owner from m by us j)
    ∙ sym (map_append (said_of owner from m by u) (flat_map (said_of owner from m by) us))

-- ---- acts on masks leave the rest

abbrev pub on_rights : Act → Bool
on_rights (act.Known u) = true
on_rights (act.Gone u) = true
on_rights (act.Set u bit o value) = true
on_rights (act.Grouped u leader) = true
on_rights a = false

pub may_stays : (edition : Edition) (owner u : UserId) (bit : Bit) (c : CommandName) (a : Act) (h : History)
    → on_rights a ≡ false → may edition owner (a ∷ h) u bit (Command c) ≡ may edition owner h u bit (Command c)
may_stays edition owner u bit c (act.Known v) h off = absurd (cc (off))
may_stays edition owner u bit c (act.Gone v) h off = absurd (cc (off))
may_stays edition owner u bit c (act.Set v b o value) h off = absurd (cc (off))
may_stays edition owner u bit c (act.Grouped v leader) h off = absurd (cc (off))
may_stays edition owner u bit c a h off = refl

pub masks_off : (on : Act → Bool) → ((by u : UserId) (bit : Bit) (v : Bool) → on (act.Masked by u bit v) ≡ false)
    → (by : UserId) (xs : List Said) → Without on (flat_map (acts_for by) xs)
masks_off on off by [] = tt
masks_off on off by (x ∷ xs) = none_append on (acts_for by x) (flat_map (acts_for by) xs)
    (masks_without on off by x.0 (changes_of x.1)) (masks_off on off by xs)

still : (owner : UserId) (h g : History) (u : UserId) → users_of owner g ≡ users_of owner h → IsNamedOther owner h u
    → IsNamedOther owner g u
still owner h g u same o = record {
  named = o.named;
  apart = o.apart;
  known = ap (λ (l : List UserId). among l u) same ∙ o.known;
}

pub all_still : (owner : UserId) (h g : History) (xs : List Said) → users_of owner g ≡ users_of owner h
    → AreOthers owner h xs → AreOthers owner g xs
all_still owner h g [] same all = tt
all_still owner h g (x ∷ xs) same all = (still owner h g x.0 same all.0, all_still owner h g xs same all.1)

front_of : (owner : UserId) (h : History) (xs ys : List Said) → AreOthers owner h (xs ++ ys) → AreOthers owner h xs
front_of owner h [] ys all = tt
front_of owner h (x ∷ xs) ys all = (all.0, front_of owner h xs ys all.1)

back_of : (owner : UserId) (h : History) (xs ys : List Said) → AreOthers owner h (xs ++ ys) → AreOthers owner h ys
back_of owner h [] ys all = all
back_of owner h (x ∷ xs) ys all = back_of owner h xs ys all.1

masks_keep : (owner by : UserId) (h : History) (xs : List Said)
    → users_of owner (followed_by h (flat_map (acts_for by) xs)) ≡ users_of owner h
masks_keep owner by h xs = stays (users_of owner) on_users (users_stay owner) (flat_map (acts_for by) xs) h
    (masks_off on_users (λ b u bit v. refl) by xs)

-- ---- the lines of an opener

module _ (edition : Edition) (owner : UserId) where
  each_own : EachLeads edition owner (mask_kind (owner_head [])) word_for (acts_for owner)
      (λ h xs. AreOthers owner h xs)
  each_own h x xs rest all = (
    owner_masks edition owner h x xs (front_of owner h (x ∷ xs) rest all),
    all_still owner h (followed_by h (flat_map (acts_for owner) (x ∷ xs))) rest (masks_keep owner owner h (x ∷ xs))
        (back_of owner h (x ∷ xs) rest all),
  )

  -- a user who may give `aclumask`
  abbrev Allowed : UserId → History → Type 0
  Allowed by h = HasName by × (is_known owner h by ≡ true) × (may edition owner h by Execute (Command name.Aclumask)
      ≡ true)

  still_allowed : (by : UserId) (h : History) (xs : List Said) → Allowed by h
      → Allowed by (followed_by h (flat_map (acts_for by) xs))
  still_allowed by h xs a = (
    a.0,
    stays (λ g. is_known owner g by) on_users (known_stays owner by) (flat_map (acts_for by) xs) h
        (masks_off on_users (λ b u bit v. refl) by xs) ∙ a.1,
    stays (λ g. may edition owner g by Execute (Command name.Aclumask)) on_rights
        (may_stays edition owner by Execute name.Aclumask) (flat_map (acts_for by) xs) h
        (masks_off on_rights (λ b u bit v. refl) by xs) ∙ a.2,
  )

  other_shape : (by : UserId) (r : List ℕ)
      → said_by by (codes "aclumask" ++ r) ++ 0x0A ∷ [] ≡ ((name_of by ++ codes ": aclumask") ++ r) ++ 0x0A ∷ []
  other_shape by r = ap (λ (l : List ℕ). l ++ 0x0A ∷ []) (sym (append_assoc (name_of by) (codes ": aclumask") r))

  each_other : (by : UserId)
      → EachLeads edition owner (mask_kind (other_head [] by)) word_for (acts_for by)
      (λ h xs. Allowed by h × AreOthers owner h xs)
  each_other by h x xs rest holds = (
    subst (λ (b : List ℕ). Leads owner (session_after edition owner h) b
        (session_after edition owner (followed_by h (flat_map (acts_for by) (x ∷ xs)))))
        (other_shape by (0x20 ∷ (word_for x ++ flat_map (λ (v : List ℕ). 0x20 ∷ v) (map word_for xs))))
        (user_masks edition owner h x xs (front_of owner h (x ∷ xs) rest holds.1) by holds.0.0 holds.0.1 holds.0.2),
    (
      still_allowed by h (x ∷ xs) holds.0,
      all_still owner h (followed_by h (flat_map (acts_for by) (x ∷ xs))) rest (masks_keep owner by h (x ∷ xs))
          (back_of owner h (x ∷ xs) rest holds.1),
    ),
  )

  -- ---- x that is lent

  lent_shape : (u t l : List ℕ) → ((u ++ []) ++ t) ++ l ≡ u ++ (t ++ l)
  lent_shape u t l = append_assoc (u ++ []) t l ∙ ap (λ x. x ++ (t ++ l)) (append-nil u)

  lends_part : (by : UserId) (h : History) → IsNamedOther owner h by
      → PartsLead edition owner (Part.text (lent_text [] by (codes " +x")) ∷ []) h
      (lent_act edition owner h by true ∷ h)
  lends_part by h o = text_part edition owner (lent_text [] by (codes " +x")) h (lent_act edition owner h by true ∷ h)
      (subst (λ (b : List ℕ). Leads owner (session_after edition owner h) b
      (session_after edition owner (lent_act edition owner h by true ∷ h)))
      (ap (λ (l : List ℕ). codes "aclchg " ++ l)
      (lent_shape (name_of by) (codes " +x aclumask") (0x0A ∷ []))) (lends edition owner h by o))

  takes_part : (by : UserId) (h : History) → IsNamedOther owner h by
      → PartsLead edition owner (Part.text (lent_text [] by (codes " -x")) ∷ []) h
      (lent_act edition owner h by false ∷ h)
  takes_part by h o = text_part edition owner (lent_text [] by (codes " -x")) h (lent_act edition owner h by false ∷ h)
      (subst (λ (b : List ℕ). Leads owner (session_after edition owner h) b
      (session_after edition owner (lent_act edition owner h by false ∷ h)))
      (ap (λ (l : List ℕ). codes "aclchg " ++ l)
      (lent_shape (name_of by) (codes " -x aclumask") (0x0A ∷ []))) (takes_back edition owner h by o))

-- ---- the parts of an opener

abbrev pub lent_bit : UserId → Bool → Act
lent_bit by value = act.Set by Execute (Command name.Aclumask) value

-- what another user than the owner does while x is lent
abbrev pub around : Bool → UserId → List Act → List Act
around true by acts = lent_bit by true ∷ (acts ++ lent_bit by false ∷ [])
around false by acts = []

abbrev pub opener_acts : UserId → History → Known → UserId → List Act
opener_acts owner from m by =
    if is_first m.users by then flat_map (acts_for by) (said owner from m by)
    else around (are_any (words_of false owner from m by)) by (flat_map (acts_for by) (said owner from m by))

module _ (edition : Edition) (owner : UserId) (from : History) (m : Known) where
  lines_of_owner : (h : History) → AreOthers owner h (said owner from m owner)
      → PartsLead edition owner (Part.lines (mask_kind (owner_head [])) (words_of false owner from m owner) ∷ []) h
      (followed_by h (flat_map (acts_for owner) (said owner from m owner)))
  lines_of_owner h all = lines_part edition owner (mask_kind (owner_head [])) (words_of false owner from m owner) h
      (followed_by h (flat_map (acts_for owner) (said owner from m owner)))
      (λ start out put. lines_lead edition owner (mask_kind (owner_head [])) word_for (acts_for owner)
      (λ g xs. AreOthers owner g xs) (each_own edition owner) (said owner from m owner) h all start out
      (subst (λ ws. PutsLines (mask_kind (owner_head [])) start ws out) (words_are owner from m owner m.users) put))

  lines_of_other : (by : UserId) (h : History) → Allowed edition owner by h → AreOthers owner h (said owner from m by)
      → PartsLead edition owner (Part.lines (mask_kind (other_head [] by)) (words_of false owner from m by) ∷ []) h
      (followed_by h (flat_map (acts_for by) (said owner from m by)))
  lines_of_other by h allowed all = lines_part edition owner (mask_kind (other_head [] by))
      (words_of false owner from m by) h (followed_by h (flat_map (acts_for by) (said owner from m by)))
      (λ start out put. lines_lead edition owner (mask_kind (other_head [] by)) word_for (acts_for by)
      (λ g xs. Allowed edition owner by g × AreOthers owner g xs) (each_other edition owner by) (said owner from m by)
      h (allowed, all) start out
      (subst (λ ws. PutsLines (mask_kind (other_head [] by)) start ws out) (words_are owner from m by m.users) put))

  may_by_entry : (h : History) (by : UserId) → has owner h by Execute (Command name.Aclumask) ≡ true
      → may edition owner h by Execute (Command name.Aclumask) ≡ true
  may_by_entry h by is = at (same_user owner by) (has owner h by Execute (Command name.Aclumask))
      (list_any (λ leader. has owner h leader Execute (Command name.Aclumask))
      (leaders_of edition h by)) is
    where
      at : (a b c : Bool) → b ≡ true → (a || b || c) ≡ true
      at true b c e = refl
      at false true c e = refl
      at false false c e = absurd (let wrong : false ≡ true = e in cc)

  lent_has : (h : History) (by : UserId)
      → has owner (lent_bit by true ∷ h) by Execute (Command name.Aclumask) ≡ true
  lent_has h by = ap (λ b. unwrap_or (decided (b && same_bit Execute Execute
      && same_object (Command name.Aclumask) (Command name.Aclumask)) true)
      (has owner h by Execute (Command name.Aclumask))) (same_user-refl by)

  other_acts : (by : UserId) (h : History) (acts : List Act)
      → followed_by (followed_by (lent_bit by true ∷ h) acts) (lent_bit by false ∷ [])
      ≡ followed_by h (around true by acts)
  other_acts by h acts = sym (followed_by-append (lent_bit by true ∷ h) acts (lent_bit by false ∷ []))

  -- other users than the owner, and the list is the known users
  pub record CanOpen (h : History) (by : UserId) : Type 0 where
    pub other : IsNamedOther owner h by
    pub lists : is_known owner h by ≡ true
    pub all : AreOthers owner h (said owner from m by)

  other_part : (by : UserId) (h : History) → CanOpen h by → (b : Bool)
      → PartsLead edition owner
      (if b then other_parts [] by (words_of false owner from m by) (is_lent false owner from by) else []) h
      (followed_by h (around b by (flat_map (acts_for by) (said owner from m by))))
  other_part by h o false = parts_nothing edition owner h
  other_part by h o true =
      let acts : List Act = flat_map (acts_for by) (said owner from m by) in
      let lent : History = lent_bit by true ∷ h in
      let done : History = followed_by lent acts in
      let allowed : Allowed edition owner by lent =
      (o.other.named, o.lists, may_by_entry lent by (lent_has h by)) in
      let same : users_of owner done ≡ users_of owner h = masks_keep owner by lent (said owner from m by) in
      subst (λ (g : History). PartsLead edition owner
      (other_parts [] by (words_of false owner from m by) true) h g) (other_acts by h acts)
      (parts_then edition owner (Part.text (lent_text [] by (codes " +x")) ∷ [])
      (Part.lines (mask_kind (other_head [] by)) (words_of false owner from m by)
      ∷ Part.text (lent_text [] by (codes " -x")) ∷ []) h lent (lent_bit by false ∷ done)
      (lends_part edition owner by h o.other)
      (parts_then edition owner
      (Part.lines (mask_kind (other_head [] by)) (words_of false owner from m by) ∷ [])
      (Part.text (lent_text [] by (codes " -x")) ∷ []) lent done (lent_bit by false ∷ done)
      (lines_of_other by lent allowed (all_still owner h lent (said owner from m by) refl o.all))
      (takes_part edition owner by done (still owner h done by same o.other))))

  -- an opener who has nothing to say does nothing
  pub nothing_said : (by : UserId) → are_any (words_of false owner from m by) ≡ false → said owner from m by ≡ []
  nothing_said by none = at (said owner from m by)
      (ap are_any (sym (words_are owner from m by m.users)) ∙ none)
    where
      at : (xs : List Said) → are_any (map word_for xs) ≡ false → xs ≡ []
      at [] e = refl
      at (x ∷ xs) e = absurd (cc (e))

  pub opener_part : (by : UserId) (h : History)
      → (is_first m.users by ≡ true → (by ≡ owner) × AreOthers owner h (said owner from m by))
      → (is_first m.users by ≡ false → CanOpen h by)
      → PartsLead edition owner (parts_by false owner from m [] by) h (followed_by h (opener_acts owner from m by))
  opener_part by h own other = at (is_first m.users by) (are_any (words_of false owner from m by)) refl refl
    where
      at : (f a : Bool) → is_first m.users by ≡ f → are_any (words_of false owner from m by) ≡ a
          → PartsLead edition owner
          (if a then (if f then Part.lines (mask_kind (owner_head [])) (words_of false owner from m by) ∷ []
          else other_parts [] by (words_of false owner from m by) (is_lent false owner from by)) else []) h
          (followed_by h (if f then flat_map (acts_for by) (said owner from m by)
          else around a by (flat_map (acts_for by) (said owner from m by))))
      at true true e g =
          let is = own e in
          subst (λ (x : UserId). PartsLead edition owner
          (Part.lines (mask_kind (owner_head [])) (words_of false owner from m x) ∷ []) h
          (followed_by h (flat_map (acts_for x) (said owner from m x)))) (sym is.0)
          (lines_of_owner h (subst (λ (x : UserId). AreOthers owner h (said owner from m x)) is.0 is.1))
      at true false e g = subst (λ (xs : List Said). PartsLead edition owner [] h
          (followed_by h (flat_map (acts_for by) xs))) (sym (nothing_said by g)) (parts_nothing edition owner h)
      at false true e g = other_part by h (other e) true
      at false false e g = other_part by h (other e) false

-- ---- what openers leave

pub pick_is : (given : List Bool) (bit : Bit)
    → pick (slice_index_or given 0 false) (slice_index_or given 1 false) (slice_index_or given 2 false) bit
    ≡ bit_in bit given
pick_is given Read = refl
pick_is given Write = refl
pick_is given Execute = refl

-- a bit of a mask, if something is said of it
abbrev pub bit_said : Bit → Option (List Bool) → Bool → Bool
bit_said bit None old = old
bit_said bit (Some given) old = bit_in bit given

module _ (owner : UserId) (from : History) (m : Known) (by0 u0 : UserId) (bit : Bit) where
  abbrev new_bit : Bool → Bool
  new_bit old = bit_said bit (said_bits false owner from m by0 u0) old

  -- of one user
  pub one_said : (by u : UserId) (o : Option (List Bool)) (h : History)
      → mask (followed_by h (flat_map (acts_for by) (said_in u o))) by0 u0 bit
      ≡ (if same_user u0 u then (if same_user by0 by then bit_said bit o (mask h by0 u0 bit) else mask h by0 u0 bit)
      else mask h by0 u0 bit)
  one_said by u None h = at (same_user u0 u) (same_user by0 by)
    where
      at : (a b : Bool) → mask h by0 u0 bit
          ≡ (if a then (if b then mask h by0 u0 bit else mask h by0 u0 bit) else mask h by0 u0 bit)
      at true true = refl
      at true false = refl
      at false b = refl
  one_said by u (Some given) h =
      ap (λ (l : List Act). mask (followed_by h l) by0 u0 bit) (append-nil (acts_for by (u, given)))
      ∙ mask_value by u by0 u0 bit (slice_index_or given 0 false) (slice_index_or given 1 false)
      (slice_index_or given 2 false) h
      ∙ (λ j. if same_user-sym by by0 j && same_user-sym u u0 j then pick_is given bit j else mask h by0 u0 bit)
      ∙ at (same_user by0 by) (same_user u0 u)
    where
      at : (b a : Bool) → (if b && a then bit_in bit given else mask h by0 u0 bit)
          ≡ (if a then (if b then bit_in bit given else mask h by0 u0 bit)
          else mask h by0 u0 bit)
      at true true = refl
      at true false = refl
      at false true = refl
      at false false = refl
