-- The words of a setup's lines, and what they mean.
use Rattle.trail_again.proofs.Vocabulary.{◌≡◌, ◌∙◌, ℕ, suc, ◌+◌, Bool, true, false, not, cond, List, [], ◌∷◌, ◌++◌}
use Rattle.trail_again.proofs.Vocabulary.{refl, ap, sym, ◌||◌, ◌&&◌, if◌then◌else◌, Some, None, length, map, arith}
use Rattle.trail_again.proofs.Vocabulary.{take, drop, codes, ◌==◌, AllByRecursion, flat_map, list_all, list_any}
use Rattle.trail_again.proofs.Vocabulary.{slice_split, bytes_eq, take-append_seam, drop-append_seam, nat_tests}
use Rattle.trail_again.proofs.Vocabulary.{append-nil, BitChange, UserId, begins_with_letter, is_name, is_name_byte}
use Rattle.trail_again.proofs.Vocabulary.{name_of, named_by, Mask, is_plain, is_empty_text, AllFit, and-both, and-parts}
use Rattle.acl.specs.declared.act.LockMode.TheVariants as lock_mode
use Rattle.acl.specs.declared.command_name.CommandName.TheVariants as name
use Rattle.command_lang.specs.declared.command.Command.TheVariants as command
use Rattle.command_lang.specs.declared.command.Leader.TheVariants as leader
use Rattle.command_lang.specs.declared.command.Users.TheVariants as users
use Rattle.command_lang.specs.declared.fault.FaultKind.TheVariants as faults
use Rattle.command_lang.specs.MaskFaults.{mask_fault, unless}
use Rattle.command_lang.specs.Values.{bits_of, has_empty_item, is_bits, is_sign, items_of, mask_of, mask_users}
use Rattle.command_lang.specs.Values.{sign_place, users_of}
use Rattle.command_lang.specs.declared.rows.Kind.TheVariants as kind
use Rattle.command_lang.proofs.Canonical.{HeadSign}
use Rattle.trail_again.proofs.Reading.{AreWords, Free, IsWord, Says, free_from, split_at, split_none}

-- ---- bytes of words

abbrev pub is_comma : ℕ → Bool
is_comma b = b == 0x2C

word_from : (t : List ℕ) → is_empty_text t ≡ false → list_all is_plain t ≡ true → IsWord t
word_from t some all = and-both (not (is_empty_text t)) (list_all is_plain t) (ap not some) all

some_text : (c : ℕ) (t : List ℕ) → is_empty_text (c ∷ t) ≡ false
some_text c t = grind (arith, nat_tests)

not_empty : (b : Bool) → not b ≡ true → b ≡ false
not_empty true e = absurd (cc (e))
not_empty false e = refl

pub word_some : (t : List ℕ) → IsWord t → is_empty_text t ≡ false
word_some t is = not_empty (is_empty_text t) (and-parts (not (is_empty_text t)) (list_all is_plain t) is).0

pub word_plain : (t : List ℕ) → IsWord t → list_all is_plain t ≡ true
word_plain t is = (and-parts (not (is_empty_text t)) (list_all is_plain t) is).1

plain_append : (xs ys : List ℕ) → list_all is_plain xs ≡ true → list_all is_plain ys ≡ true
    → list_all is_plain (xs ++ ys) ≡ true
plain_append [] ys a b = b
plain_append (x ∷ xs) ys a b =
    let both = and-parts (is_plain x) (list_all is_plain xs) a in
    and-both (is_plain x) (list_all is_plain (xs ++ ys)) both.0 (plain_append xs ys both.1 b)

pub word_append : (xs ys : List ℕ) → IsWord xs → list_all is_plain ys ≡ true → IsWord (xs ++ ys)
word_append [] ys is all = absurd (let wrong : true ≡ false = word_some [] is in cc)
word_append (x ∷ xs) ys is all = word_from ((x ∷ xs) ++ ys) (some_text x (xs ++ ys))
    (plain_append (x ∷ xs) ys (word_plain (x ∷ xs) is) all)

-- ---- names

-- a user whose name names them
abbrev pub HasName : UserId → Type 0
HasName u = named_by (name_of u) ≡ Some u

is_there : {A : Type 0} (b : Bool) (x y : A) → cond b (Some x) None ≡ Some y → b ≡ true
is_there true x y e = refl
is_there false x y e = cc

pub is_a_name : (u : UserId) → HasName u → is_name (name_of u) ≡ true
is_a_name u named = is_there _ _ _ named

pub bytes_of_name : (word : List ℕ) → is_name word ≡ true → list_all is_name_byte word ≡ true
bytes_of_name word is = grind (arith, nat_tests)

first_of_name : (word : List ℕ) → is_name word ≡ true → begins_with_letter word ≡ true
first_of_name word is = grind (arith, nat_tests)

plain_byte : (c : ℕ) → is_name_byte c ≡ true → is_plain c ≡ true
plain_byte c is = grind (arith, nat_tests)

plain_bytes : (xs : List ℕ) → list_all is_name_byte xs ≡ true → list_all is_plain xs ≡ true
plain_bytes [] all = refl
plain_bytes (x ∷ xs) all =
    let both = and-parts (is_name_byte x) (list_all is_name_byte xs) all in
    and-both (is_plain x) (list_all is_plain xs) (plain_byte x both.0) (plain_bytes xs both.1)

some_name : (word : List ℕ) → begins_with_letter word ≡ true → is_empty_text word ≡ false
some_name [] is = absurd (let wrong : false ≡ true = is in cc)
some_name (c ∷ word) is = some_text c word

-- what holds of a name's text
pub record NameText (t : List ℕ) : Type 0 where
  pub word : IsWord t
  pub begins : begins_with_letter t ≡ true
  pub bytes : list_all is_name_byte t ≡ true

pub name_text_is : (u : UserId) → HasName u → NameText (name_of u)
name_text_is u named =
    let is = is_a_name u named in
    let all = bytes_of_name (name_of u) is in
    let first = first_of_name (name_of u) is in
    record {
      word = word_from (name_of u) (some_name (name_of u) first) (plain_bytes (name_of u) all);
      begins = first;
      bytes = all;
    }

comma_apart : (c : ℕ) → is_name_byte c ≡ true → is_comma c ≡ false
comma_apart c is = grind (arith, nat_tests)

sign_apart : (c : ℕ) → is_name_byte c ≡ true → is_sign c ≡ false
sign_apart c is = grind (arith, nat_tests)

pub name_no_comma : (t : List ℕ) → NameText t → Free is_comma t
name_no_comma t n = free_from is_name_byte is_comma comma_apart t n.bytes

pub name_no_sign : (t : List ℕ) → NameText t → Free is_sign t
name_no_sign t n = free_from is_name_byte is_sign sign_apart t n.bytes

-- ---- words with commas between them

abbrev pub joined : List ℕ → List (List ℕ) → List ℕ
joined w ws = w ++ flat_map (λ v. 0x2C ∷ v) ws

-- an item of a list: a word without a comma
abbrev pub IsItem : List ℕ → Type 0
IsItem t = IsWord t × Free is_comma t

pub items_joined : (w : List ℕ) (ws : List (List ℕ)) → IsItem w → AllByRecursion IsItem ws
    → items_of (joined w ws) ≡ w ∷ ws
items_joined w [] is all = ap (slice_split is_comma) (append-nil w) ∙ split_none is_comma w is.1
items_joined w (v ∷ ws) is all = split_at is_comma w 0x2C (joined v ws) is.1 refl
    ∙ ap (λ (l : List (List ℕ)). w ∷ l) (items_joined v ws all.0 all.1)

plain_joined : (ws : List (List ℕ)) → AllByRecursion IsItem ws
    → list_all is_plain (flat_map (λ (v : List ℕ). 0x2C ∷ v) ws) ≡ true
plain_joined [] all = refl
plain_joined (w ∷ ws) all = plain_append w (flat_map (λ (v : List ℕ). 0x2C ∷ v) ws) (word_plain w all.0.0)
    (plain_joined ws all.1)

pub joined_word : (w : List ℕ) (ws : List (List ℕ)) → IsItem w → AllByRecursion IsItem ws → IsWord (joined w ws)
joined_word w ws is all = word_append w (flat_map (λ (v : List ℕ). 0x2C ∷ v) ws) is.0 (plain_joined ws all)

none_empty : (ws : List (List ℕ)) → AllByRecursion IsItem ws → list_any is_empty_text ws ≡ false
none_empty [] all = refl
none_empty (w ∷ ws) all = ap (λ b. b || list_any is_empty_text ws) (word_some w all.0.0) ∙ none_empty ws all.1

pub joined_full : (w : List ℕ) (ws : List (List ℕ)) → IsItem w → AllByRecursion IsItem ws
    → has_empty_item (joined w ws) ≡ false
joined_full w ws is all = ap (list_any is_empty_text) (items_joined w ws is all) ∙ none_empty (w ∷ ws) (is, all)

no_star : (word rest : List ℕ) → begins_with_letter word ≡ true → bytes_eq (word ++ rest) (codes "*") ≡ false
no_star [] rest first = absurd (let wrong : false ≡ true = first in cc)
no_star (c ∷ word) rest first = grind (arith, nat_tests)

pub users_joined : (w : List ℕ) (ws : List (List ℕ)) → begins_with_letter w ≡ true → IsItem w
    → AllByRecursion IsItem ws → users_of (joined w ws) ≡ users.Listed (w ∷ ws)
users_joined w ws first is all =
    ap (λ b. if b then users.All else users.Listed (items_of (joined w ws)))
    (no_star w (flat_map (λ (v : List ℕ). 0x2C ∷ v) ws) first)
    ∙ ap users.Listed (items_joined w ws is all)

-- ---- bits

-- a text of bits, and the changes that it means
pub record BitsSay (b : List ℕ) (changes : List BitChange) : Type 0 where
  pub word : IsWord b
  pub fine : is_bits b ≡ true
  pub means : bits_of b ≡ changes
  pub begins : HeadSign b

-- ---- masks

one_more : (n : ℕ) → 1 + n ≡ suc n
one_more n = omega arith

at_head : (ys : List ℕ) → HeadSign ys → sign_place ys ≡ 0
at_head [] h = absurd h
at_head (y ∷ ys) h = ap (λ b. cond (not b) (1 + sign_place ys) 0) h

place_append : (xs ys : List ℕ) → Free is_sign xs → HeadSign ys → sign_place (xs ++ ys) ≡ length xs
place_append [] ys n h = at_head ys h
place_append (x ∷ xs) ys n h = ap (λ b. cond (not b) (1 + sign_place (xs ++ ys)) 0) n.0
    ∙ one_more (sign_place (xs ++ ys)) ∙ ap suc (place_append xs ys n.1 h)

-- users followed by bits
pub cut_mask : (f b : List ℕ) → Free is_sign f → HeadSign b
    → (mask_of (f ++ b) ≡ record { users = mask_users f; bits = bits_of b })
    × (mask_fault (f ++ b) ≡ cond (not (is_bits b)) (Some faults.BadBits)
    (cond (not (is_empty_text f) && has_empty_item f) (Some faults.BadWord) None))
cut_mask f b n h =
    let p = place_append f b n h in
    let x = ap (λ m. take m (f ++ b)) p ∙ take-append_seam f b in
    let y = ap (λ m. drop m (f ++ b)) p ∙ drop-append_seam f b in (
      (λ j. record { users = mask_users (x j); bits = bits_of (y j) }),
      (λ j. cond (not (is_bits (y j))) (Some faults.BadBits)
          (cond (not (is_empty_text (x j)) && has_empty_item (x j)) (Some faults.BadWord) None)),
    )

-- a word of `aclumask`, and what it means
pub record MaskSays (t : List ℕ) (m : Mask) : Type 0 where
  pub word : IsWord t
  pub fine : mask_fault t ≡ None
  pub means : mask_of t ≡ m

pub mask_says : (t b : List ℕ) (changes : List BitChange) → IsItem t → begins_with_letter t ≡ true → Free is_sign t
    → BitsSay b changes → MaskSays (t ++ b) (record { users = Some (users.Listed (t ∷ [])); bits = changes })
mask_says t b changes is first unsigned s =
    let cut = cut_mask t b unsigned s.begins in
    let lone : joined t [] ≡ t = append-nil t in
    let some = word_some t is.0 in
    let full : has_empty_item t ≡ false = ap has_empty_item (sym lone) ∙ joined_full t [] is tt in
    let listed : users_of t ≡ users.Listed (t ∷ []) = ap users_of (sym lone) ∙ users_joined t [] first is tt in
    record {
      word = word_append t b is.0 (word_plain b s.word);
      fine = cut.1 ∙ ap (λ c. cond (not c) (Some faults.BadBits)
          (cond (not (is_empty_text t) && has_empty_item t) (Some faults.BadWord) None)) s.fine
          ∙ ap (λ c. cond (not (is_empty_text t) && c) (Some faults.BadWord) None) full
          ∙ ap (λ c. cond (not c && false) (Some faults.BadWord) None) some;
      means = cut.0 ∙ ap (λ c. record { users = cond c None (Some (users_of t)); bits = bits_of b }) some
          ∙ (λ j. record { users = Some (listed j); bits = s.means j });
    }

-- ---- lines

pub says_change : (w : List ℕ) (ws : List (List ℕ)) (b : List ℕ) (changes : List BitChange) (i : List ℕ)
    (is : List (List ℕ)) → begins_with_letter w ≡ true → IsItem w → AllByRecursion IsItem ws → BitsSay b changes
    → IsItem i → AllByRecursion IsItem is
    → Says name.Aclchg (joined w ws ∷ b ∷ joined i is ∷ []) (command.Aclchg (users.Listed (w ∷ ws)) changes (i ∷ is))
says_change w ws b changes i is first one rest s item items = record {
  words = (joined_word w ws one rest, (s.word, (joined_word i is item items, tt)));
  fit = (
    ap (λ c. unless (not c) faults.BadWord) (joined_full w ws one rest),
    ap (λ c. unless c faults.BadBits) s.fine,
    ap (λ c. unless (not c) faults.BadWord) (joined_full i is item items),
  );
  means = λ j. Some (command.Aclchg (users_joined w ws first one rest j) (s.means j) (items_joined i is item items j));
}

pub says_group : (u l : List ℕ) → IsWord u → IsWord l → bytes_eq l (codes "none") ≡ false
    → Says name.Aclgrp (u ∷ l ∷ []) (command.Aclgrp u (Some (leader.Named l)))
says_group u l word other named = record {
  words = (word, (other, tt));
  fit = (refl, refl);
  means = ap (λ b. Some (command.Aclgrp u (Some (if b then leader.Nobody else leader.Named l)))) named;
}

-- each text is a word of `aclumask`
abbrev pub AllMasks : List (List ℕ) → List Mask → Type 0
AllMasks [] [] = Unit {0}
AllMasks (t ∷ ts) (m ∷ ms) = MaskSays t m × AllMasks ts ms
AllMasks _ _ = ⊥

mask_words : (ts : List (List ℕ)) (ms : List Mask) → AllMasks ts ms → AreWords ts
mask_words [] [] all = tt
mask_words [] (m ∷ ms) all = absurd all
mask_words (t ∷ ts) [] all = absurd all
mask_words (t ∷ ts) (m ∷ ms) all = (all.0.word, mask_words ts ms all.1)

masks_fit : (ts : List (List ℕ)) (ms : List Mask) → AllMasks ts ms → AllFit kind.Mask ts
masks_fit [] [] all = tt
masks_fit [] (m ∷ ms) all = absurd all
masks_fit (t ∷ ts) [] all = absurd all
masks_fit (t ∷ ts) (m ∷ ms) all = (all.0.fine, masks_fit ts ms all.1)

masks_mean : (ts : List (List ℕ)) (ms : List Mask) → AllMasks ts ms → map mask_of ts ≡ ms
masks_mean [] [] all = refl
masks_mean [] (m ∷ ms) all = absurd all
masks_mean (t ∷ ts) [] all = absurd all
masks_mean (t ∷ ts) (m ∷ ms) all = (λ j. all.0.means j ∷ masks_mean ts ms all.1 j)

pub says_masks : (t : List ℕ) (ts : List (List ℕ)) (m : Mask) (ms : List Mask) → MaskSays t m → AllMasks ts ms
    → Says name.Aclumask (t ∷ ts) (command.Aclumask (m ∷ ms))
says_masks t [] m [] one all = record {
  words = (one.word, tt);
  fit = (one.fine, tt);
  means = ap (λ (x : Mask). Some (command.Aclumask (x ∷ []))) one.means;
}
says_masks t [] m (n ∷ ms) one all = absurd all
says_masks t (s ∷ ts) m [] one all = absurd all
says_masks t (s ∷ ts) m (n ∷ ms) one all = record {
  words = mask_words (t ∷ s ∷ ts) (m ∷ n ∷ ms) (one, all);
  fit = masks_fit (t ∷ s ∷ ts) (m ∷ n ∷ ms) (one, all);
  means = ap (λ (x : List Mask). Some (command.Aclumask x)) (masks_mean (t ∷ s ∷ ts) (m ∷ n ∷ ms) (one, all));
}

pub says_multiuser : Says name.Multiuser (codes "on" ∷ []) (command.Multiuser true)
says_multiuser = record { words = (refl, tt); fit = refl; means = refl }

pub says_auto : Says name.Defwritelock (codes "auto" ∷ []) (command.Defwritelock lock_mode.Auto)
says_auto = record { words = (refl, tt); fit = refl; means = refl }

pub says_on : Says name.Defwritelock (codes "on" ∷ []) (command.Defwritelock lock_mode.On)
says_on = record { words = (refl, tt); fit = refl; means = refl }
