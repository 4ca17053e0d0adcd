-- What openers leave: closed masks, and otherwise what was there.
use Rattle.trail_again.proofs.Vocabulary.{◌≡◌, ◌∙◌, Bool, true, false, List, [], ◌∷◌, ◌++◌, refl, ap, sym, subst}
use Rattle.trail_again.proofs.Vocabulary.{if◌then◌else◌, ◌||◌, ◌&&◌, None, append_assoc, unwrap_or, flat_map, Act}
use Rattle.trail_again.proofs.Vocabulary.{Object, Command, Bit, Execute, Read, Write, UserId, History, among, decided}
use Rattle.trail_again.proofs.Vocabulary.{followed_by, has, mask, same_bit, same_object, same_user, followed_by-append}
use Rattle.trail_again.proofs.Vocabulary.{same_user-true, bit_in, Known, all_bits, are_any, closed_bits, differing}
use Rattle.trail_again.proofs.Vocabulary.{is_first, said_bits, words_of, First}
use Rattle.acl.specs.declared.act.Act.TheVariants as act
use Rattle.acl.specs.declared.command_name.CommandName.TheVariants as name
use Rattle.trail_again.proofs.Blocks.{HasNothing}
use Rattle.trail_again.proofs.Masking.{around, bit_said, lent_bit, masks_off, nothing_said, one_said, opener_acts, said}
use Rattle.trail_again.proofs.Masking.{said_of}
use Rattle.trail_again.proofs.Openers.{Said, acts_for}
use Rattle.trail_again.proofs.Setting.{Distinct, keyed}
use Rattle.trail_again.proofs.Touching.{Without, commands_stay, none_append, none_flat, on_commands, stays}

flat_acts : (by : UserId) (xs ys : List Said)
    → flat_map (acts_for by) (xs ++ ys) ≡ flat_map (acts_for by) xs ++ flat_map (acts_for by) ys
flat_acts by [] ys = refl
flat_acts by (x ∷ xs) ys = ap (λ (l : List Act). acts_for by x ++ l) (flat_acts by xs ys)
    ∙ sym (append_assoc (acts_for by x) (flat_map (acts_for by) xs) (flat_map (acts_for by) ys))

flat_users : (by : UserId) (f : UserId → List Said) (us : List UserId)
    → flat_map (acts_for by) (flat_map f us) ≡ flat_map (λ u. flat_map (acts_for by) (f u)) us
flat_users by f [] = refl
flat_users by f (u ∷ us) = flat_acts by (f u) (flat_map f us)
    ∙ ap (λ (l : List Act). flat_map (acts_for by) (f u) ++ l) (flat_users by f us)

module _ (owner : UserId) (from : History) (m : Known) (by0 u0 : UserId) (bit : Bit) where
  abbrev val : History → Bool
  val g = mask g by0 u0 bit

  -- of one opener
  one_opener : (by : UserId) (h : History) → Distinct m.users
      → val (followed_by h (flat_map (acts_for by) (said owner from m by)))
      ≡ (if among m.users u0
      then (if same_user by0 by then bit_said bit (said_bits false owner from m by u0) (val h) else val h) else val h)
  one_opener by h d =
      ap (λ (l : List Act). val (followed_by h l)) (flat_users by (said_of owner from m by) m.users)
      ∙ keyed val (λ u. flat_map (acts_for by) (said_of owner from m by u)) u0
      (λ old. if same_user by0 by then bit_said bit (said_bits false owner from m by u0) old else old) step m.users h d
    where
      step : (x : UserId) (g : History)
          → val (followed_by g (flat_map (acts_for by) (said_of owner from m by x)))
          ≡ (if same_user u0 x
          then (if same_user by0 by then bit_said bit (said_bits false owner from m by u0)
          (val g) else val g) else val g)
      step x g = one_said owner from m by0 u0 bit by x (said_bits false owner from m by x) g ∙ at (same_user u0 x) refl
        where
          at : (b : Bool) → same_user u0 x ≡ b
              → (if b then (if same_user by0 by then bit_said bit (said_bits false owner from m by x)
              (val g) else val g)
              else val g)
              ≡ (if b then (if same_user by0 by then bit_said bit (said_bits false owner from m by u0) (val g)
              else val g) else val g)
          at true e = ap (λ (y : UserId). if same_user by0 by
              then bit_said bit (said_bits false owner from m by y) (val g) else val g) (sym (same_user-true u0 x e))
          at false e = refl

  abbrev pub left_by : Bool → Bool
  left_by old = if among m.users u0 then bit_said bit (said_bits false owner from m by0 u0) old else old

  flip : (by : UserId) (h : History)
      → (if among m.users u0
      then (if same_user by0 by then bit_said bit (said_bits false owner from m by u0) (val h) else val h) else val h)
      ≡ (if same_user by0 by then left_by (val h) else val h)
  flip by h = at (same_user by0 by) (among m.users u0) refl
    where
      at : (b a : Bool) → same_user by0 by ≡ b
          → (if a then (if b then bit_said bit (said_bits false owner from m by u0) (val h) else val h) else val h)
          ≡ (if b then (if a then bit_said bit (said_bits false owner from m by0 u0) (val h) else val h) else val h)
      at true true e = ap (λ (y : UserId). bit_said bit (said_bits false owner from m y u0) (val h))
          (sym (same_user-true by0 by e))
      at true false e = refl
      at false true e = refl
      at false false e = refl

  opener_left : (by : UserId) (h : History) → Distinct m.users
      → val (followed_by h (opener_acts owner from m by)) ≡ (if same_user by0 by then left_by (val h) else val h)
  opener_left by h d = at (is_first m.users by) (are_any (words_of false owner from m by)) refl
    where
      at : (f a : Bool) → are_any (words_of false owner from m by) ≡ a
          → val (followed_by h (if f then flat_map (acts_for by) (said owner from m by)
          else around a by (flat_map (acts_for by) (said owner from m by))))
          ≡ (if same_user by0 by then left_by (val h) else val h)
      at true a e = one_opener by h d ∙ flip by h
      at false true e =
          ap val (followed_by-append (lent_bit by true ∷ h) (flat_map (acts_for by) (said owner from m by))
          (lent_bit by false ∷ []))
          ∙ one_opener by (lent_bit by true ∷ h) d ∙ flip by (lent_bit by true ∷ h)
      at false false e =
          ap (λ (xs : List Said). val (followed_by h (flat_map (acts_for by) xs)))
          (sym (nothing_said First owner from m by e))
          ∙ one_opener by h d ∙ flip by h

  -- of all
  pub openers_left : (h : History) → Distinct m.users
      → val (followed_by h (flat_map (opener_acts owner from m) m.users))
      ≡ (if among m.users by0 then left_by (val h) else val h)
  openers_left h d = keyed val (opener_acts owner from m) by0 left_by (λ x g. opener_left x g d) m.users h d

-- ---- closed masks

closed_so : (a b c : Bool) (bit : Bit) → bit_said bit (differing (a ∷ b ∷ c ∷ []) all_bits) true
    ≡ bit_in bit (a ∷ b ∷ c ∷ [])
closed_so true true true Read = refl
closed_so true true true Write = refl
closed_so true true true Execute = refl
closed_so true true false bit = refl
closed_so true false true bit = refl
closed_so true false false bit = refl
closed_so false true true bit = refl
closed_so false true false bit = refl
closed_so false false true bit = refl
closed_so false false false bit = refl

pub closed_left : (owner : UserId) (from : History) (m : Known) (by u : UserId) (bit : Bit)
    → same_user u by ≡ false → is_first m.users u ≡ false
    → bit_said bit (said_bits false owner from m by u) true ≡ bit_in bit (closed_bits owner from m by u)
closed_left owner from m by u bit apart other =
    (λ j. bit_said bit (if apart j || other j then None else differing (closed_bits owner from m by u) all_bits) true)
    ∙ closed_so _ _ _ bit

-- ---- what openers don't change

module _ (on : Act → Bool) (masked : (by u : UserId) (bit : Bit) (v : Bool) → on (act.Masked by u bit v) ≡ false)
    (set : (u : UserId) (bit : Bit) (o : Object) (v : Bool) → on (act.Set u bit o v) ≡ false) (owner : UserId)
    (from : History) (m : Known) where
  pub opener_without : (by : UserId) → Without on (opener_acts owner from m by)
  opener_without by = at (is_first m.users by) (are_any (words_of false owner from m by))
    where
      at : (f a : Bool) → Without on (if f then flat_map (acts_for by) (said owner from m by)
          else around a by (flat_map (acts_for by) (said owner from m by)))
      at true a = masks_off on masked by (said owner from m by)
      at false true = (
        set by Execute (Command name.Aclumask) true,
        none_append on (flat_map (acts_for by) (said owner from m by)) (lent_bit by false ∷ [])
            (masks_off on masked by (said owner from m by)) (set by Execute (Command name.Aclumask) false, tt),
      )
      at false false = tt

  pub openers_without : (us : List UserId) → Without on (flat_map (opener_acts owner from m) us)
  openers_without us = none_flat on (opener_acts owner from m) us opener_without

-- x was lent, and is taken again
lent_gone : (owner by : UserId) (acts : List Act) (h : History) → Without on_commands acts → HasNothing owner h
    → HasNothing owner (lent_bit by false ∷ followed_by (lent_bit by true ∷ h) acts)
lent_gone owner by acts h off none u bit c =
    ap (λ b. unwrap_or (decided (same_user by u && same_bit Execute bit
    && same_object (Command name.Aclumask) (Command c)) false) b)
    (stays (λ g. has owner g u bit (Command c)) on_commands (commands_stay owner u bit c) acts
    (lent_bit by true ∷ h) off)
    ∙ at (same_user by u && same_bit Execute bit && same_object (Command name.Aclumask) (Command c))
  where
    at : (b : Bool) → unwrap_or (decided b false) (unwrap_or (decided b true) (has owner h u bit (Command c))) ≡ false
    at true = refl
    at false = none u bit c

opener_nothing : (owner : UserId) (from : History) (m : Known) (by : UserId) (h : History) → HasNothing owner h
    → HasNothing owner (followed_by h (opener_acts owner from m by))
opener_nothing owner from m by h none = at (is_first m.users by) (are_any (words_of false owner from m by))
  where
    off : Without on_commands (flat_map (acts_for by) (said owner from m by))
    off = masks_off on_commands (λ b u bit v. refl) by (said owner from m by)

    at : (f a : Bool) → HasNothing owner (followed_by h (if f then flat_map (acts_for by) (said owner from m by)
        else around a by (flat_map (acts_for by) (said owner from m by))))
    at true a = λ u bit c. stays (λ g. has owner g u bit (Command c)) on_commands (commands_stay owner u bit c)
        (flat_map (acts_for by) (said owner from m by)) h off ∙ none u bit c
    at false true = subst (HasNothing owner)
        (sym (followed_by-append (lent_bit by true ∷ h) (flat_map (acts_for by) (said owner from m by))
        (lent_bit by false ∷ [])))
        (lent_gone owner by (flat_map (acts_for by) (said owner from m by)) h off none)
    at false false = none

pub openers_nothing : (owner : UserId) (from : History) (m : Known) (us : List UserId) (h : History)
    → HasNothing owner h → HasNothing owner (followed_by h (flat_map (opener_acts owner from m) us))
openers_nothing owner from m [] h none = none
openers_nothing owner from m (by ∷ us) h none =
    subst (HasNothing owner)
    (sym (followed_by-append h (opener_acts owner from m by) (flat_map (opener_acts owner from m) us)))
    (openers_nothing owner from m us (followed_by h (opener_acts owner from m by))
    (opener_nothing owner from m by h none))
