-- What is seen of the acts that tell something is seen of all acts.
use Rattle.trail_rights.proofs.Vocabulary.{◌≡◌, ◌∙◌, ℕ, Bool, true, false, ◌&&◌, List, [], ◌∷◌, ◌++◌, Some, None, refl}
use Rattle.trail_rights.proofs.Vocabulary.{ap, sym, subst, append-nil, map, cond, ◌==◌, is_some, unwrap_or}
use Rattle.trail_rights.proofs.Vocabulary.{AllByRecursion, list_all, and_parts, eqb-true, false≢true, Act, Object}
use Rattle.trail_rights.proofs.Vocabulary.{Window, Command, Bit, UserId, decides_known, latest, there, Decider, Mark}
use Rattle.trail_rights.proofs.Vocabulary.{RightsSetting, Settler, Marked, acts_in, marked_on, HasDecided}
use Rattle.trail_rights.proofs.Vocabulary.{decider_after, decides, deciding, sought_by, there_after, asks, is_asked}
use Rattle.trail_rights.proofs.Vocabulary.{tells, told, HasSettled, settles, settling, value_of, HasSeen, windows_after}
use Rattle.trail_rights.proofs.Vocabulary.{windows_of}
use Rattle.acl.specs.declared.act.Act.TheVariants as act
use Rattle.acl.specs.Same.{same_bit, same_object, same_user, index_of_command, place_of_bit}
use Rattle.trail_rights.specs.declared.acts.AskedBits.{AskedBits}
use Rattle.trail_rights.specs.declared.acts.AskedBits.TheVariants as asked
use Rattle.trail_rights.specs.declared.settler.RightsSetting.TheVariants as setting
use Rattle.trail_rights.specs.declared.sight.Sight.{Sight}
use Rattle.trail_rights.proofs.Decided.{decided_next}
use Rattle.trail_rights.proofs.Seen.{marked_one_more}

-- an act is kept or not
pub kept_more : (b : Bool) (items marked : Marked) (p : Mark × Act) → marked_on [] items ≡ marked
    → marked_on [] (items ++ cond b (p ∷ []) []) ≡ cond b (p ∷ marked) marked
kept_more true items marked p is = marked_one_more [] items p ∙ ap (λ l. p ∷ l) is
kept_more false items marked p is = ap (marked_on []) (append-nil items) ∙ is

-- ---- an act that tells nothing

module _ (asked : AskedBits) where
  windows_stay : (a : Act) (before : List ℕ) → tells asked a ≡ false → windows_after a before ≡ before
  windows_stay (act.Opened by w) before e = absurd (false≢true (sym e))
  windows_stay (act.Closed w) before e = absurd (false≢true (sym e))
  windows_stay a before e = refl

  settles_none : (a : Act) (s : RightsSetting) → tells asked a ≡ false → settles s a ≡ None
  settles_none (act.Known u) s e = absurd (false≢true (sym e))
  settles_none (act.Gone u) s e = absurd (false≢true (sym e))
  settles_none (act.Masked by u b value) s e = absurd (false≢true (sym e))
  settles_none (act.Preset kind b value) s e = absurd (false≢true (sym e))
  settles_none a (setting.Listed u) e = refl
  settles_none a (setting.Mask by u b) e = refl
  settles_none a (setting.Preset kind b) e = refl

  known_none : (a : Act) (u : UserId) → tells asked a ≡ false → decides_known u a ≡ None
  known_none a u e = settles_none a (setting.Listed u) e

  there_stays : (a : Act) (o : Object) (before : Bool) → tells asked a ≡ false → there_after a o before ≡ before
  there_stays (act.Opened by v) o before e = absurd (false≢true (sym e))
  there_stays (act.Closed v) o before e = absurd (false≢true (sym e))
  there_stays a (Window w) before e = refl
  there_stays a (Command c) before e = refl

-- bits that are the same on objects that are the same are asked about alike
same_place : (o p q : Object) → same_object o p ≡ true → same_object o q ≡ same_object p q
same_place (Window v) (Window w) (Window x) e = ap (λ n. n == x) (eqb-true v w e)
same_place (Window v) (Window w) (Command x) e = refl
same_place (Command c) (Command d) (Command x) e =
    ap (λ n. n == index_of_command x) (eqb-true (index_of_command c) (index_of_command d) e)
same_place (Command c) (Command d) (Window x) e = refl
same_place (Window v) (Command d) q e = absurd (false≢true e)
same_place (Command c) (Window w) q e = absurd (false≢true e)

same_asked : (a : AskedBits) (b c : Bit) (o p : Object) → same_bit b c ≡ true → same_object o p ≡ true
    → asks a b o ≡ asks a c p
same_asked asked.Nothing b c o p e f = refl
same_asked (asked.On bit object) b c o p e f =
    ap (λ n. (n == place_of_bit bit) && same_object o object) (eqb-true (place_of_bit b) (place_of_bit c) e)
    ∙ ap (λ s. same_bit c bit && s) (same_place o p object f)
same_asked (asked.Windows bit) b c (Window v) (Window w) e f =
    ap (λ n. n == place_of_bit bit) (eqb-true (place_of_bit b) (place_of_bit c) e)
same_asked (asked.Windows bit) b c (Command v) (Command w) e f = refl
same_asked (asked.Commands bit) b c (Window v) (Window w) e f = refl
same_asked (asked.Commands bit) b c (Command v) (Command w) e f =
    ap (λ n. n == place_of_bit bit) (eqb-true (place_of_bit b) (place_of_bit c) e)
same_asked a b c (Window v) (Command w) e f = absurd (false≢true f)
same_asked a b c (Command v) (Window w) e f = absurd (false≢true f)

-- a bit that isn't asked about isn't the one that is looked for
other_bit : (a : AskedBits) (b c : Bit) (o p : Object) (same : Bool) → (same_bit b c && same_object o p) ≡ same
    → asks a b o ≡ false → asks a c p ≡ true → same ≡ false
other_bit a b c o p false e none some = refl
other_bit a b c o p true e none some =
    let both = and_parts (same_bit b c) (same_object o p) e in
    absurd (false≢true (sym none ∙ same_asked a b c o p both.0 both.1 ∙ some))

undecided : (asked : AskedBits) (a : Act) (d : Decider) → tells asked a ≡ false → is_asked asked d ≡ true
    → decides d a ≡ false
undecided asked (act.Known u) d e is = absurd (false≢true (sym e))
undecided asked (act.Gone u) d e is = absurd (false≢true (sym e))
undecided asked (act.Opened by w) d e is = absurd (false≢true (sym e))
undecided asked (act.Set u b o value) d e is =
    all_three (same_user u d.user) (same_bit b d.bit) (same_object o d.object)
    (other_bit asked b d.bit o d.object (same_bit b d.bit && same_object o d.object) refl e is)
  where
    all_three : (x y z : Bool) → (y && z) ≡ false → (x && y && z) ≡ false
    all_three false y z e = refl
    all_three true y z e = e
undecided asked a d e is = refl

-- ---- a decider that looks for a bit that is asked about

module _ (asked : AskedBits) (owner u : UserId) (bit : Bit) (object : Object) (is : asks asked bit object ≡ true) where
  -- what it has found after these acts
  abbrev after : Marked → Decider
  after marked = record {
    owner = owner;
    user = u;
    bit = bit;
    object = object;
    listed = latest (decides_known u) false (acts_in marked);
    there = there (acts_in marked) object;
    found = deciding owner marked u bit object;
  }

  has_after : (marked : Marked) → HasDecided owner marked (after marked)
  has_after marked = record { owner_is = refl; listed = refl; there_is = refl; found = refl }

  one_more : (marked : Marked) (m : Mark) (a : Act) → after ((m, a) ∷ marked) ≡ decider_after m a (after marked)
  one_more marked m a =
      let next = decided_next owner marked (after marked) m a (has_after marked) in
      sym (ap (λ l. record (decider_after m a (after marked)) { listed = l }) next.listed
      ∙ ap (λ t. record (decider_after m a (after marked)) {
        listed = latest (decides_known u) false (a ∷ acts_in marked);
        there = t;
      }) next.there_is
      ∙ ap (λ f. record (decider_after m a (after marked)) {
        listed = latest (decides_known u) false (a ∷ acts_in marked);
        there = there (a ∷ acts_in marked) object;
        found = f;
      }) next.found)

  -- an act that tells nothing leaves it as it was
  none_more : (m : Mark) (a : Act) (marked : Marked) → tells asked a ≡ false
      → decider_after m a (after marked) ≡ after marked
  none_more m a marked e =
      let d = after marked in
      ap (λ o. record (decider_after m a d) { listed = unwrap_or o d.listed }) (known_none asked a u e)
      ∙ ap (λ t. record (decider_after m a d) { listed = d.listed; there = t })
      (there_stays asked a object d.there e)
      ∙ ap (λ b. record d { found = cond b (Some (m, a)) d.found }) (undecided asked a d e is)

  next : (m : Mark) (a : Act) (marked : Marked) (b : Bool) → tells asked a ≡ b
      → HasDecided owner marked (after (told asked marked))
      → HasDecided owner ((m, a) ∷ marked) (after (cond b ((m, a) ∷ told asked marked) (told asked marked)))
  next m a marked true e all = subst (HasDecided owner ((m, a) ∷ marked)) (sym (one_more (told asked marked) m a))
      (decided_next owner marked (after (told asked marked)) m a all)
  next m a marked false e all = subst (HasDecided owner ((m, a) ∷ marked)) (none_more m a (told asked marked) e)
      (decided_next owner marked (after (told asked marked)) m a all)

  decided_by_all : (marked : Marked) → HasDecided owner marked (after (told asked marked))
  decided_by_all [] = has_after []
  decided_by_all ((m, a) ∷ marked) = next m a marked (tells asked a) refl (decided_by_all marked)

decided_whole : (asked : AskedBits) (owner : UserId) (marked : Marked) (d : Decider) → is_asked asked d ≡ true
    → HasDecided owner (told asked marked) d → HasDecided owner marked d
decided_whole asked owner marked d is has =
    let all = decided_by_all asked owner d.user d.bit d.object is marked in record {
      owner_is = has.owner_is;
      listed = has.listed ∙ all.listed;
      there_is = has.there_is ∙ all.there_is;
      found = has.found ∙ all.found;
    }

-- ---- settings, and windows

module _ (asked : AskedBits) where
  value_next : (s : RightsSetting) (m : Mark) (a : Act) (marked : Marked) (b : Bool) → tells asked a ≡ b
      → value_of s (acts_in (told asked marked)) ≡ value_of s (acts_in marked)
      → value_of s (acts_in (cond b ((m, a) ∷ told asked marked) (told asked marked)))
      ≡ value_of s (a ∷ acts_in marked)
  value_next s m a marked true e is = ap (unwrap_or (settles s a)) is
  value_next s m a marked false e is =
      is ∙ sym (ap (λ o. unwrap_or o (value_of s (acts_in marked))) (settles_none asked a s e))

  value_whole : (s : RightsSetting) (marked : Marked)
      → value_of s (acts_in (told asked marked)) ≡ value_of s (acts_in marked)
  value_whole s [] = refl
  value_whole s ((m, a) ∷ marked) = value_next s m a marked (tells asked a) refl (value_whole s marked)

  found_next : (s : RightsSetting) (m : Mark) (a : Act) (marked : Marked) (b : Bool) → tells asked a ≡ b
      → settling (told asked marked) s ≡ settling marked s
      → settling (cond b ((m, a) ∷ told asked marked) (told asked marked)) s ≡ settling ((m, a) ∷ marked) s
  found_next s m a marked true e is = ap (cond (is_some (settles s a)) (Some (m, a))) is
  found_next s m a marked false e is =
      is ∙ sym (ap (λ o. cond (is_some o) (Some (m, a)) (settling marked s)) (settles_none asked a s e))

  found_whole : (s : RightsSetting) (marked : Marked) → settling (told asked marked) s ≡ settling marked s
  found_whole s [] = refl
  found_whole s ((m, a) ∷ marked) = found_next s m a marked (tells asked a) refl (found_whole s marked)

  windows_next : (m : Mark) (a : Act) (marked : Marked) (b : Bool) → tells asked a ≡ b
      → windows_of (acts_in (told asked marked)) ≡ windows_of (acts_in marked)
      → windows_of (acts_in (cond b ((m, a) ∷ told asked marked) (told asked marked)))
      ≡ windows_after a (windows_of (acts_in marked))
  windows_next m a marked true e is = ap (windows_after a) is
  windows_next m a marked false e is = is ∙ sym (windows_stay asked a (windows_of (acts_in marked)) e)

  windows_whole : (marked : Marked) → windows_of (acts_in (told asked marked)) ≡ windows_of (acts_in marked)
  windows_whole [] = refl
  windows_whole ((m, a) ∷ marked) = windows_next m a marked (tells asked a) refl (windows_whole marked)

  all_decided : (owner : UserId) (marked : Marked) (deciders : List Decider)
      → list_all (is_asked asked) deciders ≡ true → AllByRecursion (HasDecided owner (told asked marked)) deciders
      → AllByRecursion (HasDecided owner marked) deciders
  all_decided owner marked [] is all = tt
  all_decided owner marked (d ∷ deciders) is all =
      let both = and_parts (is_asked asked d) (list_all (is_asked asked) deciders) is in
      (decided_whole asked owner marked d both.0 all.0, all_decided owner marked deciders both.1 all.1)

  all_settled : (marked : Marked) (settlers : List Settler)
      → AllByRecursion (HasSettled (told asked marked)) settlers → AllByRecursion (HasSettled marked) settlers
  all_settled marked [] all = tt
  all_settled marked (s ∷ settlers) all = (
    record {
      value = all.0.value ∙ value_whole s.setting marked;
      found = all.0.found ∙ found_whole s.setting marked;
    },
    all_settled marked settlers all.1,
  )

  -- whether deciders look for what is asked about goes by what they look for
  asked_by_keys : (deciders : List Decider)
      → list_all (is_asked asked) deciders ≡ list_all (λ (k : UserId × Bit × Object). asks asked k.1 k.2)
      (map sought_by deciders)
  asked_by_keys [] = refl
  asked_by_keys (d ∷ deciders) = ap (λ b. is_asked asked d && b) (asked_by_keys deciders)

  pub seen_whole : (s : Sight) (owner : UserId) (marked : Marked) (deciders : List Decider)
      → map sought_by s.deciders.items ≡ map sought_by deciders → list_all (is_asked asked) deciders ≡ true
      → HasSeen s owner (told asked marked) → HasSeen s owner marked
  seen_whole s owner marked deciders same is seen = record {
    windows = seen.windows ∙ windows_whole marked;
    deciders = all_decided owner marked s.deciders.items
        (asked_by_keys s.deciders.items
        ∙ ap (list_all (λ (k : UserId × Bit × Object). asks asked k.1 k.2)) same
        ∙ sym (asked_by_keys deciders) ∙ is) seen.deciders;
    settlers = all_settled marked s.settlers.items seen.settlers;
  }
