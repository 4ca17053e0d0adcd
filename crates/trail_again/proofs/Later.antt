-- What is for later: comments, which a session isn't given.
use Rattle.trail_again.proofs.Vocabulary.{◌≡◌, ◌∙◌, ℕ, Bool, true, false, List, [], ◌∷◌, ◌++◌, refl, ap, subst, codes}
use Rattle.trail_again.proofs.Vocabulary.{if◌then◌else◌, ◌||◌, Option, Some, None, append_assoc, arith, slice_index_or}
use Rattle.trail_again.proofs.Vocabulary.{AllByRecursion, flat_map, nat_tests, Edition, UserId, History, is_name_byte}
use Rattle.trail_again.proofs.Vocabulary.{name_of, is_feed, Tables, Part, bits_text, given_text, line, Known, are_any}
use Rattle.trail_again.proofs.Vocabulary.{is_first, is_lent, lent_text, mask_kind, mask_parts, other_head, other_parts}
use Rattle.trail_again.proofs.Vocabulary.{owner_head, parts_by, said_bits, word_of, words_in, words_of, later_parts}
use Rattle.trail_again.proofs.Vocabulary.{later_start, mode_text, session_after, same_user}
use Rattle.trail_setup.specs.declared.mode.ModeSeen.{ModeSeen}
use Rattle.trail_setup.specs.declared.mode.ModeSeen.TheVariants.{Multiuser, Single, Unsaid}
use Rattle.trail_again.proofs.Leading.{Leads, comments_lead, leads_comment, leads_nothing, leads_then}
use Rattle.trail_again.proofs.Putting.{PartsLead, lines_part, parts_nothing, parts_then, text_part}
use Rattle.trail_again.proofs.Reading.{Free, free_append, free_from}
use Rattle.trail_again.proofs.Wording.{HasName, name_text_is}

-- bytes without a line feed
abbrev Whole : List ℕ → Type 0
Whole xs = Free is_feed xs

name_feed : (c : ℕ) → is_name_byte c ≡ true → is_feed c ≡ false
name_feed c is = grind (arith, nat_tests)

whole_name : (u : UserId) → HasName u → Whole (name_of u)
whole_name u named = free_from is_name_byte is_feed name_feed (name_of u) (name_text_is u named).bytes

whole_bits : (r w x : Bool) → Whole (bits_text r w x)
whole_bits true true true = search
whole_bits true true false = search
whole_bits true false true = search
whole_bits true false false = search
whole_bits false true true = search
whole_bits false true false = search
whole_bits false false true = search
whole_bits false false false = search

whole_given : (given : List Bool) → Whole (given_text given)
whole_given given = whole_bits (slice_index_or given 0 false) (slice_index_or given 1 false)
    (slice_index_or given 2 false)

whole_spaced : (ws : List (List ℕ)) → AllByRecursion Whole ws → Whole (flat_map (λ (v : List ℕ). 0x20 ∷ v) ws)
whole_spaced [] all = tt
whole_spaced (w ∷ ws) all = (
  refl,
  free_append is_feed w (flat_map (λ (v : List ℕ). 0x20 ∷ v) ws) all.0
      (whole_spaced ws all.1),
)

whole_append : (xs ys : List ℕ) → Whole xs → Whole ys → Whole (xs ++ ys)
whole_append xs ys a b = free_append is_feed xs ys a b

module _ (owner : UserId) (t : Tables) where
  -- a line that begins with the mark of a comment
  comment : (text : List ℕ) → Whole text → Leads owner t ((0x23 ∷ text) ++ 0x0A ∷ []) t
  comment text whole = leads_comment owner t (0x23 ∷ text) (refl, whole) refl

  mask_comment : (head : List ℕ) → Whole head → (l : List ℕ × List (List ℕ)) → AllByRecursion Whole (l.0 ∷ l.1)
      → Leads owner t (line (mask_kind (0x23 ∷ head)) l) t
  mask_comment head whole l all = comment (head ++ 0x20 ∷ (l.0 ++ flat_map (λ (v : List ℕ). 0x20 ∷ v) l.1))
      (whole_append head (0x20 ∷ (l.0 ++ flat_map (λ (v : List ℕ). 0x20 ∷ v) l.1)) whole
      (refl, whole_append l.0 (flat_map (λ (v : List ℕ). 0x20 ∷ v) l.1) all.0 (whole_spaced l.1 all.1)))

  mode_leads : (mode : ModeSeen) → Leads owner t (mode_text mode) t
  mode_leads Multiuser = leads_nothing owner t
  mode_leads Single = comment (codes " later: multiuser off") (search)
  mode_leads Unsaid = leads_then owner t t t (codes "# later: multiuser off\n")
      (codes "# (somebody typed multiuser on or off, which the trail doesn't have)\n")
      (comment (codes " later: multiuser off") (search))
      (comment (codes " (somebody typed multiuser on or off, which the trail doesn't have)") (search))

  lent_shape : (u b : List ℕ)
      → (codes "# later: aclchg " ++ (u ++ (b ++ codes " aclumask"))) ++ 0x0A ∷ []
      ≡ codes "# later: aclchg " ++ (u ++ (b ++ codes " aclumask\n"))
  lent_shape u b = ap (λ (l : List ℕ). codes "# later: aclchg " ++ l)
      (append_assoc u (b ++ codes " aclumask") (0x0A ∷ [])
      ∙ ap (λ (l : List ℕ). u ++ l) (append_assoc b (codes " aclumask") (0x0A ∷ [])))

  lent_leads : (by : UserId) (b : List ℕ) → HasName by → Whole b → Leads owner t (lent_text later_start by b) t
  lent_leads by b named whole = subst (λ (l : List ℕ). Leads owner t l t) (lent_shape (name_of by) b)
      (comment (codes " later: aclchg " ++ (name_of by ++ (b ++ codes " aclumask")))
      (whole_append (codes " later: aclchg ") (name_of by ++ (b ++ codes " aclumask")) (search)
      (whole_append (name_of by) (b ++ codes " aclumask") (whole_name by named)
      (whole_append b (codes " aclumask") whole (search)))))

module _ (edition : Edition) (owner : UserId) (from : History) (m : Known) (h : History) where
  -- each user but the first has a name
  abbrev Named : UserId → Type 0
  Named u = is_first m.users u ≡ false → HasName u

  word_whole : (by u : UserId) → Named u → AllByRecursion Whole (word_of true owner from m by u)
  word_whole by u named = at (is_first m.users u) refl
    where
      in_words : (o : Option (List Bool)) → HasName u → AllByRecursion Whole (words_in u o)
      in_words None has = tt
      in_words (Some given) has =
          (whole_append (name_of u) (given_text given) (whole_name u has) (whole_given given), tt)

      off : (a b : Bool) (o : Option (List Bool)) → b ≡ true
          → AllByRecursion Whole (words_in u (if a || b then None else o))
      off true b o e = tt
      off false true o e = tt
      off false false o e = absurd (let wrong : false ≡ true = e in cc)

      at : (b : Bool) → is_first m.users u ≡ b → AllByRecursion Whole (word_of true owner from m by u)
      at true e = off (same_user u by) (is_first m.users u) _ e
      at false e = in_words (said_bits true owner from m by u) (named e)

  all_append : (xs ys : List (List ℕ)) → AllByRecursion Whole xs → AllByRecursion Whole ys
      → AllByRecursion Whole (xs ++ ys)
  all_append [] ys a b = b
  all_append (x ∷ xs) ys a b = (a.0, all_append xs ys a.1 b)

  words_whole : (by : UserId) (us : List UserId) → AllByRecursion Named us
      → AllByRecursion Whole (flat_map (word_of true owner from m by) us)
  words_whole by [] all = tt
  words_whole by (u ∷ us) all = all_append (word_of true owner from m by u) (flat_map (word_of true owner from m by) us)
      (word_whole by u all.0) (words_whole by us all.1)

  module _ (all : AllByRecursion Named m.users) where
    mask_lines : (by : UserId) (head : List ℕ) → Whole head
        → PartsLead edition owner (Part.lines (mask_kind (0x23 ∷ head)) (words_of true owner from m by) ∷ []) h h
    mask_lines by head whole = lines_part edition owner (mask_kind (0x23 ∷ head)) (words_of true owner from m by) h h
        (comments_lead owner (session_after edition owner h) (mask_kind (0x23 ∷ head))
        (mask_comment owner (session_after edition owner h) head whole) (words_of true owner from m by)
        (words_whole by m.users all))

    other_lines : (by : UserId) → HasName by
        → PartsLead edition owner
        (Part.lines (mask_kind (other_head later_start by)) (words_of true owner from m by) ∷ []) h h
    other_lines by named = mask_lines by (codes " later: " ++ (name_of by ++ codes ": aclumask"))
        (whole_append (codes " later: ") (name_of by ++ codes ": aclumask") (search)
        (whole_append (name_of by) (codes ": aclumask") (whole_name by named) (search)))

    others_later : (by : UserId) → HasName by → (b : Bool)
        → PartsLead edition owner (other_parts later_start by (words_of true owner from m by) b) h h
    others_later by named false = other_lines by named
    others_later by named true =
        parts_then edition owner (Part.text (lent_text later_start by (codes " +x")) ∷ [])
        (Part.lines (mask_kind (other_head later_start by)) (words_of true owner from m by)
        ∷ Part.text (lent_text later_start by (codes " -x")) ∷ []) h h h
        (text_part edition owner (lent_text later_start by (codes " +x")) h h
        (lent_leads owner (session_after edition owner h) by (codes " +x") named (search)))
        (parts_then edition owner
        (Part.lines (mask_kind (other_head later_start by)) (words_of true owner from m by) ∷ [])
        (Part.text (lent_text later_start by (codes " -x")) ∷ []) h h h (other_lines by named)
        (text_part edition owner (lent_text later_start by (codes " -x")) h h
        (lent_leads owner (session_after edition owner h) by (codes " -x") named (search))))

    one_later : (by : UserId) → Named by → PartsLead edition owner (parts_by true owner from m later_start by) h h
    one_later by named = at (are_any (words_of true owner from m by)) (is_first m.users by) refl
      where
        at : (a f : Bool) → is_first m.users by ≡ f
            → PartsLead edition owner
            (if a then (if f then Part.lines (mask_kind (owner_head later_start)) (words_of true owner from m by) ∷ []
            else other_parts later_start by (words_of true owner from m by) (is_lent true owner from by)) else []) h h
        at false f e = parts_nothing edition owner h
        at true true e = mask_lines by (codes " later: aclumask") (search)
        at true false e = others_later by (named e) (is_lent true owner from by)

    all_later : (us : List UserId) → AllByRecursion Named us
        → PartsLead edition owner (flat_map (parts_by true owner from m later_start) us) h h
    all_later [] named = parts_nothing edition owner h
    all_later (u ∷ us) named = parts_then edition owner (parts_by true owner from m later_start u)
        (flat_map (parts_by true owner from m later_start) us) h h h (one_later u named.0) (all_later us named.1)

    pub later_leads : PartsLead edition owner (later_parts owner from m) h h
    later_leads = parts_then edition owner (mask_parts true owner from m later_start)
        (Part.text (mode_text m.state.mode) ∷ []) h h h (all_later m.users all)
        (text_part edition owner (mode_text m.state.mode) h h
        (mode_leads owner (session_after edition owner h) m.state.mode))
