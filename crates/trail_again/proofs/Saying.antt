-- A line that says a command leads to where the command's acts lead.
use Rattle.trail_again.proofs.Vocabulary.{◌≡◌, ◌∙◌, ℕ, suc, ◌+◌, ◌<◌, Bool, true, false, not, cond, List, [], ◌∷◌, ◌++◌}
use Rattle.trail_again.proofs.Vocabulary.{refl, ap, sym, subst, Some, None, Ok, length, arith, drop, length-append}
use Rattle.trail_again.proofs.Vocabulary.{nat_lt, take-append_seam, nat_tests, Act, Execute, CommandName, Edition}
use Rattle.trail_again.proofs.Vocabulary.{UserId, History, followed_by, is_known, may, begins_with_letter, is_name_byte}
use Rattle.trail_again.proofs.Vocabulary.{name_of, Order, order_name, needs, is_plain, is_feed, checks_by, first_fault}
use Rattle.trail_again.proofs.Vocabulary.{does, acting, line_caller, if_named, if_spoken, spoken, session_after}
use Rattle.std.specs.List.{position, position_or_len}
use Rattle.acl.specs.declared.act.Object.TheVariants as object
use Rattle.acl.specs.declared.command_name.CommandName.TheVariants as name
use Rattle.program_words.specs.SetupLines.{after_blank, is_colon, is_skipped, speech_at}
use Rattle.session.specs.Trace.{Command}
use Rattle.trail_again.proofs.Doing.{IsTaken, acts_done, here, owner_known, owner_may}
use Rattle.trail_again.proofs.Leading.{Leads, leads_line}
use Rattle.trail_again.proofs.Reading.{AreWords, Free, Says, free_append, free_from, free_line, line_of, reads}
use Rattle.trail_again.proofs.Wording.{HasName, NameText, name_text_is}

-- ---- the first colon

one_more : (n : ℕ) → 1 + n ≡ suc n
one_more n = omega arith

place_free : (p : ℕ → Bool) (xs : List ℕ) → Free p xs → position_or_len p xs ≡ length xs
place_free p [] f = refl
place_free p (x ∷ xs) f = ap (λ b. cond (not b) (1 + position_or_len p xs) 0) f.0
    ∙ one_more (position_or_len p xs) ∙ ap suc (place_free p xs f.1)

place_at : (p : ℕ → Bool) (xs : List ℕ) (y : ℕ) (ys : List ℕ) → Free p xs → p y ≡ true
    → position_or_len p (xs ++ y ∷ ys) ≡ length xs
place_at p [] y ys f e = ap (λ b. cond (not b) (1 + position_or_len p ys) 0) e
place_at p (x ∷ xs) y ys f e = ap (λ b. cond (not b) (1 + position_or_len p (xs ++ y ∷ ys)) 0) f.0
    ∙ one_more (position_or_len p (xs ++ y ∷ ys)) ∙ ap suc (place_at p xs y ys f.1 e)

not_below : (n : ℕ) → nat_lt n n ≡ false
not_below n = grind (arith, nat_tests)

below : (m n : ℕ) → m < n → nat_lt m n ≡ true
below m n l = grind (arith, nat_tests, l)

none_at : (p : ℕ → Bool) (xs : List ℕ) → Free p xs → position p xs ≡ None
none_at p xs f = ap (λ (m : ℕ). cond (nat_lt m (length xs)) (Some m) None) (place_free p xs f)
    ∙ ap (λ b. cond b (Some (length xs)) None) (not_below (length xs))

first_at : (p : ℕ → Bool) (xs : List ℕ) (y : ℕ) (ys : List ℕ) → Free p xs → p y ≡ true
    → position p (xs ++ y ∷ ys) ≡ Some (length xs)
first_at p xs y ys f e =
    let longer : length (xs ++ y ∷ ys) ≡ length xs + length (y ∷ ys) = length-append xs (y ∷ ys) in
    ap (λ (m : ℕ). cond (nat_lt m (length (xs ++ y ∷ ys))) (Some m) None) (place_at p xs y ys f e)
    ∙ ap (λ b. cond b (Some (length xs)) None) (below (length xs) (length (xs ++ y ∷ ys)) (omega (arith, longer)))

-- ---- who gives a line

feed_apart : (c : ℕ) → is_plain c ≡ true → is_feed c ≡ false
feed_apart c is = grind (arith, nat_tests)

colon_apart : (c : ℕ) → is_plain c ≡ true → is_colon c ≡ false
colon_apart c is = grind (arith, nat_tests)

pub whole_line : (n : CommandName) (ts : List (List ℕ)) → AreWords ts → Free is_feed (line_of n ts)
whole_line n ts words = free_line is_feed refl feed_apart n ts words

pub not_skipped : (n : CommandName) (ts : List (List ℕ)) → is_skipped (line_of n ts) ≡ false
not_skipped name.Acladd ts = refl
not_skipped _ ts = refl

pub of_owner : (owner : UserId) (n : CommandName) (ts : List (List ℕ)) → AreWords ts
    → spoken owner (line_of n ts) ≡ (owner, line_of n ts)
of_owner owner n ts words = ap (λ o. if_spoken owner (line_of n ts) (speech_at (line_of n ts) o))
    (none_at is_colon (line_of n ts) (free_line is_colon refl colon_apart n ts words))

-- a line that begins with a user's name
abbrev pub said_by : UserId → List ℕ → List ℕ
said_by u text = name_of u ++ 0x3A ∷ 0x20 ∷ text

name_colon : (c : ℕ) → is_name_byte c ≡ true → is_colon c ≡ false
name_colon c is = grind (arith, nat_tests)

name_feed : (c : ℕ) → is_name_byte c ≡ true → is_feed c ≡ false
name_feed c is = grind (arith, nat_tests)

next_suc : (n : ℕ) → suc n + 1 ≡ suc (n + 1)
next_suc n = omega arith

drop_past : (xs : List ℕ) (y : ℕ) (ys : List ℕ) → drop (length xs + 1) (xs ++ y ∷ ys) ≡ ys
drop_past [] y ys = refl
drop_past (x ∷ xs) y ys = ap (λ n. drop n (x ∷ (xs ++ y ∷ ys))) (next_suc (length xs)) ∙ drop_past xs y ys

pub of_user : (owner u : UserId) (text : List ℕ) → HasName u → spoken owner (said_by u text) ≡ (u, text)
of_user owner u text named =
    let t : NameText (name_of u) = name_text_is u named in
    let all : List ℕ = said_by u text in
    ap (λ o. if_spoken owner all (speech_at all o))
    (first_at is_colon (name_of u) 0x3A (0x20 ∷ text) (free_from is_name_byte is_colon name_colon (name_of u) t.bytes)
    refl)
    ∙ (λ j. if_spoken owner all (after_blank (take-append_seam (name_of u) (0x3A ∷ 0x20 ∷ text) j)
    (drop_past (name_of u) 0x3A (0x20 ∷ text) j)))
    ∙ ap (λ o. if_named owner all o text) named

no_hash : (word rest : List ℕ) → begins_with_letter word ≡ true → is_skipped (word ++ rest) ≡ false
no_hash [] rest first = absurd (let wrong : false ≡ true = first in cc)
no_hash (c ∷ word) rest first = grind (arith, nat_tests)

-- ---- lines that lead on

module _ (edition : Edition) (owner : UserId) (h : History) (n : CommandName) (ts : List (List ℕ)) (c : Order)
    (acts : List Act) (s : Says n ts c) where
  pub owner_leads : first_fault (here edition owner h)
      (checks_by (here edition owner h) (line_caller (here edition owner h) owner None) (needs c)) ≡ None
      → does (here edition owner h) (line_caller (here edition owner h) owner None) c
      ≡ Ok (acting (here edition owner h) acts)
      → Leads owner (session_after edition owner h) (line_of n ts ++ 0x0A ∷ [])
      (session_after edition owner (followed_by h acts))
  owner_leads passes deed =
      leads_line owner (session_after edition owner h) (line_of n ts) (whole_line n ts s.words)
      (session_after edition owner (followed_by h acts)) (not_skipped n ts)
      (λ short. subst
      (λ (p : UserId × List ℕ). IsTaken (session_after edition owner h) (Command p.0 None p.1)
      (session_after edition owner (followed_by h acts)))
      (sym (of_owner owner n ts s.words))
      (acts_done edition owner h owner (line_of n ts) c acts (owner_known edition owner h)
      (owner_may edition owner h (object.Command (order_name c))) (reads n ts c s short) passes deed))

  pub user_leads : (u : UserId) → HasName u → is_known owner h u ≡ true
      → may edition owner h u Execute (object.Command (order_name c)) ≡ true
      → first_fault (here edition owner h)
      (checks_by (here edition owner h) (line_caller (here edition owner h) u None) (needs c)) ≡ None
      → does (here edition owner h) (line_caller (here edition owner h) u None) c
      ≡ Ok (acting (here edition owner h) acts)
      → Leads owner (session_after edition owner h) (said_by u (line_of n ts) ++ 0x0A ∷ [])
      (session_after edition owner (followed_by h acts))
  user_leads u named known allowed passes deed =
      let t : NameText (name_of u) = name_text_is u named in
      let longer : length (said_by u (line_of n ts)) ≡ length (name_of u) + length (0x3A ∷ 0x20 ∷ line_of n ts) =
      length-append (name_of u) (0x3A ∷ 0x20 ∷ line_of n ts) in
      leads_line owner (session_after edition owner h) (said_by u (line_of n ts))
      (free_append is_feed (name_of u) (0x3A ∷ 0x20 ∷ line_of n ts)
      (free_from is_name_byte is_feed name_feed (name_of u) t.bytes) (refl, (refl, whole_line n ts s.words)))
      (session_after edition owner (followed_by h acts))
      (no_hash (name_of u) (0x3A ∷ 0x20 ∷ line_of n ts) t.begins)
      (λ short. subst
      (λ (p : UserId × List ℕ). IsTaken (session_after edition owner h) (Command p.0 None p.1)
      (session_after edition owner (followed_by h acts)))
      (sym (of_user owner u (line_of n ts) named))
      (acts_done edition owner h u (line_of n ts) c acts known allowed
      (reads n ts c s (omega (arith, short, longer))) passes deed))
