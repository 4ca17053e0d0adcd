-- What the words of a printed command mean.
use Rattle.command_lang.proofs.Vocabulary.{◌≡◌, ℕ, ◌≤◌, true, false, cond, List, [], ◌∷◌, map, refl, sym, ap, ◌∙◌}
use Rattle.command_lang.proofs.Vocabulary.{subst, arith, Option, Some, None, true≢false, MatchOption, is_some}
use Rattle.command_lang.proofs.Vocabulary.{option_map, IsUtf8, decimal, CommandName, Command, unless, number_in}
use Rattle.command_lang.proofs.Vocabulary.{number_after, is_vertical, lock_mode_in, switch_in, coding_in, users_of}
use Rattle.command_lang.proofs.Vocabulary.{items_of, leader_of, bits_of, mask_of, takes, bare, with_word, with_words}
use Rattle.command_lang.proofs.Vocabulary.{command_of, name_of, words_of, mask_word, bits_word}
use Rattle.acl.specs.declared.command_name.CommandName.TheVariants as name
use Rattle.command_lang.specs.declared.command.Command.TheVariants as command
use Rattle.command_lang.specs.declared.command.Mask.{Mask}
use Rattle.command_lang.specs.declared.rows.Kind.TheVariants as kind
use Rattle.command_lang.specs.declared.fault.FaultKind.TheVariants as faults
use Rattle.command_lang.proofs.Fits.{Fits, AllFit, passes}
use Rattle.command_lang.proofs.Scalars.{AllText}
use Rattle.command_lang.proofs.Canonical.{some-same, items_again, users_again, leader_again, lock_mode_again}
use Rattle.command_lang.proofs.Canonical.{switch_again, coding_again, vertical_again, Again, number_again, bits_again}
use Rattle.command_lang.proofs.Canonical.{mask_again}

-- the words of the command belong to its name, mean the command, and are text
pub record Sound (n : CommandName) (c : Command) : Type 0 where
  pub named : name_of c ≡ n
  pub again : command_of n (words_of c) ≡ Some c
  pub fit : Fits (takes n) (words_of c)
  pub text : AllText (words_of c)

exact : (n : CommandName) (c : Command) (ts : List (List ℕ)) → name_of c ≡ n → words_of c ≡ ts
    → command_of n ts ≡ Some c → Fits (takes n) ts → AllText ts → Sound n c
exact n c ts m e h f u = record {
  named = m;
  again = ap (command_of n) e ∙ h;
  fit = subst (Fits (takes n)) (sym e) f;
  text = subst AllText (sym e) u;
}

at : (n : CommandName) (d c : Command) → Some d ≡ Some c → Sound n d → Sound n c
at n d c h s = subst (Sound n) (some-same d c h) s

-- the value from which an option's command was made
mapped : {A : Type 0} (f : A → Command) (o : Option A) (c : Command) → option_map f o ≡ Some c → (x : A)
    × ((o ≡ Some x) × (f x ≡ c))
mapped f (Some x) c h = (x, (refl, some-same (f x) c h))
mapped f None c h = absurd (true≢false (sym (ap is_some h)))

numbered : (n : CommandName) (f : ℕ → Command) (limit : ℕ) (t : List ℕ) (c : Command) → limit ≤ 2000
    → option_map f (number_in limit t) ≡ Some c
    → ((v : ℕ) → Again limit v → Sound n (f v)) → Sound n c
numbered n f limit t c l h g =
    let m = mapped f (number_in limit t) c h in
    subst (Sound n) m.1.1 (g m.0 (number_again limit m.0 t l m.1.0))

number-read : (limit v : ℕ) → Again limit v → number_in limit (decimal v) ≡ Some v
number-read limit v a = ap (λ b. cond b (Some (number_after 0 (decimal v))) None) a.fine ∙ ap (λ m. Some m) a.value

-- a command made of no words has this name, and no words
abbrev IsBare : CommandName → Command → Type 0
IsBare n c = (name_of c ≡ n) × (words_of c ≡ [])

bare_named : (n : CommandName) → MatchOption (bare n) (Unit {0}) (IsBare n)
bare_named name.Detach = (refl, refl)
bare_named n = search

bare_sound : (n : CommandName) → Fits (takes n) [] → (c : Command) → bare n ≡ Some c → Sound n c
bare_sound n f c h =
    let is : IsBare n c = subst (λ o. MatchOption o (Unit {0}) (IsBare n)) h (bare_named n) in
    exact n c [] is.0 is.1 h f tt

word_sound : (n : CommandName) (t : List ℕ) → Fits (takes n) (t ∷ []) → IsUtf8 t → (c : Command)
    → with_word n t ≡ Some c → Sound n c
word_sound name.Acladd t f u c h = at name.Acladd (command.Acladd (users_of t)) c h
    (exact name.Acladd (command.Acladd (users_of t)) (t ∷ []) refl (ap (λ w. w ∷ []) (users_again t)) refl f (u, tt))
word_sound name.Acldel t f u c h = at name.Acldel (command.Acldel t) c h
    (exact name.Acldel (command.Acldel t) (t ∷ []) refl refl refl f (u, tt))
word_sound name.Aclgrp t f u c h = at name.Aclgrp (command.Aclgrp t None) c h
    (exact name.Aclgrp (command.Aclgrp t None) (t ∷ []) refl refl refl f (u, tt))
word_sound name.Aclumask t f u c h =
    let m = mask_again t u f.0 in
    at name.Aclumask (command.Aclumask (mask_of t ∷ [])) c h
    (exact name.Aclumask (command.Aclumask (mask_of t ∷ [])) (mask_word (mask_of t) ∷ []) refl refl
    (ap (λ (x : Mask). Some (command.Aclumask (x ∷ []))) m.value) (m.fine, tt) (m.text, tt))
word_sound name.Writelock t f u c h =
    let m = mapped command.Writelock (lock_mode_in t) c h in
    subst (Sound name.Writelock) m.1.1
    (exact name.Writelock (command.Writelock m.0) (t ∷ []) refl (ap (λ w. w ∷ []) (lock_mode_again t m.0 m.1.0))
    (ap (option_map command.Writelock) m.1.0) f (u, tt))
word_sound name.Defwritelock t f u c h =
    let m = mapped command.Defwritelock (lock_mode_in t) c h in
    subst (Sound name.Defwritelock) m.1.1
    (exact name.Defwritelock (command.Defwritelock m.0) (t ∷ []) refl (ap (λ w. w ∷ []) (lock_mode_again t m.0 m.1.0))
    (ap (option_map command.Defwritelock) m.1.0) f (u, tt))
word_sound name.Multiuser t f u c h =
    let m = mapped command.Multiuser (switch_in t) c h in
    subst (Sound name.Multiuser) m.1.1
    (exact name.Multiuser (command.Multiuser m.0) (t ∷ []) refl (ap (λ w. w ∷ []) (switch_again t m.0 m.1.0))
    (ap (option_map command.Multiuser) m.1.0) f (u, tt))
word_sound name.Wall t f u c h = at name.Wall (command.Wall t) c h
    (exact name.Wall (command.Wall t) (t ∷ []) refl refl refl f (u, tt))
word_sound name.Select t f u c h = at name.Select (command.Select t) c h
    (exact name.Select (command.Select t) (t ∷ []) refl refl refl f (u, tt))
word_sound name.Title t f u c h = at name.Title (command.Title t) c h
    (exact name.Title (command.Title t) (t ∷ []) refl refl refl f (u, tt))
word_sound name.Number t f u c h =
    numbered name.Number command.Number 39 t c (omega arith) h
    (λ v a. exact name.Number (command.Number v) (decimal v ∷ []) refl refl
    (ap (option_map command.Number) (number-read 39 v a)) (ap (λ b. unless b faults.BadNumber) a.fine) (a.text, tt))
word_sound name.Split t f u c h =
    let v = passes (is_vertical t) faults.BadWord f in
    at name.Split (command.Split true) c
    (sym (ap (λ b. cond {A = Option Command} b (Some (command.Split true)) None) v) ∙ h)
    (exact name.Split (command.Split true) (t ∷ []) refl (ap (λ w. w ∷ []) (vertical_again t v))
    (ap (λ b. cond {A = Option Command} b (Some (command.Split true)) None) v) f (u, tt))
word_sound name.Scrollview t f u c h =
    numbered name.Scrollview command.Scrollview 2000 t c (omega arith) h
    (λ v a. exact name.Scrollview (command.Scrollview v) (decimal v ∷ []) refl refl
    (ap (option_map command.Scrollview) (number-read 2000 v a)) (ap (λ b. unless b faults.BadNumber) a.fine)
    (a.text, tt))
word_sound name.Encoding t f u c h =
    let m = mapped command.Encoding (coding_in t) c h in
    subst (Sound name.Encoding) m.1.1
    (exact name.Encoding (command.Encoding m.0) (t ∷ []) refl (ap (λ w. w ∷ []) (coding_again t m.0 m.1.0))
    (ap (option_map command.Encoding) m.1.0) f (u, tt))
word_sound name.Stuff t f u c h = at name.Stuff (command.Stuff t) c h
    (exact name.Stuff (command.Stuff t) (t ∷ []) refl refl refl f (u, tt))
word_sound _ t f u c h = absurd f

-- masks
pub record MasksAgain (ts : List (List ℕ)) : Type 0 where
  pub fit : AllFit kind.Mask (map mask_word (map mask_of ts))
  pub value : map mask_of (map mask_word (map mask_of ts)) ≡ map mask_of ts
  pub text : AllText (map mask_word (map mask_of ts))

masks_again : (ts : List (List ℕ)) → AllFit kind.Mask ts → AllText ts → MasksAgain ts
masks_again [] f u = record { fit = tt; value = refl; text = tt }
masks_again (t ∷ ts) f u =
    let m = mask_again t u.0 f.0 in
    let r = masks_again ts f.1 u.1 in
    record {
      fit = (m.fine, r.fit);
      value = (λ j. m.value j ∷ r.value j);
      text = (m.text, r.text);
    }

words_sound : (n : CommandName) (t u : List ℕ) (ts : List (List ℕ)) → Fits (takes n) (t ∷ u ∷ ts) → AllText (t ∷ u ∷ ts)
    → (c : Command) → with_words n (t ∷ u ∷ ts) ≡ Some c → Sound n c
words_sound name.Aclumask t u ts f x c h =
    let r = masks_again (t ∷ u ∷ ts) f x in
    at name.Aclumask (command.Aclumask (map mask_of (t ∷ u ∷ ts))) c h
    (exact name.Aclumask (command.Aclumask (map mask_of (t ∷ u ∷ ts))) (map mask_word (map mask_of (t ∷ u ∷ ts))) refl
    refl (ap (λ (l : List Mask). Some (command.Aclumask l)) r.value) r.fit r.text)
words_sound name.Aclgrp t u [] f x c h =
    at name.Aclgrp (command.Aclgrp t (Some (leader_of u))) c h
    (exact name.Aclgrp (command.Aclgrp t (Some (leader_of u))) (t ∷ u ∷ []) refl (ap (λ w. t ∷ w ∷ []) (leader_again u))
    refl f x)
words_sound name.Aclgrp t u (v ∷ ts) f x c h = absurd f
words_sound name.Aclchg t u [] f x c h = absurd f
words_sound name.Aclchg t u (v ∷ []) f x c h =
    let b = bits_again u (passes _ faults.BadBits f.1) in
    at name.Aclchg (command.Aclchg (users_of t) (bits_of u) (items_of v)) c h
    (exact name.Aclchg (command.Aclchg (users_of t) (bits_of u) (items_of v)) (t ∷ bits_word (bits_of u) ∷ v ∷ []) refl
    (λ j. users_again t j ∷ bits_word (bits_of u) ∷ items_again v j ∷ [])
    (ap (λ l. Some (command.Aclchg (users_of t) l (items_of v))) b.value)
    (f.0, ap (λ q. unless q faults.BadBits) b.fine, f.2) (x.0, (b.text, x.1.1)))
words_sound name.Aclchg t u (v ∷ w ∷ ts) f x c h = absurd f
words_sound _ t u ts f x c h = absurd f

pub sound : (n : CommandName) (ts : List (List ℕ)) → Fits (takes n) ts → AllText ts → (c : Command)
    → command_of n ts ≡ Some c → Sound n c
sound n [] f u c h = bare_sound n f c h
sound n (t ∷ []) f u c h = word_sound n t f u.0 c h
sound n (t ∷ v ∷ ts) f u c h = words_sound n t v ts f u c h
