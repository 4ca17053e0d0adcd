-- A command that gives a window a number gives it a number below 40.
use Rattle.command_lang.proofs.Vocabulary.{◌≡◌, ℕ, ◌<◌, Bool, true, false, List, [], ◌∷◌, Option, Some, None, refl, ap}
use Rattle.command_lang.proofs.Vocabulary.{sym, ◌∙◌, arith, nat_lt, nat_le, ◌&&◌, if◌then◌else◌, option_map}
use Rattle.command_lang.proofs.Vocabulary.{option_map_or, option_and_then, nat_tests, CommandName, Word, Command}
use Rattle.command_lang.proofs.Vocabulary.{command_named, number_in, number_after, is_number, is_vertical, lock_mode_in}
use Rattle.command_lang.proofs.Vocabulary.{switch_in, coding_in, bare, with_word, with_words, command_of, texts_of}
use Rattle.command_lang.proofs.Vocabulary.{line_command, Relates}
use Rattle.acl.specs.declared.command_name.CommandName.TheVariants as name
use Rattle.command_lang.specs.declared.command.Command.TheVariants as command

abbrev pub is_small : Command → Bool
is_small (command.Number n) = nat_lt n 40
is_small c = true

-- the command's window number is below 40, if it has one
abbrev pub AreSmall : Option Command → Type 0
AreSmall o = option_map_or is_small o true ≡ true

mapped : {A : Type 0} (f : A → Command) (o : Option A) → ((a : A) → is_small (f a) ≡ true) → AreSmall (option_map f o)
mapped f None all = refl
mapped f (Some a) all = all a

numbered : (text : List ℕ) → AreSmall (option_map command.Number (number_in 39 text))
numbered text = on (is_number 39 text) refl where
  second : (a b : Bool) → (a && b) ≡ true → b ≡ true
  second true b is = is
  second false b is = absurd (cc (is))

  small : (n : ℕ) → nat_le n 39 ≡ true → nat_lt n 40 ≡ true
  small n le = grind (arith, nat_tests, le)

  on : (b : Bool) → is_number 39 text ≡ b
      → AreSmall (option_map command.Number (if b then Some (number_after 0 text) else None))
  on true is = small (number_after 0 text) (second _ (nat_le (number_after 0 text) 39) is)
  on false is = refl

split_small : (b : Bool) → AreSmall (if b then Some (command.Split true) else None)
split_small true = refl
split_small false = refl

bare_small : (n : CommandName) → AreSmall (bare n)
bare_small name.Detach = refl
bare_small n = refl

word_small : (n : CommandName) (text : List ℕ) → AreSmall (with_word n text)
word_small name.Writelock text = mapped command.Writelock (lock_mode_in text) (λ mode. refl)
word_small name.Defwritelock text = mapped command.Defwritelock (lock_mode_in text) (λ mode. refl)
word_small name.Multiuser text = mapped command.Multiuser (switch_in text) (λ is_on. refl)
word_small name.Number text = numbered text
word_small name.Split text = split_small (is_vertical text)
word_small name.Scrollview text = mapped command.Scrollview (number_in 2000 text) (λ n. refl)
word_small name.Encoding text = mapped command.Encoding (coding_in text) (λ coding. refl)
word_small n text = refl

words_small : (n : CommandName) (texts : List (List ℕ)) → AreSmall (with_words n texts)
words_small name.Aclgrp (user ∷ leader ∷ []) = refl
words_small name.Aclchg (users ∷ bits ∷ list ∷ []) = refl
words_small name.Aclumask texts = refl
words_small n texts = refl

command_small : (n : CommandName) (texts : List (List ℕ)) → AreSmall (command_of n texts)
command_small n [] = bare_small n
command_small n (text ∷ []) = word_small n text
command_small n (text ∷ next ∷ texts) = words_small n (text ∷ next ∷ texts)

named_small : (o : Option CommandName) (texts : List (List ℕ)) → AreSmall (option_and_then (λ n. command_of n texts) o)
named_small None texts = refl
named_small (Some n) texts = command_small n texts

pub line_small : (ws : List Word) → AreSmall (line_command ws)
line_small [] = refl
line_small (w ∷ ws) = named_small (command_named w.text) (texts_of ws)

pub small_below : (n : ℕ) → nat_lt n 40 ≡ true → n < 40
small_below n is = grind (arith, nat_tests, is)

pub below_40 : (line : List ℕ) (n : ℕ) → Relates line (command.Number n) → n < 40
below_40 line n r = small_below n (ap (λ o. option_map_or is_small o true) (sym r.means) ∙ line_small r.words)
