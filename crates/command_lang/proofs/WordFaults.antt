-- The faults of words, from a given word on.
use Rattle.command_lang.proofs.Vocabulary.{◌≡◌, ℕ, zero, suc, ◌+◌, ◌<◌, ◌≤◌, Bool, true, false, cond, List, [], ◌∷◌}
use Rattle.command_lang.proofs.Vocabulary.{◌++◌, length, drop, get_or, refl, sym, ap, ◌∙◌, arith, Option, Some, None}
use Rattle.command_lang.proofs.Vocabulary.{option_to_list, true≢false, drop-cons, nat_lt, is_some, Words, Word}
use Rattle.command_lang.proofs.Vocabulary.{ParseFault, kind_at, least, at, word_fault, words_faults, first_of}
use Rattle.command_lang.specs.declared.fault.FaultKind.TheVariants as faults

drop-at : (ws : List Word) (i : ℕ) (x : Word) → i < length ws → x ≡ get_or ws i x → drop i ws ≡ x ∷ drop (i + 1) ws
drop-at ws i x h e =
    let k : suc i ≡ i + 1 = omega arith in
    drop-cons ws i x h ∙ (λ j. sym e j ∷ drop (k j) ws)

drop-all : (ws : List Word) (i : ℕ) → length ws ≤ i → drop i ws ≡ []
drop-all [] zero h = refl
drop-all [] (suc i) h = refl
drop-all (w ∷ ws) zero h = absurd (omega (arith, h))
drop-all (w ∷ ws) (suc i) h = drop-all ws i (omega (arith, h))

pub faults-cons : (r : Words) (i end : ℕ) (w : Word) (ws : List Word)
    → words_faults r i end (w ∷ ws) ≡ option_to_list (word_fault (kind_at r i) w) ++ words_faults r (i + 1) end ws
unfolding words_faults
faults-cons r i end w ws = refl

pub faults-nil : (r : Words) (i end : ℕ)
    → words_faults r i end [] ≡ cond (nat_lt i (least r)) (at end faults.MissingWord ∷ []) []
unfolding words_faults
faults-nil r i end = refl

found : (o : Option ParseFault) (fs : List ParseFault) → is_some o ≡ true → o ≡ first_of (option_to_list o ++ fs)
found None fs h = absurd (true≢false (sym h))
found (Some f) fs h = refl

passed : (o : Option ParseFault) (fs : List ParseFault) → is_some o ≡ false
    → first_of (option_to_list o ++ fs) ≡ first_of fs
passed None fs h = refl
passed (Some f) fs h = absurd (true≢false h)

abbrev pub From : Words → ℕ → ℕ → List Word → Option ParseFault
From r i end ws = first_of (words_faults r i end (drop i ws))

pub fault-found : (r : Words) (i end : ℕ) (ws : List Word) (x : Word) (all o : Option ParseFault)
    → all ≡ From r i end ws → i < length ws → x ≡ get_or ws i x
    → o ≡ word_fault (kind_at r i) x → is_some o ≡ true → o ≡ all
fault-found r i end ws x all o a h g e s =
    found o (words_faults r (i + 1) end (drop (i + 1) ws)) s
    ∙ ap (λ p. first_of (option_to_list p ++ words_faults r (i + 1) end (drop (i + 1) ws))) e
    ∙ sym
    (a ∙ ap (λ l. first_of (words_faults r i end l)) (drop-at ws i x h g)
    ∙ ap first_of (faults-cons r i end x (drop (i + 1) ws)))

pub fault-passed : (r : Words) (i end : ℕ) (ws : List Word) (x : Word) (all o : Option ParseFault)
    → all ≡ From r i end ws → i < length ws → x ≡ get_or ws i x
    → o ≡ word_fault (kind_at r i) x → is_some o ≡ false → all ≡ From r (i + 1) end ws
fault-passed r i end ws x all o a h g e s =
    a ∙ ap (λ l. first_of (words_faults r i end l)) (drop-at ws i x h g)
    ∙ ap first_of (faults-cons r i end x (drop (i + 1) ws))
    ∙ ap (λ p. first_of (option_to_list p ++ words_faults r (i + 1) end (drop (i + 1) ws))) (sym e)
    ∙ passed o (words_faults r (i + 1) end (drop (i + 1) ws)) s

pub fault-end : (r : Words) (i end m : ℕ) (ws : List Word) (all : Option ParseFault) (b : Bool) → all ≡ From r i end ws
    → i ≤ length ws → length ws ≤ i → m ≡ least r → nat_lt (length ws) m ≡ b
    → cond {A = Option ParseFault} b (Some (at end faults.MissingWord)) None ≡ all
fault-end r i end m ws all b a l h e t =
    let k : length ws ≡ i = omega (arith, l, h) in
    let u : nat_lt i (least r) ≡ b = (λ j. nat_lt (sym k j) (sym e j)) ∙ t in
    by b ∙ sym
    (a ∙ ap (λ l. first_of (words_faults r i end l)) (drop-all ws i h) ∙ ap first_of (faults-nil r i end)
    ∙ ap (λ c. first_of (cond {A = List ParseFault} c (at end faults.MissingWord ∷ []) [])) u)
  where
    by : (c : Bool)
        → cond {A = Option ParseFault} c (Some (at end faults.MissingWord)) None ≡ first_of
        (cond {A = List ParseFault} c (at end faults.MissingWord ∷ []) [])
    by true = refl
    by false = refl
