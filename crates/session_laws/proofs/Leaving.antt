-- If no client's page changes, no user leaves a window.
use Rattle.session_laws.proofs.Vocabulary.{◌≡◌, ℕ, Bool, true, false, List, [], ◌∷◌, ◌++◌, Option, Some, None, refl, ap}
use Rattle.session_laws.proofs.Vocabulary.{sym, ◌∙◌, append_assoc, if◌then◌else◌, ◌==◌, ◌&&◌, ◌||◌, nat_eq, list_any}
use Rattle.session_laws.proofs.Vocabulary.{pointwise, nat_tests, arith, Act, Left, left_acts_of, left_acts, Client}
use Rattle.session_laws.proofs.Vocabulary.{focused, shows, is_window, is_in_focus}

same_bytes : (xs : List ℕ) → pointwise nat_eq xs xs ≡ true
same_bytes [] = refl
same_bytes (x ∷ xs) = ap (λ b. b && pointwise nat_eq xs xs) (let e : nat_eq x x ≡ true = grind (arith, nat_tests) in e)
    ∙ same_bytes xs

among : {A : Type 0} (p : A → Bool) (pre cs : List A) (c : A) → p c ≡ true → list_any p (pre ++ c ∷ cs) ≡ true
among p [] cs c is = ap (λ b. b || list_any p cs) is
among p (d ∷ pre) cs c is = by (p d) (among p pre cs c is) where
  by : (b : Bool) → list_any p (pre ++ c ∷ cs) ≡ true → (b || list_any p (pre ++ c ∷ cs)) ≡ true
  by true on = refl
  by false on = on

shows_own : (c : Client) (w : ℕ) → focused c ≡ Some w → shows c.user w c ≡ true
shows_own c w at =
    ap (λ b. b && is_window w (focused c)) (same_bytes c.user.name) ∙ ap (is_window w) at
    ∙ (let e : (w == w) ≡ true = grind (arith, nat_tests) in e)

stays : (c : Client) (o : Option ℕ) (pre cs : List Client) → focused c ≡ o → left_acts_of c o cs (pre ++ c ∷ cs) ≡ []
stays c None pre cs at = refl
stays c (Some w) pre cs at = by (is_in_focus cs c.user w) (is_in_focus (pre ++ c ∷ cs) c.user w)
    (among (shows c.user w) pre cs c (shows_own c w at)) where
      by : (a b : Bool) → b ≡ true → (if a || b then (let none : List Act = [] in none) else Left c.user w ∷ []) ≡ []
      by true b is = refl
      by false true is = refl
      by false false is = absurd (cc (is))

none_of : (pre cs : List Client) → left_acts cs (pre ++ cs) ≡ []
none_of pre [] = refl
none_of pre (c ∷ cs) =
    ap (λ acts. acts ++ left_acts cs (pre ++ c ∷ cs)) (stays c (focused c) pre cs refl)
    ∙ ap (left_acts cs) (sym (append_assoc pre (c ∷ []) cs)) ∙ none_of (pre ++ c ∷ []) cs

pub none_left : (cs : List Client) → left_acts cs cs ≡ []
none_left cs = none_of [] cs
