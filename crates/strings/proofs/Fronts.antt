-- Facts of a list's front, and of what was read of it.
use Rattle.std.proofs.Common.{◌≡◌, ℕ, zero, suc, ◌-◌, ◌≤◌, List, [], ◌∷◌, ◌++◌, length, drop, take, get_or, sym, ap}
use Rattle.std.proofs.Common.{◌∙◌, subst, arith, append_assoc, Option, Some, true≢false}
use Rattle.std.specs.Option.{is_some}
use Rattle.std.proofs.Math.Seq.{take-length}
use Rattle.std.proofs.lemmas.Str.{encodes-append}
use Rattle.std.specs.Str.{encode_utf8_all}
use Rattle.strings.specs.Grammar.{octal_front}
use Rattle.strings.specs.Reading.{Reads}

-- a list is its first item and the others
pub cons-front : (cs : List ℕ) (x : ℕ) → 1 ≤ length cs → x ≡ get_or cs 0 x → cs ≡ x ∷ take (length cs - 1) (drop 1 cs)
cons-front [] x h e = absurd (omega (arith, h))
cons-front (c ∷ cs) x h e =
    let n : suc (length cs) - 1 ≡ length cs = omega arith in
    (λ j. sym e j ∷ (sym (take-length cs) ∙ ap (λ m. take m cs) (sym n)) j)

pub rest-behind : (cs : List ℕ) (n : ℕ) → n ≤ length cs → take (length cs - n) (drop n cs) ≡ drop n cs
rest-behind cs zero h = let n : length cs - 0 ≡ length cs = omega arith in ap (λ m. take m cs) n ∙ take-length cs
rest-behind [] (suc n) h = absurd (omega (arith, h))
rest-behind (c ∷ cs) (suc n) h =
    let m : suc (length cs) - suc n ≡ length cs - n = omega arith in
    ap (λ m. take m (drop n cs)) m ∙ rest-behind cs n (omega (arith, h))

pub octal-long : (cs : List ℕ) (c : ℕ) → octal_front cs ≡ Some c → 3 ≤ length cs
octal-long [] c h = absurd (true≢false (sym (ap is_some h)))
octal-long (a ∷ []) c h = absurd (true≢false (sym (ap is_some h)))
octal-long (a ∷ b ∷ []) c h = absurd (true≢false (sym (ap is_some h)))
octal-long (a ∷ b ∷ d ∷ cs) c h = omega arith

-- Of the characters cs, all but those in `left` were read; the text was `old` when reading began.
pub record IsAhead (Kind : List ℕ → List ℕ → Option (List ℕ) → Type 0) (cs old now left : List ℕ) : Type 0 where
  pub done : List ℕ
  pub put : now ≡ old ++ encode_utf8_all done
  pub goes_on : (text : List ℕ) (rest : Option (List ℕ)) → Kind left text rest → Kind cs (done ++ text) rest
  pub shorter : length left ≤ length cs

-- one more thing was read
pub ahead-more : (Kind : List ℕ → List ℕ → Option (List ℕ) → Type 0) (cs old now left : List ℕ)
    → IsAhead Kind cs old now left
    → (new next first : List ℕ) → new ≡ now ++ encode_utf8_all first → length next ≤ length left
    → ((text : List ℕ) (rest : Option (List ℕ)) → Kind next text rest → Kind left (first ++ text) rest)
    → IsAhead Kind cs old new next
ahead-more Kind cs old now left a new next first p s m = record {
  done = a.done ++ first;
  put = p ∙ ap (λ l. l ++ encode_utf8_all first) a.put
      ∙ append_assoc old (encode_utf8_all a.done) (encode_utf8_all first)
      ∙ ap (λ l. old ++ l) (sym (encodes-append a.done first));
  goes_on = λ text rest k. subst (λ t. Kind cs t rest) (sym (append_assoc a.done first text))
      (a.goes_on (first ++ text) rest (m text rest k));
  shorter = omega (arith, s, a.shorter);
}

-- the whole text was read
pub ahead-end : (Kind : List ℕ → List ℕ → Option (List ℕ) → Type 0) (cs old now left : List ℕ)
    → IsAhead Kind cs old now left
    → (new text : List ℕ) (rest : Option (List ℕ)) → new ≡ now ++ encode_utf8_all text → Kind left text rest
    → Reads Kind cs old new rest
ahead-end Kind cs old now left a new text rest p k = record {
  text = a.done ++ text;
  put = p ∙ ap (λ l. l ++ encode_utf8_all text) a.put ∙ append_assoc old (encode_utf8_all a.done) (encode_utf8_all text)
      ∙ ap (λ l. old ++ l) (sym (encodes-append a.done text));
  read = a.goes_on text rest k;
}
