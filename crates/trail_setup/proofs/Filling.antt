-- Words that are put on lines.
use Rattle.trail_setup.proofs.Vocabulary.{◌≡◌, ◌∙◌, ℕ, List, [], ◌∷◌, ◌++◌, Result, Ok, Err, OnOk, refl, sym, ap}
use Rattle.trail_setup.proofs.Vocabulary.{append_assoc, append-nil, flat_map, Kind, HoldWords, PutsLines, begun, line}
use Rattle.trail_setup.proofs.Vocabulary.{on_lines}
use Rattle.std.proofs.lemmas.Grind.{flat_map-append}

-- three texts that came after one another
pub three : (a b c d l t n : List ℕ) → b ≡ a ++ l → c ≡ b ++ t → d ≡ c ++ n → d ≡ a ++ (l ++ (t ++ n))
three a b c d l t n e f g =
    g ∙ ap (λ (x : List ℕ). x ++ n) (f ∙ ap (λ (x : List ℕ). x ++ t) e)
    ∙ (append_assoc (a ++ l) t n ∙ append_assoc a l (t ++ n))

-- the line that isn't ended yet is ended
pub ended : (k : Kind) (start : List ℕ) (words : List (List ℕ)) (out now : List ℕ)
    (lines : List (List ℕ × List (List ℕ))) (last : List (List ℕ))
    → (now ≡ [] → ⊥) → words ≡ on_lines lines ++ last → out ≡ start ++ flat_map (line k) lines → now ≡ begun k last
    → PutsLines k start words (out ++ (now ++ (k.tail ++ 0x0A ∷ [])))
ended k start words out now lines [] some all put begins = absurd (some begins)
ended k start words out now lines (word ∷ more) some all put begins =
    let end : List ℕ = k.tail ++ 0x0A ∷ [] in
    let whole : List ℕ = begun k (word ∷ more) ++ end in
    let before : List ℕ = flat_map (line k) lines in record {
      lines = lines ++ (word, more) ∷ [];
      last = [];
      all = all ∙ sym (append-nil (on_lines (lines ++ (word, more) ∷ []))
          ∙ flat_map-append (λ (l : List ℕ × List (List ℕ)). l.0 ∷ l.1) lines ((word, more) ∷ [])
          ∙ ap (λ (ws : List (List ℕ)). on_lines lines ++ ws) (append-nil (word ∷ more)));
      put = ap (λ (o : List ℕ). o ++ (now ++ end)) put ∙ ap (λ (n : List ℕ). (start ++ before) ++ (n ++ end)) begins
          ∙ append_assoc start before whole
          ∙ ap (λ (t : List ℕ). start ++ t) (sym (flat_map-append (line k) lines ((word, more) ∷ [])
          ∙ ap (λ (t : List ℕ). before ++ t) (append-nil whole)));
      begins = refl;
    }

-- a word is put on the line that isn't ended yet
pub pushed : {A E : Type 0} (r : Result A E) (k : Kind) (start : List ℕ)
    (words : List (List ℕ)) (word out now new : List ℕ)
    → HoldWords k start words out now
    → ((last : List (List ℕ)) → now ≡ begun k last → OnOk r (new ≡ begun k (last ++ word ∷ [])))
    → OnOk r (HoldWords k start (words ++ word ∷ []) out new)
pushed (Ok v) k start words word out now new h f = record {
  lines = h.lines;
  last = h.last ++ word ∷ [];
  all = ap (λ (ws : List (List ℕ)). ws ++ word ∷ []) h.all ∙ append_assoc (on_lines h.lines) h.last (word ∷ []);
  put = h.put;
  begins = f h.last h.begins;
}
pushed (Err e) k start words word out now new h f = tt
