-- Facts that the function that cuts a line keeps in its loop.
use Rattle.std.proofs.Common.{◌≡◌, ◌≢◌, ℕ, suc, ◌+◌, ◌-◌, ◌<◌, ◌≤◌, Bool, true, false, List, [], ◌∷◌, ◌++◌, length}
use Rattle.std.proofs.Common.{drop, take, get_or, refl, sym, ap, ◌∙◌, subst, arith, append_assoc, length-append, Option}
use Rattle.std.proofs.Common.{Some, None}
use Rattle.std.specs.Char.{encode_utf8, len_utf8}
use Rattle.std.specs.Str.{encode_utf8_all}
use Rattle.std.proofs.lemmas.List.{append-nil}
use Rattle.std.proofs.lemmas.Str.{encodes-append, length-encode}
use Rattle.strings.specs.declared.text.Word.{Word}
use Rattle.strings.specs.Grammar.{Parts, Line, IsCut, size}
use Rattle.strings.specs.Reading.{Reads}
use Rattle.strings.proofs.Fronts.{cons-front}
use Rattle.strings.proofs.Suffixes.{shorter, smaller, word-behind}

-- taking one more item appends that item
take-more : (cs : List ℕ) (i c : ℕ) → i < length cs → c ≡ get_or cs i c → take (i + 1) cs ≡ take i cs ++ c ∷ []
take-more cs i c h g = let e : i + 1 ≡ suc i = omega arith in ap (λ n. take n cs) e ∙ go cs i h g
  where
    go : (cs : List ℕ) (i : ℕ) → i < length cs → c ≡ get_or cs i c → take (suc i) cs ≡ take i cs ++ c ∷ []
    go [] i h g = absurd (omega (arith, h))
    go (x ∷ cs) ℕ.zero h g = λ j. sym g j ∷ []
    go (x ∷ cs) (suc i) h g = ap (λ l. x ∷ l) (go cs i (omega (arith, h)) g)

pub size-cons : (c : ℕ) (cs : List ℕ) → size (c ∷ cs) ≡ len_utf8 c + size cs
size-cons c cs = length-append (encode_utf8 c) (encode_utf8_all cs) ∙ ap (λ n. n + size cs) (length-encode c)

size-append : (cs ds : List ℕ) → size (cs ++ ds) ≡ size cs + size ds
size-append cs ds = ap length (encodes-append cs ds) ∙ length-append (encode_utf8_all cs) (encode_utf8_all ds)

pub count-more : (cs : List ℕ) (i c n : ℕ) → i < length cs → c ≡ get_or cs i c → n ≡ size (take i cs)
    → n + len_utf8 c ≡ size (take (i + 1) cs)
count-more cs i c n h g e =
    let t = ap size (take-more cs i c h g) ∙ size-append (take i cs) (c ∷ []) in
    let s = size-cons c [] in
    omega (arith, e, t, s)

-- Of the characters cs, all but those in `left` are cut into these words.
pub record IsCutTo (cs : List ℕ) (words : List Word) (left : List ℕ) : Type 0 where
  pub goes_on : (ws : List Word) → Line (size cs) left ws → Line (size cs) cs (words ++ ws)
  pub short : length left ≤ length cs
  pub small : size left ≤ size cs

pub cut-blank : (cs : List ℕ) (words : List Word) (left : List ℕ) (c : ℕ) → IsCutTo cs words left → 1 ≤ length left
    → c ≡ get_or left 0 c → c ≡ 0x20
    → IsCutTo cs words (take (length left - 1) (drop 1 left))
cut-blank cs words left c a l g e =
    let f = cons-front left c l g in
    let rest = take (length left - 1) (drop 1 left) in
    record {
      goes_on = λ ws k. a.goes_on ws (subst (λ x. Line (size cs) x ws) (sym (f ∙ ap (λ x. x ∷ rest) e)) (Line.blank k));
      short = omega (arith, ap length f, a.short);
      small = omega (arith, ap size f ∙ size-cons c rest, a.small);
    }

-- the word that is pushed
abbrev pub word : ℕ → List ℕ → Bool → Word
word place text closed = record { place = place; text = text; is_closed = closed }

-- what is left begins with a word, whose text was appended
record Begins (left old new : List ℕ) (end : Option (List ℕ)) : Type 0 where
  first : ℕ
  others : List ℕ
  is : left ≡ first ∷ others
  visible : first ≢ 0x20
  read : Reads Parts (first ∷ others) [] new end

begins : (left old new : List ℕ) (end : Option (List ℕ)) (c : ℕ) → 1 ≤ length left → c ≡ get_or left 0 c → c ≢ 0x20
    → old ≡ [] → Reads Parts left old new end → Begins left old new end
begins left old new end c l g n o r =
    let f = cons-front left c l g in
    record {
      first = c;
      others = take (length left - 1) (drop 1 left);
      is = f;
      visible = n;
      read = subst (λ x. Reads Parts x [] new end) f (subst (λ x. Reads Parts left x new end) o r);
    }

pub cut-word : (cs : List ℕ) (words : List Word) (left : List ℕ) (c : ℕ) → IsCutTo cs words left → 1 ≤ length left
    → c ≡ get_or left 0 c → c ≢ 0x20
    → (old new : List ℕ) (end : Option (List ℕ)) → old ≡ [] → Reads Parts left old new end
    → (rest : List ℕ) → end ≡ Some rest → (place : ℕ) → place ≡ size cs - size left → (text : List ℕ) → text ≡ new
    → (closed : Bool) → closed ≡ true
    → (next : List Word) → next ≡ words ++ word place text closed ∷ [] → IsCutTo cs next rest
cut-word cs words left c a l g n old new end o r rest k place p text t closed w next e =
    let b = begins left old new end c l g n o r in
    let d = subst (Reads Parts (b.first ∷ b.others) [] new) k b.read in
    let back = word-behind b.first b.others d.text (Some rest) b.visible d.read in
    let same : word place text closed ≡ word (size cs - size (b.first ∷ b.others)) (encode_utf8_all d.text) true =
    λ j. word ((p ∙ ap (λ x. size cs - size x) b.is) j) ((t ∙ d.put) j) (w j) in
    record {
      goes_on = λ ws m. subst (λ x. Line (size cs) cs (x ++ ws)) (sym (e ∙ ap (λ x. words ++ x ∷ []) same))
          (subst (Line (size cs) cs)
          (sym
          (append_assoc words (word (size cs - size (b.first ∷ b.others)) (encode_utf8_all d.text) true ∷ []) ws))
          (a.goes_on (word (size cs - size (b.first ∷ b.others)) (encode_utf8_all d.text) true ∷ ws)
          (subst (λ x. Line (size cs) x (word (size cs - size (b.first ∷ b.others)) (encode_utf8_all d.text) true ∷ ws))
          (sym b.is) (Line.word b.visible d.read m))));
      short = omega (arith, shorter 1 (b.first ∷ b.others) rest back, ap length b.is, a.short);
      small = omega (arith, smaller 1 (b.first ∷ b.others) rest back, ap size b.is, a.small);
    }

pub cut-less : (left : List ℕ) (c : ℕ) → 1 ≤ length left → c ≡ get_or left 0 c → c ≢ 0x20
    → (old new : List ℕ) (end : Option (List ℕ)) → old ≡ [] → Reads Parts left old new end → (rest : List ℕ)
    → end ≡ Some rest → length rest < length left
cut-less left c l g n old new end o r rest k =
    let b = begins left old new end c l g n o r in
    let d = subst (Reads Parts (b.first ∷ b.others) [] new) k b.read in
    omega (
      arith,
      shorter 1 (b.first ∷ b.others) rest (word-behind b.first b.others d.text (Some rest) b.visible d.read),
      ap length b.is,
    )

pub cut-broken : (cs : List ℕ) (words : List Word) (left : List ℕ) (c : ℕ) → IsCutTo cs words left → 1 ≤ length left
    → c ≡ get_or left 0 c → c ≢ 0x20
    → (old new : List ℕ) (end : Option (List ℕ)) → old ≡ [] → Reads Parts left old new end
    → end ≡ None → (place : ℕ) → place ≡ size cs - size left → (text : List ℕ) → text ≡ new → (closed : Bool)
    → closed ≡ false
    → (next : List Word) → next ≡ words ++ word place text closed ∷ [] → IsCut cs next
cut-broken cs words left c a l g n old new end o r k place p text t closed w next e =
    let b = begins left old new end c l g n o r in
    let d = subst (Reads Parts (b.first ∷ b.others) [] new) k b.read in
    let same : word place text closed ≡ word (size cs - size (b.first ∷ b.others)) (encode_utf8_all d.text) false =
    λ j. word ((p ∙ ap (λ x. size cs - size x) b.is) j) ((t ∙ d.put) j) (w j) in
    subst (Line (size cs) cs) (sym (e ∙ ap (λ x. words ++ x ∷ []) same))
    (a.goes_on (word (size cs - size (b.first ∷ b.others)) (encode_utf8_all d.text) false ∷ [])
    (subst (λ x. Line (size cs) x (word (size cs - size (b.first ∷ b.others)) (encode_utf8_all d.text) false ∷ []))
    (sym b.is) (Line.broken b.visible d.read)))

pub cut-end : (cs : List ℕ) (words : List Word) (left : List ℕ) → IsCutTo cs words left → length left < 1
    → IsCut cs words
cut-end cs words left a l = subst (Line (size cs) cs) (append-nil words)
    (a.goes_on [] (subst (λ x. Line (size cs) x []) (none left l) Line.last))
  where
    none : (xs : List ℕ) → length xs < 1 → [] ≡ xs
    none [] h = refl
    none (x ∷ xs) h = absurd (omega (arith, h))
