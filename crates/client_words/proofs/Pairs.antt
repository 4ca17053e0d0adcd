-- Input in which one byte leaves, after one more byte.
use Rattle.std.proofs.Common.{◌≡◌, ℕ, ◌==◌, Bool, true, false, List, [], ◌∷◌, ◌++◌, refl, sym, ap, ◌∙◌, if◌then◌else◌}
use Rattle.client_words.specs.declared.leaving.InputStage.{InputStage}
use Rattle.client_words.specs.declared.leaving.InputStage.TheVariants.{Reading, Waiting, Left}
use Rattle.client_words.specs.Leaving.{sent, stage}
use Rattle.client_words.specs.Stands.{HasRead}
use Rattle.client_words.specs.declared.leaving.LeaveReader.{LeaveReader}

abbrev pub next : ℕ → InputStage → ℕ → InputStage
next byte Reading y = if y == byte then Waiting else Reading
next byte Waiting y = if y == byte then Reading else Left
next byte Left y = Left

abbrev pub more : ℕ → InputStage → ℕ → List ℕ
more byte Reading y = if y == byte then [] else y ∷ []
more byte Waiting y = if y == byte then byte ∷ [] else []
more byte Left y = []

pub stage-more : (byte : ℕ) (xs : List ℕ) (y : ℕ) → stage byte (xs ++ y ∷ []) ≡ next byte (stage byte xs) y
unfolding stage
stage-more byte [] y = refl
stage-more byte (x ∷ []) y = go (x == byte) refl
  where
    go : (b : Bool) → x == byte ≡ b → stage byte (x ∷ y ∷ []) ≡ next byte (stage byte (x ∷ [])) y
    go true h = rw h refl
    go false h = rw h refl
stage-more byte (x ∷ z ∷ rest) y = go (x == byte) (z == byte) refl refl (stage-more byte rest y)
    (stage-more byte (z ∷ rest) y)
  where
    go : (b d : Bool) → x == byte ≡ b → z == byte ≡ d
        → stage byte (rest ++ y ∷ []) ≡ next byte (stage byte rest) y
        → stage byte (z ∷ rest ++ y ∷ []) ≡ next byte (stage byte (z ∷ rest)) y
        → stage byte (x ∷ z ∷ rest ++ y ∷ []) ≡ next byte (stage byte (x ∷ z ∷ rest)) y
    go true true h k e f = rw (h, k) e
    go true false h k e f = rw (h, k) refl
    go false d h k e f = rw h f

pub sent-more : (byte : ℕ) (xs : List ℕ) (y : ℕ)
    → sent byte (xs ++ y ∷ []) ≡ sent byte xs ++ more byte (stage byte xs) y
unfolding sent stage
sent-more byte [] y = refl
sent-more byte (x ∷ []) y = go (x == byte) (y == byte) refl refl
  where
    go : (b d : Bool) → x == byte ≡ b → y == byte ≡ d
        → sent byte (x ∷ y ∷ []) ≡ sent byte (x ∷ []) ++ more byte (stage byte (x ∷ [])) y
    go true true h k = rw (h, k) refl
    go true false h k = rw (h, k) refl
    go false true h k = rw (h, k) refl
    go false false h k = rw (h, k) refl
sent-more byte (x ∷ z ∷ rest) y = go (x == byte) (z == byte) refl refl (sent-more byte rest y)
    (sent-more byte (z ∷ rest) y)
  where
    go : (b d : Bool) → x == byte ≡ b → z == byte ≡ d
        → sent byte (rest ++ y ∷ []) ≡ sent byte rest ++ more byte (stage byte rest) y
        → sent byte (z ∷ rest ++ y ∷ []) ≡ sent byte (z ∷ rest) ++ more byte (stage byte (z ∷ rest)) y
        → sent byte (x ∷ z ∷ rest ++ y ∷ []) ≡ sent byte (x ∷ z ∷ rest) ++ more byte (stage byte (x ∷ z ∷ rest)) y
    go true true h k e f = rw (h, k) (ap (λ (l : List ℕ). byte ∷ l) e)
    go true false h k e f = rw (h, k) refl
    go false d h k e f = rw h (ap (λ (l : List ℕ). x ∷ l) f)

-- ---- a reader's byte

pub reads-nothing : (byte : ℕ) → HasRead (record { byte = byte; stage = Reading }) []
unfolding stage
reads-nothing byte = record { stage = refl }

pub reads-more : (reader : LeaveReader) (before : List ℕ) (y : ℕ) (after : InputStage) → HasRead reader before
    → next reader.byte reader.stage y ≡ after
    → HasRead (record { byte = reader.byte; stage = after }) (before ++ y ∷ [])
reads-more reader before y after s e = record {
  stage = sym (stage-more reader.byte before y ∙ ap (λ (st : InputStage). next reader.byte st y) (sym s.stage) ∙ e);
}

pub sends-more : (reader : LeaveReader) (before : List ℕ) (y : ℕ) (put : List ℕ) → HasRead reader before
    → more reader.byte reader.stage y ≡ put
    → sent reader.byte (before ++ y ∷ []) ≡ sent reader.byte before ++ put
sends-more reader before y put s e =
    sent-more reader.byte before y
    ∙ ap (λ (st : InputStage). sent reader.byte before ++ more reader.byte st y) (sym s.stage)
    ∙ ap (λ (l : List ℕ). sent reader.byte before ++ l) e

pub next-yes : (byte : ℕ) (st : InputStage) (y : ℕ) → st ≡ Reading → y == byte ≡ true → next byte st y ≡ Waiting
next-yes byte st y e h = rw (e, h) refl

pub next-no : (byte : ℕ) (st : InputStage) (y : ℕ) → st ≡ Reading → y == byte ≡ false → next byte st y ≡ Reading
next-no byte st y e h = rw (e, h) refl

pub next-pair : (byte : ℕ) (st : InputStage) (y : ℕ) → st ≡ Waiting → y == byte ≡ true → next byte st y ≡ Reading
next-pair byte st y e h = rw (e, h) refl

pub next-lone : (byte : ℕ) (st : InputStage) (y : ℕ) → st ≡ Waiting → y == byte ≡ false → next byte st y ≡ Left
next-lone byte st y e h = rw (e, h) refl

pub next-left : (byte : ℕ) (st : InputStage) (y : ℕ) → st ≡ Left → next byte st y ≡ Left
next-left byte st y e = rw e refl

pub more-yes : (byte : ℕ) (st : InputStage) (y : ℕ) → st ≡ Reading → y == byte ≡ true → more byte st y ≡ []
more-yes byte st y e h = rw (e, h) refl

pub more-no : (byte : ℕ) (st : InputStage) (y : ℕ) → st ≡ Reading → y == byte ≡ false → more byte st y ≡ y ∷ []
more-no byte st y e h = rw (e, h) refl

pub more-pair : (byte : ℕ) (st : InputStage) (y : ℕ) → st ≡ Waiting → y == byte ≡ true → y ≡ byte
    → more byte st y ≡ y ∷ []
more-pair byte st y e h same = rw (e, h) (ap (λ n. n ∷ []) (sym same))

pub more-lone : (byte : ℕ) (st : InputStage) (y : ℕ) → st ≡ Waiting → y == byte ≡ false → more byte st y ≡ []
more-lone byte st y e h = rw (e, h) refl

pub more-left : (byte : ℕ) (st : InputStage) (y : ℕ) → st ≡ Left → more byte st y ≡ []
more-left byte st y e = rw e refl

pub reads-same : (reader : LeaveReader) (before : List ℕ) (y : ℕ) → HasRead reader before
    → next reader.byte reader.stage y ≡ reader.stage
    → HasRead reader (before ++ y ∷ [])
reads-same reader before y s e = record {
  stage = sym (stage-more reader.byte before y ∙ ap (λ (st : InputStage). next reader.byte st y) (sym s.stage) ∙ e);
}
