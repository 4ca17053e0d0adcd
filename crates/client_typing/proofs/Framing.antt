-- Bytes in frames, one piece after another.
use Rattle.std.proofs.Common.{◌≡◌, ℕ, ◌≤◌, List, [], ◌∷◌, ◌++◌, length, take, drop, sym, ap, ◌∙◌}
use Rattle.std.proofs.lemmas.List.{append-nil, append_assoc, take-append-drop}
use Rattle.std.specs.List.{AllByRecursion, flat_map}
use Rattle.std.proofs.lemmas.Grind.{flat_map-append}
use Rattle.attach_proto.specs.declared.kind.Kind.{Kind}
use Rattle.attach_proto.specs.Spelling.{frame}
use Rattle.client_typing.specs.Framing.{Sends}

all-more : (pieces : List (List ℕ)) (piece : List ℕ) → AllByRecursion (λ p. length p ≤ 8192) pieces
    → length piece ≤ 8192 → AllByRecursion (λ p. length p ≤ 8192) (pieces ++ piece ∷ [])
all-more [] piece a h = (h, tt)
all-more (p ∷ ps) piece a h = (a.0, all-more ps piece a.1 h)

-- one more piece
pub sends-more : (old before new : List ℕ) (kind : Kind) (front piece : List ℕ) → Sends old before kind front
    → length piece ≤ 8192 → new ≡ before ++ frame kind piece → Sends old new kind (front ++ piece)
sends-more old before new kind front piece s few e =
    let id : List ℕ → List ℕ = λ p. p in
    record {
      pieces = s.pieces ++ piece ∷ [];
      whole =
          flat_map-append id s.pieces (piece ∷ []) ∙ ap (λ x. x ++ (piece ++ [])) s.whole
          ∙ ap (λ x. front ++ x) (append-nil piece);
      fit = all-more s.pieces piece s.fit few;
      added =
          e ∙ ap (λ x. x ++ frame kind piece) s.added
          ∙ append_assoc old (flat_map (frame kind) s.pieces) (frame kind piece)
          ∙ ap (λ x. old ++ x)
          (sym
          (flat_map-append (frame kind) s.pieces (piece ∷ [])
          ∙ ap (λ x. flat_map (frame kind) s.pieces ++ x) (append-nil (frame kind piece))));
    }

-- two parts of a list are the list
pub cut-whole : (n : ℕ) (xs front back : List ℕ) → front ≡ take n xs → back ≡ drop n xs → front ++ back ≡ xs
cut-whole n xs front back f b = rw (f, b) (take-append-drop n xs)
