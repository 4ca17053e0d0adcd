-- Frames that are put one after the other.
use Rattle.std.proofs.Common.{◌≡◌, ◌∙◌, ◌++◌, ◌∷◌, [], List, ℕ, Option, refl, sym, ap, append_assoc, append-nil}
use Rattle.std.specs.List.{concat}
use Rattle.std.proofs.lemmas.List.Elements.{All-nil, All-push}
use Rattle.std.proofs.lemmas.List.Sums.{fold-append}
use Rattle.acl.specs.declared.user_id.UserId.{UserId}
use Rattle.attach_proto.specs.Spelling.{frame}
use Rattle.attach_proto.specs.declared.kind.Kind.{Kind}
use Rattle.server_sending.specs.Written.{Waiting, with_frame}
use Rattle.server_sending.specs.Frames.{IsPiece, PutsFrames}

pub joined : (pieces : List (List ℕ)) (piece : List ℕ) → concat (pieces ++ piece ∷ []) ≡ concat pieces ++ piece
joined [] piece = append-nil piece
joined (first ∷ pieces) piece = ap (λ xs. first ++ xs) (joined pieces piece)
    ∙ sym (append_assoc first (concat pieces) piece)

pub none_put : (kind : Kind) (typist : Option UserId) (turn : Waiting) → PutsFrames kind typist [] turn turn
none_put kind typist turn = record { pieces = []; whole = refl; each = All-nil IsPiece; put = refl }

pub one_more : (kind : Kind) (typist : Option UserId) (done piece made : List ℕ) (old before after : Waiting)
    → PutsFrames kind typist done old before → IsPiece piece → made ≡ frame kind piece
    → after ≡ with_frame typist made before → PutsFrames kind typist (done ++ piece) old after
one_more kind typist done piece made old before after put fits spelled is =
    let puts : Waiting → List ℕ → Waiting = λ turn p. with_frame typist (frame kind p) turn in
    record {
      pieces = put.pieces ++ piece ∷ [];
      whole = joined put.pieces piece ∙ ap (λ xs. xs ++ piece) put.whole;
      each = All-push IsPiece put.pieces piece put.each fits;
      put = is ∙ ap (λ xs. with_frame typist xs before) spelled ∙ ap (λ turn. puts turn piece) put.put
          ∙ sym (fold-append puts old put.pieces (piece ∷ []));
    }
