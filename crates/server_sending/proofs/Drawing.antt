-- The frames of a draw, one after the other.
use Rattle.std.proofs.Common.{◌≡◌, ◌∙◌, ◌++◌, ◌∷◌, ◌<◌, [], List, ℕ, None, ap, sym, refl, arith, length, subst}
use Rattle.std.proofs.Common.{inl, inr}
use Rattle.std.specs.List.{All, concat, fold}
use Rattle.std.proofs.lemmas.List.Elements.{All-nil, All-push, All-weaker}
use Rattle.std.proofs.lemmas.List.Sums.{fold-append}
use Rattle.attach_proto.specs.Spelling.{frame}
use Rattle.attach_proto.specs.declared.kind.Kind.TheVariants as kind
use Rattle.server_sending.specs.Written.{Waiting, with_frame}
use Rattle.server_sending.specs.Frames.{GoesOn, IsPiece, PutsDraw, PutsFrames}
use Rattle.server_sending.proofs.Framing.{joined, one_more}

abbrev puts : Waiting → List ℕ → Waiting
puts turn piece = with_frame None (frame kind.Draw piece) turn

-- frames of the first bytes of a draw were put, and the last one wasn't
pub record Begins (bytes : List ℕ) (old new : Waiting) : Type 0 where
  pub pieces : List (List ℕ)
  pub whole : concat pieces ≡ bytes
  pub each : All GoesOn pieces
  pub put : new ≡ fold (λ turn piece. with_frame None (frame kind.Draw piece) turn) old pieces

pub begins_not : (turn : Waiting) → Begins [] turn turn
begins_not turn = record { pieces = []; whole = refl; each = All-nil GoesOn; put = refl }

pub goes_on : (done piece made : List ℕ) (old before after : Waiting) → Begins done old before → GoesOn piece
    → made ≡ frame kind.Draw piece → after ≡ with_frame None made before → Begins (done ++ piece) old after
goes_on done piece made old before after put goes spelled is = record {
  pieces = put.pieces ++ piece ∷ [];
  whole = joined put.pieces piece ∙ ap (λ xs. xs ++ piece) put.whole;
  each = All-push GoesOn put.pieces piece put.each goes;
  put = is ∙ ap (λ xs. with_frame None xs before) spelled ∙ ap (λ turn. puts turn piece) put.put
      ∙ sym (fold-append puts old put.pieces (piece ∷ []));
}

is_piece : (bytes : List ℕ) → GoesOn bytes → IsPiece bytes
is_piece bytes (inl one) = (omega (arith, one), omega (arith, one))
is_piece bytes (inr full) = (omega (arith, full), omega (arith, full))

pub are_frames : (done : List ℕ) (old new : Waiting) → Begins done old new → PutsFrames kind.Draw None done old new
are_frames done old new put = record {
  pieces = put.pieces;
  whole = put.whole;
  each = All-weaker GoesOn IsPiece is_piece put.pieces put.each;
  put = put.put;
}

-- then the last frame is put
module _ (bytes done last made : List ℕ) (old before after : Waiting) (whole : done ++ last ≡ bytes)
    (put : Begins done old before) (few : length last < 8192) (spelled : made ≡ frame kind.Draw last)
    (is : after ≡ with_frame None made before) where
  pub all_frames : 0 < length last → PutsFrames kind.Draw None bytes old after
  all_frames some = subst (λ (xs : List ℕ). PutsFrames kind.Draw None xs old after) whole
      (one_more kind.Draw None done last made old before after (are_frames done old before put)
      (some, omega (arith, few)) spelled is)

  pub ends : 1 < length last → PutsDraw bytes old after
  ends some = record {
    pieces = put.pieces;
    last = last;
    whole = ap (λ xs. xs ++ last) put.whole ∙ whole;
    each = put.each;
    ends = (some, few);
    put = is ∙ ap (λ xs. with_frame None xs before) spelled ∙ ap (λ turn. puts turn last) put.put;
  }
