use Rattle.std.proofs.Common.{◌∙◌, List, ℕ, ap, sym}
use Rattle.std.proofs.lemmas.List.{take_all}
use Rattle.std.specs.Prelude.{take}
use Rattle.server_inbox.proofs.inbox.Asked.piece.Goals as goal

pub returns-then-rest-le-PIECE : goal.returns-then-rest-le-PIECE
returns-then-rest-le-PIECE c =
    sym (take_all 8192 c.rest-rest.result.now c.if-rest-le-PIECE.true)
    ∙ ap (λ (xs : List ℕ). take 8192 xs) c.rest-rest.ensures
