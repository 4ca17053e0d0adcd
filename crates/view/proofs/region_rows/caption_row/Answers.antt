use Rattle.view.proofs.Vocabulary.{◌≡◌, ℕ, List, true, subst, all_scalars, string_bytes, IfOk-weaker}
use Rattle.std.proofs.lemmas.Str.{scalars-chars, IsUtf8-string_bytes}
use Rattle.view.proofs.region_rows.caption_row.Goals as goal

pub returns-clause-characters : goal.returns-clause-characters
returns-clause-characters c =
    let scalars = subst (λ (cs : List ℕ). all_scalars cs ≡ true) c.in_ok-text.ensures
    (scalars-chars (string_bytes c.in_ok-text.text) (IsUtf8-string_bytes c.in_ok-text.text)) in
    IfOk-weaker c.text_row.result _ _ (λ row is. scalars) c.text_row.ensures
