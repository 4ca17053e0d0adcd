use Rattle.view.proofs.Vocabulary.{true, ◌≡◌, ℕ, List, arith, subst, sym, ap, ◌∙◌, chars, all_scalars, string_bytes}
use Rattle.view.proofs.Vocabulary.{Cell, plain, utf8_lossy, Piece, status_piece, text_at, IsRow}
use Rattle.std.proofs.lemmas.Str.{scalars-chars, IsUtf8-string_bytes}
use Rattle.view.proofs.Laying.{none_lays, row_is_free, one_more_row, all_rows}
use Rattle.view.proofs.Pairing.{text_row_pairs}
use Rattle.view.proofs.view.View.put_status.Goals as goal

pub returns-clause-lays : goal.returns-clause-lays
returns-clause-lays c = λ one free.
    let piece : Piece = status_piece c.args.rect c.args.text.now in
    let now : List Cell = c.deref.result.now in
    let columns : ℕ = c.args.rect.columns in
    let text : List ℕ = chars (utf8_lossy c.args.text.now) in
    let same : chars c.as_str.result.now ≡ text = ap chars (c.as_str.ensures.value ∙ c.in_ok-text.ensures.lossy) in
    let put : IsRow (text_at plain (chars c.as_str.result.now) columns) columns now = subst
    (λ (cells : List Cell). IsRow (text_at plain (chars c.as_str.result.now) columns) columns cells)
    (sym c.deref.ensures.value) c.in_ok-cells.ensures in
    let row : IsRow (text_at plain text columns) columns now = subst
    (λ (cs : List ℕ). IsRow (text_at plain cs columns) columns now) same put in
    let none = none_lays piece c.args.self.now in
    all_rows piece 1 c.args.self.now c.put_row.new.self (sym one)
    (one_more_row piece 0 c.args.self.now c.args.self.now c.put_row.new.self now none
    (c.put_row.ensures.lays (row_is_free piece 0 c.args.self.now c.args.self.now free (omega arith) none)
    (text_row_pairs plain text columns now row) row.width)
    row)

pub returns-clause-characters : goal.returns-clause-characters
returns-clause-characters c =
    subst (λ (bs : List ℕ). all_scalars (chars bs) ≡ true) c.in_ok-text.ensures.lossy
    (scalars-chars (string_bytes c.in_ok-text.text) (IsUtf8-string_bytes c.in_ok-text.text))
