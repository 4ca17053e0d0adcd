use Rattle.trail_lines.proofs.Vocabulary.{◌≡◌, ◌∷◌, sym, ◌∙◌, ap, option_copied, words_behind, blank, notes_of, noted}
use Rattle.trail_lines.proofs.Reading.{no_note, one_note, all_notes}
use Rattle.trail_lines.proofs.entries.Remarks.read.Goals as goal
use Rattle.trail_lines.proofs.entries.Remarks.read.Goals.{After-next_word}

-- the first of the words that are left
first : (c : After-next_word)
    → words_behind blank (option_copied c.notes.rest) ≡ c.next_word.result.0.now ∷ words_behind blank
    (option_copied c.next_word.result.1)
first c = ap (λ rest. words_behind blank (option_copied rest)) c.in-Some.is ∙ c.next_word.ensures

pub notes-preserved : goal.notes-preserved
notes-preserved c =
    one_note _ _ _ (noted c.notes.notes) _ _ (first (goal.at.notes-preserved c).After-next_word)
    c.in-Some-read_note.ensures c.in_ok-add.ensures ∙ c.notes.invariant

pub returns : goal.returns
returns c =
    sym c.notes.invariant
    ∙ ap (λ rest. notes_of (words_behind blank (option_copied rest)) (noted c.notes.notes)) c.in_default.is
    ∙ all_notes (noted c.notes.notes)

pub returns-in_default-read_note : goal.returns-in_default-read_note
returns-in_default-read_note c =
    sym c.notes.invariant
    ∙ no_note _ _ _ (noted c.notes.notes) (first (goal.at.returns-in_default-read_note c).After-next_word)
    c.in_default-read_note.ensures
