-- Pages, screens and terminals that are the same.
use Rattle.std.proofs.Common.{◌≡◌, ℕ, ◌<◌, List, [], length, sym, ap, subst, ◌∙◌, arith, Bor}
use Rattle.std.specs.Prelude.{Some, slice_get}
use Rattle.std.proofs.lemmas.List.{ext_get_or}
use Rattle.std.proofs.lemmas.Option.{get_or_from_slice_get}
use Rattle.charsets.specs.declared.decoder.Coding.{Coding}
use Rattle.charsets.specs.Units.{Decoding}
use Rattle.cells.specs.declared.cell.Cell.{Cell}
use Rattle.cells.specs.Page.{line_at}
use Rattle.control_parser.specs.Grammar.{Rest, nothing}
use Rattle.control_parser.proofs.Pieces.{kept-ground}
use Rattle.terminal_model.specs.Screen.{Page, Screen}
use Rattle.terminal_model.specs.Reading.{Terminal, ready}
use Rattle.emulator.specs.Standing.{Parts, StandsFor, HasRead, IsBetween}
use Rattle.rebuild.specs.Rebuilt.{BringsBack, starting_as, rebuilt}

-- two pages of this number of lines with the same lines
pub page-same : (rows : ℕ) (p q : Page) → length p ≡ rows → length q ≡ rows
    → ((line : ℕ) → line < rows → line_at p line ≡ line_at q line) → p ≡ q
page-same rows p q h k same = ext_get_or [] p q (h ∙ sym k) (λ line l. same line (omega arith))

-- the line that was lent
pub lent-line : (line : Bor (List Cell)) (lines : Page) (n : ℕ)
    → Some line.now ≡ slice_get lines n → line_at lines n ≡ line.now
lent-line line lines n e = get_or_from_slice_get lines n line.now [] (sym e)

-- a terminal between characters, sequences and strings
ready-is : (c : Coding) (e : Parts) (t : Terminal) → StandsFor e t → IsBetween c e → t ≡ ready t.screen
ready-is c e t h b =
    let none : t.rest ≡ [] = sym (ap (λ (d : Decoding). d.rest) h.decoding) ∙ b.whole in
    let ended : t.unended ≡ nothing = kept-ground t.unended (sym h.parsing ∙ b.idle) in
    ap (λ (r : List ℕ). record { screen = t.screen; rest = r; unended = t.unended }) none
    ∙ ap (λ (u : Rest). record { screen = t.screen; rest = []; unended = u }) ended

-- an emulator between two functions stands for one terminal
pub terminal-same : (e : Parts) (t u : Terminal) → IsBetween e.screen.state.coding e → StandsFor e t → StandsFor e u
    → t ≡ u
terminal-same e t u b h k =
    ready-is e.screen.state.coding e t h b ∙ ap (λ (x : Screen). ready x) (sym h.screen ∙ k.screen)
    ∙ sym (ready-is e.screen.state.coding e u k b)

-- an emulator that has read bytes as a new terminal does, without an answer, and the one that it is the same as
pub brought : (e twin : Parts) (bytes answers : List ℕ) → HasRead (ready (starting_as e)) bytes [] twin answers
    → answers ≡ [] → e ≡ twin → BringsBack e bytes
brought e twin bytes answers read none same = record {
  stands = subst (λ (p : Parts). StandsFor p (rebuilt e bytes).terminal) (sym same) read.stands;
  silent = sym read.reports ∙ none;
}
