-- There is one blank sheet of each size.
use Rattle.std.proofs.Common.{◌≡◌, ℕ, List, sym, ap, ◌∙◌}
use Rattle.terminal_model.specs.Screen.{Screen, starting}
use Rattle.terminal_model.specs.Reading.{Terminal, ready}
use Rattle.emulator.specs.Standing.{Parts, StandsFor}
use Rattle.web_page.specs.declared.sheet.Head.{Head}
use Rattle.web_page.specs.Updates.{head_of}
use Rattle.web_page.specs.Showing.{Kept, Sheet, IsBlank}

-- the emulator that stands for a terminal is one
same-parts : (t : Terminal) (e f : Parts) → StandsFor e t → StandsFor f t → e ≡ f
same-parts t e f a b =
    ap (λ (x : Screen). record { screen = x; decoding = e.decoding; parsing = e.parsing })
    (a.screen ∙ sym b.screen)
    ∙ ap (λ d. record { screen = f.screen; decoding = d; parsing = e.parsing })
    (a.decoding ∙ sym b.decoding)
    ∙ ap (λ s. record { screen = f.screen; decoding = f.decoding; parsing = s })
    (a.parsing ∙ sym b.parsing)

pub same-blank : (rows columns : ℕ) (a b : Sheet) → IsBlank rows columns a → IsBlank rows columns b → a ≡ b
same-blank rows columns a b p q =
    let e : a.terminal ≡ b.terminal =
    same-parts (ready (starting rows columns 0)) a.terminal b.terminal p.terminal q.terminal in
    ap (λ (t : Parts). record { terminal = t; head = a.head; rows = a.rows; moment = a.moment }) e
    ∙ ap (λ (h : Head). record { terminal = b.terminal; head = h; rows = a.rows; moment = a.moment })
    (p.head ∙ ap (λ (t : Parts). head_of t.screen) e ∙ sym q.head)
    ∙ ap (λ (r : List Kept). record { terminal = b.terminal; head = b.head; rows = r; moment = a.moment })
    (p.unseen ∙ sym q.unseen)
    ∙ ap (λ (m : ℕ). record { terminal = b.terminal; head = b.head; rows = b.rows; moment = m })
    (p.first ∙ sym q.first)
