-- The beginning of a first frame brings every terminal of a size to one screen.
use Rattle.terminal_model.proofs.Vocabulary.{◌≡◌, ℕ, List, [], ◌∷◌, ◌++◌, Some, refl, ap, ◌∙◌, arith, Coding, units}
use Rattle.terminal_model.proofs.Vocabulary.{units-can, Esc, Csi, fields, Rest, nothing, escape, control, functions}
use Rattle.terminal_model.proofs.Vocabulary.{functions_behind, begun_by, opening, Screen, private_sequence, acted_from}
use Rattle.terminal_model.proofs.Vocabulary.{effect, report, Terminal, IsTerminal, ready, nothing_read, joined, act_all}
use Rattle.terminal_model.proofs.Vocabulary.{read_unit, read_units, read_byte, reads, frame_bytes, frame_start}
use Rattle.charsets.specs.declared.decoder.Unit.TheVariants as codes
use Rattle.control_parser.specs.Grammar as grammar
use Rattle.control_parser.proofs.Keeping.{functions-can}
use Rattle.terminal_model.proofs.Spellings.{done, silent, ending, escape-opens, percent-goes_on}

cancel-units : (c : Coding) (rest : List ℕ) → units c rest ≡ ([], rest)
    → units c (rest ++ 0x18 ∷ []) ≡ (codes.Code 0x18 ∷ [], [])
cancel-units c rest h = units-can c rest ∙ ap (λ v. (v.0 ++ codes.Code 0x18 ∷ [], [])) h

cancel-functions : (u : Rest) → functions (opening u) ≡ ([], u)
    → functions (opening u ++ codes.Code 0x18 ∷ []) ≡ ([], nothing)
cancel-functions u h = functions-can (opening u) ∙ ap (λ v. (v.0, nothing)) h

-- CAN ends an incomplete character, sequence or string
pub cancel-reads : (t : Terminal) (bs : List ℕ) → IsTerminal t → reads t (0x18 ∷ bs) ≡ reads (ready t.screen) bs
unfolding reads read_byte read_units read_unit act_all
cancel-reads t bs h = rw (cancel-units t.screen.state.coding t.rest h.begun, cancel-functions t.unended h.opened) refl

reset-ends : functions (opening (escape []) ++ codes.Code 0x63 ∷ []) ≡ (Esc [] 0x63 ∷ [], nothing)
unfolding functions_behind grammar.piece grammar.text grammar.controls begun_by
reset-ends = refl

utf8-ends : functions (opening (escape (0x25 ∷ [])) ++ codes.Code 0x47 ∷ []) ≡ (Esc (0x25 ∷ []) 0x47 ∷ [], nothing)
unfolding functions_behind grammar.piece grammar.text grammar.controls begun_by
utf8-ends = refl

bracket-opens : functions (opening (escape []) ++ codes.Code 0x5B ∷ []) ≡ ([], control [])
unfolding functions_behind grammar.piece grammar.text grammar.controls begun_by
bracket-opens = refl

mark-goes_on : functions (opening (control []) ++ codes.Code 0x3F ∷ []) ≡ ([], control (0x3F ∷ []))
unfolding functions_behind grammar.piece grammar.text grammar.controls begun_by
mark-goes_on = refl

seven-goes_on : functions (opening (control (0x3F ∷ [])) ++ codes.Code 0x37 ∷ []) ≡ ([], control (0x3F ∷ 0x37 ∷ []))
unfolding functions_behind grammar.piece grammar.text grammar.controls begun_by
seven-goes_on = refl

wrap-ends : functions (opening (control (0x3F ∷ 0x37 ∷ [])) ++ codes.Code 0x6C ∷ []) ≡
    (Csi (Some 0x3F) (7 ∷ []) [] 0x6C ∷ [], nothing)
unfolding functions_behind grammar.piece grammar.text grammar.controls begun_by fields
wrap-ends = refl

abbrev pub reset-screen : Screen → Screen
reset-screen x = effect x (Esc [] 0x63)

abbrev pub coded-screen : Screen → Screen
coded-screen x = effect (reset-screen x) (Esc (0x25 ∷ []) 0x47)

abbrev pub wrapless-screen : Screen → Screen
wrapless-screen x = effect (coded-screen x) (Csi (Some 0x3F) (7 ∷ []) [] 0x6C)

frame-screen : (x : Screen) → wrapless-screen x ≡ frame_start x
unfolding acted_from private_sequence
frame-screen x = refl

frame-quiet : (x : Screen)
    → report x (Esc [] 0x63) ++
    (report (reset-screen x) (Esc (0x25 ∷ []) 0x47) ++ report (coded-screen x) (Csi (Some 0x3F) (7 ∷ []) [] 0x6C)) ≡ []
unfolding private_sequence
frame-quiet x = refl

-- the functions after CAN
frame-reads : (x : Screen) → reads (ready x) (0x1B ∷ 0x63 ∷ 0x1B ∷ 0x25 ∷ 0x47 ∷ 0x1B ∷ 0x5B ∷ 0x3F ∷ 0x37 ∷ 0x6C ∷ [])
    ≡ joined (done x (Esc [] 0x63))
    (joined (done (reset-screen x) (Esc (0x25 ∷ []) 0x47))
    (joined (done (coded-screen x) (Csi (Some 0x3F) (7 ∷ []) [] 0x6C)) (nothing_read (ready (wrapless-screen x)))))
unfolding reads
frame-reads x =
    silent x nothing (escape []) 0x1B (0x63 ∷ 0x1B ∷ 0x25 ∷ 0x47 ∷ 0x1B ∷ 0x5B ∷ 0x3F ∷ 0x37 ∷ 0x6C ∷ []) (omega arith)
    escape-opens
    ∙ ending x (escape []) (Esc [] 0x63) 0x63 (0x1B ∷ 0x25 ∷ 0x47 ∷ 0x1B ∷ 0x5B ∷ 0x3F ∷ 0x37 ∷ 0x6C ∷ []) (omega arith)
    reset-ends
    ∙ ap (joined (done x (Esc [] 0x63)))
    (silent (reset-screen x) nothing (escape []) 0x1B (0x25 ∷ 0x47 ∷ 0x1B ∷ 0x5B ∷ 0x3F ∷ 0x37 ∷ 0x6C ∷ [])
    (omega arith) escape-opens
    ∙ silent (reset-screen x) (escape []) (escape (0x25 ∷ [])) 0x25 (0x47 ∷ 0x1B ∷ 0x5B ∷ 0x3F ∷ 0x37 ∷ 0x6C ∷ [])
    (omega arith) percent-goes_on
    ∙ ending (reset-screen x) (escape (0x25 ∷ [])) (Esc (0x25 ∷ []) 0x47) 0x47 (0x1B ∷ 0x5B ∷ 0x3F ∷ 0x37 ∷ 0x6C ∷ [])
    (omega arith) utf8-ends
    ∙ ap (joined (done (reset-screen x) (Esc (0x25 ∷ []) 0x47)))
    (silent (coded-screen x) nothing (escape []) 0x1B (0x5B ∷ 0x3F ∷ 0x37 ∷ 0x6C ∷ []) (omega arith) escape-opens
    ∙ silent (coded-screen x) (escape []) (control []) 0x5B (0x3F ∷ 0x37 ∷ 0x6C ∷ []) (omega arith) bracket-opens
    ∙ silent (coded-screen x) (control []) (control (0x3F ∷ [])) 0x3F (0x37 ∷ 0x6C ∷ []) (omega arith) mark-goes_on
    ∙ silent (coded-screen x) (control (0x3F ∷ [])) (control (0x3F ∷ 0x37 ∷ [])) 0x37 (0x6C ∷ []) (omega arith)
    seven-goes_on
    ∙ ending (coded-screen x) (control (0x3F ∷ 0x37 ∷ [])) (Csi (Some 0x3F) (7 ∷ []) [] 0x6C) 0x6C [] (omega arith)
    wrap-ends))

pub frame-terminal : (t : Terminal) → IsTerminal t → (reads t frame_bytes).terminal ≡ ready (frame_start t.screen)
frame-terminal t h = ap (λ v. v.terminal) (cancel-reads t _ h ∙ frame-reads t.screen) ∙ ap ready (frame-screen t.screen)

pub frame-reports : (t : Terminal) → IsTerminal t → (reads t frame_bytes).reports ≡ []
frame-reports t h = search (cancel-reads, frame-reads, frame-quiet)
