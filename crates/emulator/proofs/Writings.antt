-- A terminal doesn't answer the commands clear, reset and encoding.
use Rattle.emulator.proofs.Vocabulary.{◌≡◌, ℕ, ◌<◌, List, [], ◌∷◌, ◌++◌, get_or, map, None, refl, sym, ap, ◌∙◌}
use Rattle.emulator.proofs.Vocabulary.{append_assoc, append-nil, arith, Coding, Utf8, Ecma35, Func, Esc, Csi, nothing}
use Rattle.emulator.proofs.Vocabulary.{functions, opening, functions-go_on, functions-opening, Screen, Terminal, Read}
use Rattle.emulator.proofs.Vocabulary.{joined, in_coding, read_units, read_byte, reads, Clear, Reset, Encoding}
use Rattle.emulator.proofs.Vocabulary.{clear_bytes, reset_bytes, coding_bytes, writes}
use Rattle.std.specs.List.{AllByRecursion}
use Rattle.charsets.specs.declared.decoder.Unit.TheVariants.{Code}
use Rattle.control_parser.specs.Text.{fields}
use Rattle.control_parser.specs.Grammar.{Rest, functions_behind, begun_by, with_front}
use Rattle.control_parser.specs.Grammar as grammar
use Rattle.terminal_model.specs.Functions.{plain_sequence}
use Rattle.terminal_model.proofs.Readings.{effects, reports_of, outcome, outcome-append, read_units-is}
use Rattle.terminal_model.proofs.Spellings.{at, ascii-units, nothing-opened}

-- bytes below 80 are read as the same functions in each coding
low-reads : (bytes : List ℕ) (x : Screen) (u : Rest) → AllByRecursion (λ b. b < 0x80) bytes
    → functions (opening u) ≡ ([], u)
    → reads (at x u) bytes ≡ outcome x (functions (opening u ++ map (λ b. Code b) bytes)).0 []
    (functions (opening u ++ map (λ b. Code b) bytes)).1
unfolding reads read_byte
low-reads [] x u low h = rw (append-nil (opening u), h) refl
low-reads (b ∷ bytes) x u low h =
    let later = map (λ c. Code c) bytes in
    let first = functions (opening u ++ Code b ∷ []) in
    let second = functions (opening first.1 ++ later) in
    let fs : functions (opening u ++ Code b ∷ later) ≡ with_front first.0 second =
    ap functions (sym (append_assoc (opening u) (Code b ∷ []) later)) ∙ functions-go_on (opening u ++ Code b ∷ []) later
    in
    let c : Coding = x.state.coding in
    let byte : read_byte (at x u) b ≡ outcome x first.0 [] first.1 =
    ap (λ v. in_coding c (read_units (record { screen = x; rest = v.1; unended = u }) v.0)) (ascii-units c b low.0)
    ∙ ap (in_coding c) (read_units-is x [] u (Code b ∷ []) h) in
    ap (λ (v : Read). joined v (reads v.terminal bytes)) byte
    ∙ ap (joined (outcome x first.0 [] first.1))
    (low-reads bytes (effects x first.0) first.1 low.1 (functions-opening (opening u ++ Code b ∷ [])))
    ∙ sym (outcome-append x first.0 second.0 [] [] first.1 second.1)
    ∙ ap (λ v. outcome x v.0 [] v.1) (sym fs)

low-reports : (x : Screen) (bytes : List ℕ) (fs : List Func) → AllByRecursion (λ b. b < 0x80) bytes
    → functions (map (λ b. Code b) bytes) ≡ (fs, nothing) → reports_of x fs ≡ []
    → (reads (at x nothing) bytes).reports ≡ []
low-reports x bytes fs low is quiet =
    ap (λ (r : Read). r.reports) (low-reads bytes x nothing low nothing-opened)
    ∙ ap (λ v. reports_of x v.0) is ∙ quiet

reset-functions : functions (map (λ b. Code b) reset_bytes) ≡ (Esc [] 0x63 ∷ [], nothing)
unfolding functions_behind grammar.piece grammar.text grammar.controls begun_by
reset-functions = refl

pub reset-quiet : (t : Terminal) → (writes t Reset).reports ≡ []
reset-quiet t = low-reports t.screen reset_bytes _ (omega arith, (omega arith, tt)) reset-functions refl

coding-functions : (c : Coding)
    → functions (map (λ b. Code b) (coding_bytes c)) ≡ (Esc (0x25 ∷ []) (get_or (coding_bytes c) 2 0) ∷ [], nothing)
unfolding functions_behind grammar.piece grammar.text grammar.controls begun_by
coding-functions Utf8 = refl
coding-functions Ecma35 = refl

pub coding-quiet : (t : Terminal) (c : Coding) → (writes t (Encoding c)).reports ≡ []
coding-quiet t Utf8 = low-reports t.screen (coding_bytes Utf8) _ (omega arith, (omega arith, (omega arith, tt)))
    (coding-functions Utf8) refl
coding-quiet t Ecma35 = low-reports t.screen (coding_bytes Ecma35) _ (omega arith, (omega arith, (omega arith, tt)))
    (coding-functions Ecma35) refl

clear-functions : functions (map (λ b. Code b) clear_bytes)
    ≡ (Csi None (2 ∷ []) [] 0x4A ∷ Csi None (0 ∷ []) [] 0x48 ∷ [], nothing)
unfolding functions_behind grammar.piece grammar.text grammar.controls begun_by fields
clear-functions = refl

pub clear-quiet : (t : Terminal) → (writes t Clear).reports ≡ []
unfolding plain_sequence
clear-quiet t = low-reports t.screen clear_bytes _
    (omega arith, (omega arith, (omega arith, (omega arith, (omega arith, (omega arith, (omega arith, tt)))))))
    clear-functions refl
