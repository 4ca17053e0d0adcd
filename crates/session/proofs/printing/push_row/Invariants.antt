use Rattle.session.proofs.Vocabulary.{◌≡◌, ◌++◌, take, codes, flat_map, string_bytes, cell_text}
use Rattle.session.proofs.printing.push_row.Given as goal

abbrev pub invariant-loop-cell : goal.invariant-loop-cell
invariant-loop-cell l = string_bytes l.out ≡ string_bytes l.fn.out ++ codes "|" ++ flat_map cell_text
    (take l.cell-index l.row)
