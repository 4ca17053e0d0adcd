use Rattle.session.proofs.Vocabulary.{◌≡◌, ◌++◌, take, codes, decimal, flat_map, string_bytes, line, row_line}
use Rattle.session.proofs.printing.push_view.Given as goal

abbrev pub invariant-rows : goal.invariant-rows
invariant-rows l = string_bytes l.out ≡ string_bytes l.fn.out ++ line (codes "client " ++ decimal l.fn.client) ++
    flat_map row_line (take l.line l.view.page)
