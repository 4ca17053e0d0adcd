use Rattle.std.proofs.Common.{◌≡◌, ◌++◌, length, option_copied, true}
use Rattle.line_fields.specs.Cutting.{words, words_behind}
use Rattle.line_fields.specs.Parts.{blank}
use Rattle.trail_files.specs.Json.{marked_text}
use Rattle.trail_files.proofs.json.push_marked.Given as goal

abbrev pub invariant-notes : goal.invariant-notes
invariant-notes l =
    l.out.items ++ marked_text l.is_first l.mark (words_behind blank (option_copied l.rest))
    ≡ l.fn.out.items ++ marked_text true l.mark (words blank l.text)

abbrev pub decreases-notes : goal.decreases-notes
decreases-notes l = length (words_behind blank (option_copied l.rest))
