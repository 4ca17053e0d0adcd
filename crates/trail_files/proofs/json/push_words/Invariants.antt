use Rattle.std.proofs.Common.{◌≡◌, ◌++◌, ◌-◌, true}
use Rattle.std.specs.Prelude.{◌==◌}
use Rattle.trail_files.specs.Json.{items_text}
use Rattle.trail_files.specs.Words.{words_in}
use Rattle.trail_files.proofs.json.push_words.Given as goal

abbrev pub invariant-words : goal.invariant-words
invariant-words l =
    l.out.items ++ items_text (l.place == 0) (words_in (l.count - l.place) l.rest)
    ≡ l.fn.out.items ++ items_text true (words_in l.count l.text)
