use Rattle.std.proofs.Common.{◌≡◌, ◌-◌}
use Rattle.trail_files.specs.Words.{behind_words}
use Rattle.trail_files.proofs.words.behind_words.Given as goal

abbrev pub invariant-words : goal.invariant-words
invariant-words l = behind_words (l.count - l.counter) l.rest ≡ behind_words l.count l.text
