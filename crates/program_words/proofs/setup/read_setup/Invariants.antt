use Rattle.std.proofs.Common.{◌≡◌, map, drop}
use Rattle.program_words.specs.SetupLines.{line_of}
use Rattle.program_words.proofs.SetupReading.{HaveRead}
use Rattle.program_words.proofs.setup.read_setup.Given as goal

abbrev pub invariant-loop-part : goal.invariant-loop-part
invariant-loop-part l = (l.number ≡ l.part-index)
    × HaveRead l.file (map line_of l.lines.items) l.part-index (map (λ x. x.now) (drop l.part-index l.part-items))
