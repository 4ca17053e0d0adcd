use Rattle.trail_setup.proofs.Vocabulary.{◌≡◌, refl, HoldWords, kind_of}
use Rattle.trail_setup.proofs.Filling.{pushed}
use Rattle.trail_setup.proofs.lines.Lines.put.Goals as goal
use Rattle.trail_setup.proofs.lines.Lines.put.Goals.{then-saturating_add-ge-LONGEST+in_ok-end}
use Rattle.trail_setup.proofs.lines.Lines.put.Goals.{else-saturating_add-ge-LONGEST}

pub returns-clause-holds : goal.returns-clause-holds
returns-clause-holds c = λ start words h.
    let k = kind_of c.args.self.now.form in
    let s = c.if-saturating_add-ge-LONGEST in
    let form : s.self.form ≡ c.args.self.now.form =
    elim s.branch [
      | then-saturating_add-ge-LONGEST+in_ok-end w ↦ rw w.self-is w.end.ensures.form
      | else-saturating_add-ge-LONGEST w ↦ rw w.self-is refl
    ] in
    let held : HoldWords k start words s.out.items s.self.line.items =
    elim s.branch [
      | then-saturating_add-ge-LONGEST+in_ok-end w ↦
          rw (w.self-is, w.out-is) (rw w.in_ok-end.ensures.empty (w.in_ok-end.ensures.puts start words h))
      | else-saturating_add-ge-LONGEST w ↦ rw (w.self-is, w.out-is) h
    ] in
    pushed c.push.result k start words c.args.word.now s.out.items s.self.line.items c.push.new.self.line.items held
    (rw form at c.push.ensures.begins)
