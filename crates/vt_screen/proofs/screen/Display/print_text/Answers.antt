use Rattle.vt_screen.proofs.Vocabulary.{◌≡◌, ℕ, [], take, sym, subst, arith, Display, PrintsText}
use Rattle.vt_screen.proofs.Texts.{more_printed, none_printed}
use Rattle.vt_screen.proofs.screen.Display.print_text.Goals as goal
use Rattle.vt_screen.proofs.screen.Display.print_text.Goals.{After-print_first, else-takes_runs}
use Rattle.vt_screen.proofs.screen.Display.print_text.Goals.{then-takes_runs+then-not-self+else-read-gt0}

-- nothing may have been put before the first character is printed
printed : (c : After-print_first) → PrintsText c.args.self.now (take c.print_first.result c.args.bytes.now)
    c.print_first.new.self
printed c =
    let old : Display = c.args.self.now in
    let before : PrintsText old [] c.if-takes_runs.self =
    elim c.if-takes_runs.branch [
      | then-takes_runs+then-not-self+else-read-gt0 w ↦
          let none : w.place_text-read.result ≡ 0 = omega (arith, w.if-read-gt0.false) in
          subst (λ (d : Display). PrintsText old [] d) (sym w.self-is)
          (subst (λ (n : ℕ). PrintsText old (take n c.args.bytes.now) w.place_text-read.new.self) none
          w.place_text-read.ensures.prints)
      | else-takes_runs w ↦
          subst (λ (d : Display). PrintsText old [] d) (sym w.self-is) (none_printed old c.requires.fit)
    ] in
    more_printed old c.if-takes_runs.self c.print_first.new.self [] (take c.print_first.result c.args.bytes.now) before
    c.print_first.ensures.prints

pub returns-clause-screen : goal.returns-clause-screen
returns-clause-screen c = (printed c).screen

pub returns-clause-places : goal.returns-clause-places
returns-clause-places c = (printed c).places
