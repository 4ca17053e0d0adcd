use Rattle.vt_screen.proofs.Vocabulary.{◌≡◌, ◌==◌, [], ◌∷◌, true, take, refl, sym, ap, ◌∙◌, eq-eqb, line_at}
use Rattle.vt_screen.proofs.Vocabulary.{CarriageReturn, LineFeed, State, with_state, acted, acted_from, Display}
use Rattle.vt_screen.proofs.Vocabulary.{screen_of, indexed_places, ScrollsPlain, prints}
use Rattle.vt_screen.proofs.Acted.{all_acted_fit}
use Rattle.vt_screen.proofs.KeptLines.{reverse-with_line}
use Rattle.vt_screen.proofs.LineRuns.{scrolled_places, scrolled_run}
use Rattle.vt_screen.proofs.screen.Display.print_line.Goals as goal

pub returns-then-count-gt0-clause-screen : goal.returns-then-count-gt0-clause-screen
returns-then-count-gt0-clause-screen c =
    let d : Display = c.args.self.now in
    rw (
      c.advance.ensures,
      c.scroll_in_run.ensures.lines,
      c.scroll_in_run.ensures.kept,
      reverse-with_line d.ring.keep d.ring.lines (line_at d.page.lines 0),
    )
    (sym
    (scrolled_run (screen_of d) c.args.bytes.now c.plain_front-count.result c.plain_front-count.ensures.plain
    c.plain_front-count.ensures.few c.plain_front-count.ensures.room (c.takes_runs.ensures.0 c.if-takes_runs.true)
    c.requires.sound c.if-count-gt0.true (c.scrolls_plain.ensures c.if-scrolls_plain.true)))

pub returns-then-count-gt0-clause-fit : goal.returns-then-count-gt0-clause-fit
returns-then-count-gt0-clause-fit c = all_acted_fit c.args.self.now _
    (CarriageReturn ∷ LineFeed ∷ prints (take c.plain_front-count.result c.args.bytes.now)) c.requires
    (returns-then-count-gt0-clause-screen c) (rw c.scroll_in_run.ensures.kept refl)

pub returns-then-count-gt0-clause-places : goal.returns-then-count-gt0-clause-places
returns-then-count-gt0-clause-places c =
    let d : Display = c.args.self.now in
    let scrolls : ScrollsPlain d.state = c.scrolls_plain.ensures c.if-scrolls_plain.true in
    let is_last : (d.state.line == d.state.bottom) ≡ true = eq-eqb d.state.line d.state.bottom scrolls.last in
    let moved : c.scroll_in_run.new.self.places ≡ indexed_places d.state d.page.places = rw (is_last, scrolls.first)
    c.scroll_in_run.ensures.places in
    moved
    ∙ sym
    (scrolled_places (screen_of d) c.args.bytes.now c.plain_front-count.result c.plain_front-count.ensures.plain
    c.plain_front-count.ensures.few c.plain_front-count.ensures.room (c.takes_runs.ensures.0 c.if-takes_runs.true)
    c.requires.sound c.if-count-gt0.true scrolls d.page.places)

pub returns-clause-fit : goal.returns-clause-fit
unfolding acted_from
returns-clause-fit c =
    all_acted_fit c.args.self.now c.feed_line.new.self (CarriageReturn ∷ LineFeed ∷ []) c.requires
    (c.feed_line.ensures.screen
    ∙ ap (λ (s : State). acted (with_state (screen_of c.args.self.now) s) LineFeed) c.go_to_first_column.ensures)
    c.feed_line.ensures.lines.width
