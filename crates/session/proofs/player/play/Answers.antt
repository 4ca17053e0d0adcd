use Rattle.session.proofs.Parts.{plays_quietly, plays_shown}
use Rattle.session.proofs.player.play.Goals as goal

pub returns-then-not-shows-clause-whole : goal.returns-then-not-shows-clause-whole
returns-then-not-shows-clause-whole g c = λ script known h st.
    plays_quietly h c.args.shows script c.play_lines.new.session (g.W.Write.contents c.args.writer.now)
    (g.W.Write.contents c.play_lines.new.writer) c.if-not-shows.true
    (c.in_ok-play_lines.ensures.whole script known h st)

pub returns-clause-whole : goal.returns-clause-whole
returns-clause-whole g c = λ script known h st.
    plays_shown h c.args.shows script c.play_lines.new.session (g.W.Write.contents c.args.writer.now)
    (g.W.Write.contents c.play_lines.new.writer) (g.W.Write.contents c.show.new.writer) c.if-not-shows.false
    (c.in_ok-play_lines.ensures.whole script known h st) c.in_ok-show.ensures.shown
