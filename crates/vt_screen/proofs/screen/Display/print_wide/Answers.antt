use Rattle.vt_screen.proofs.Vocabulary.{sym, ap, ◌∙◌, wrapped, screen_of}
use Rattle.vt_screen.proofs.WideLemmas.{widely_is}
use Rattle.vt_screen.proofs.screen.Display.print_wide.Goals as goal

pub returns-else-lacks_room-clause-screen : goal.returns-else-lacks_room-clause-screen
returns-else-lacks_room-clause-screen c =
    let x = screen_of c.args.self.now in
    widely_is c.args.character x (screen_of c.wrap.new.self) (screen_of c.place_wide.new.self)
    (c.wrap.ensures.screen ∙ ap (λ b. wrapped b x) c.needs_line-is_due.ensures)
    (sym c.lacks_room.ensures ∙ c.if-lacks_room.false)
    c.place_wide.ensures.screen
