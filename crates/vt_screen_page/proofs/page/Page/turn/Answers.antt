use Rattle.std.proofs.Common.{◌∙◌}
use Rattle.vt_screen_page.proofs.Turning.{turned_places, turned_makes}
use Rattle.vt_screen_page.proofs.page.Page.turn.Goals as goal

pub invariant_of-self : goal.invariant_of-self
invariant_of-self c = (turned_makes c.args.top c.args.bottom c.args.count c.requires.order c.requires.room
    c.self.view_is c.self.invariant c.requires.inside (c.turn.auto.places ∙ c.as_mut_slice.ensures.len)
    c.as_mut_slice.ensures.value c.turn.ensures).store

pub returns-clause-lines : goal.returns-clause-lines
returns-clause-lines c = (turned_makes c.args.top c.args.bottom c.args.count c.requires.order c.requires.room
    c.self.view_is c.self.invariant c.requires.inside (c.turn.auto.places ∙ c.as_mut_slice.ensures.len)
    c.as_mut_slice.ensures.value c.turn.ensures).lines

pub returns-clause-places : goal.returns-clause-places
returns-clause-places c = turned_places c.args.top c.args.bottom c.args.count c.requires.order c.requires.room
    c.self.view_is c.self.invariant c.requires.inside (c.turn.auto.places ∙ c.as_mut_slice.ensures.len)
    c.as_mut_slice.ensures.value c.turn.ensures
