use Rattle.view.proofs.Writing.{wide_pushed, narrow_pushed}
use Rattle.view.proofs.text.push_character.Goals as goal

pub returns-in_ok-push-2 : goal.returns-in_ok-push-2
returns-in_ok-push-2 c =
    wide_pushed c.args.rendition c.args.character c.glyph_width.result c.args.cells.now.items c.push.new.self.items _
    c.left.result c.right.result c.glyph_width.ensures.width c.if-glyph_width-eq2.true c.left.ensures
    c.right.ensures
    c.in_ok-push.ensures.items c.in_ok-push-2.ensures.items

pub returns-in_ok-push-3 : goal.returns-in_ok-push-3
returns-in_ok-push-3 c =
    narrow_pushed c.args.rendition c.args.character c.glyph_width.result c.visible.result c.args.cells.now.items _
    c.narrow.result c.glyph_width.ensures.width c.if-glyph_width-eq2.false c.visible.ensures c.narrow.ensures
    c.in_ok-push-3.ensures.items
