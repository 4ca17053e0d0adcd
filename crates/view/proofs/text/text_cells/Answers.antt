use Rattle.std.proofs.lemmas.Iterator.{YieldsList-from_chars}
use Rattle.std.proofs.lemmas.Iterator.Consumers.{YieldsList-turn, YieldsList-end}
use Rattle.std.specs.Str.{chars}
use Rattle.view.proofs.Writing.{text_more, text_end}
use Rattle.view.proofs.text.text_cells.Goals as goal

pub loop-character-preserved : goal.loop-character-preserved
loop-character-preserved c =
    let t = YieldsList-turn (YieldsList-from_chars c.args.text.now c.utf8.text cc) c.loop-character.yielded _
    c.loop-character.yielded_by _ _ c.in-Some.character c.in-Some.is c.next.ensures.steps in
    text_more c.args.rendition (chars c.args.text.now) c.loop-character.yielded c.in-Some.character _
    c.loop-character.cells.items _ t c.loop-character.invariant c.in_ok-push_character.ensures

pub returns : goal.returns
returns c =
    let t = YieldsList-end (YieldsList-from_chars c.args.text.now c.utf8.text cc) c.loop-character.yielded _
    c.loop-character.yielded_by _ _ c.in-None.is c.next.ensures.steps in
    text_end c.args.rendition (chars c.args.text.now) _ _ _ t.1 c.loop-character.invariant
