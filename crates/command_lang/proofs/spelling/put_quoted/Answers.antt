use Rattle.command_lang.proofs.Vocabulary.{YieldsList-from_chars, YieldsList-turn, YieldsList-end, chars}
use Rattle.command_lang.proofs.Appends.{quoted-more, quoted-end}
use Rattle.command_lang.proofs.spelling.put_quoted.Goals as goal

pub loop-c-preserved : goal.loop-c-preserved
loop-c-preserved c =
    let t = YieldsList-turn (YieldsList-from_chars c.args.text.now c.utf8.text cc) c.loop-c.yielded _
    c.loop-c.yielded_by _ _ c.in-Some.c c.in-Some.is c.next.ensures.steps in
    quoted-more _ _ _ (chars c.args.text.now) c.loop-c.yielded c.in-Some.c t c.loop-c.invariant
    c.in_ok-put_escaped.ensures

pub returns : goal.returns
returns c =
    let t = YieldsList-end (YieldsList-from_chars c.args.text.now c.utf8.text cc) c.loop-c.yielded _ c.loop-c.yielded_by
    _ _ c.in-None.is c.next.ensures.steps in
    quoted-end _ _ (chars c.args.text.now) _ t.1 c.loop-c.invariant
