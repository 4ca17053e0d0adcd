use Rattle.std.proofs.lemmas.Iterator.{YieldsList-from_chars}
use Rattle.std.proofs.lemmas.Iterator.Consumers.{YieldsList-turn, YieldsList-end}
use Rattle.std.specs.Str.{chars}
use Rattle.std.specs.String.{string_bytes}
use Rattle.web_options.proofs.Keys.{more, end}
use Rattle.web_options.proofs.options.put_all_quoted.Goals as goal

pub loop-it-preserved : goal.loop-it-preserved
loop-it-preserved c =
    let t = YieldsList-turn (YieldsList-from_chars c.args.text.now c.utf8.text cc) c.loop-it.yielded _
    c.loop-it.yielded_by _ _ c.in-Some.it c.in-Some.is c.next.ensures.steps in
    more (chars c.args.text.now) c.loop-it.yielded c.in-Some.it _ (string_bytes c.loop-it.keys) _ t
    c.loop-it.invariant c.in_ok-put_quoted.ensures

pub returns : goal.returns
returns c =
    let t = YieldsList-end (YieldsList-from_chars c.args.text.now c.utf8.text cc) c.loop-it.yielded _
    c.loop-it.yielded_by _ _ c.in-None.is c.next.ensures.steps in
    end (chars c.args.text.now) _ _ _ t.1 c.loop-it.invariant
