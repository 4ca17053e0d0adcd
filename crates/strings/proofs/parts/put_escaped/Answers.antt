use Rattle.std.proofs.Common.{sym}
use Rattle.strings.proofs.Steps.{octal-read, itself-read, unended-read}
use Rattle.strings.proofs.parts.put_escaped.Goals as goal

pub returns-in-Some : goal.returns-in-Some
returns-in-Some c = octal-read _ _ _ _ (sym c.in-Some.ensures) c.in_ok-push.ensures.bytes

pub returns-in-empty : goal.returns-in-empty
returns-in-empty c = unended-read _ _ c.in-empty.len_below

pub returns-in_ok-push-in-len1-up : goal.returns-in_ok-push-in-len1-up
returns-in_ok-push-in-len1-up c = itself-read _ _ _ _ (sym c.in_default.ensures) c.in-len1-up.len_at_least c.c-item.is
    c.in_ok-push-in-len1-up.ensures.bytes
