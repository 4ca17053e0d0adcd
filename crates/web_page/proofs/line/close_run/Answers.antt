use Rattle.std.proofs.Common.{sym}
use Rattle.std.proofs.lemmas.List.{append-nil}
use Rattle.std.specs.String.{string_bytes}
use Rattle.web_page.specs.Runs.{rest_of}
use Rattle.web_page.proofs.line.close_run.Goals as goal

pub returns-in_ok-push_str-in-Some : goal.returns-in_ok-push_str-in-Some
unfolding rest_of
returns-in_ok-push_str-in-Some c = rw c.in-Some.is c.in_ok-push_str-in-Some.ensures.bytes

pub returns-in-None : goal.returns-in-None
unfolding rest_of
returns-in-None c = rw c.in-None.is (sym (append-nil (string_bytes c.args.out.now)))
