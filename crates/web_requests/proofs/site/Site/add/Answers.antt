use Rattle.std.proofs.Common.{refl, ap, ◌∙◌}
use Rattle.web_requests.specs.Serving.{kind_of}
use Rattle.web_requests.proofs.site.Site.add.Goals as goal

pub returns-clause-ok : goal.returns-clause-ok
returns-clause-ok c = (
  record { path = c.args.path; kind = c.kind_of-kind.result; content = c.args.content },
  refl,
  c.kind_of-kind.ensures ∙ ap kind_of c.as_bytes.ensures.value,
  refl,
  c.in_ok-push.ensures.items,
)
