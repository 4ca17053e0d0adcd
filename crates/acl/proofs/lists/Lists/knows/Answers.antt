use Rattle.acl.proofs.Vocabulary.{◌∙◌, same_user}
use Rattle.acl.proofs.RowLemmas.{is_some-lookup}
use Rattle.acl.proofs.lists.Lists.knows.Goals as goal

pub returns-clause-listed : goal.returns-clause-listed
returns-clause-listed c = c.contains_key.ensures ∙ is_some-lookup (same_user c.args.user) c.args.self.now.rows.entries
