use Rattle.rights.proofs.Vocabulary.{ℕ, not, ◌==◌, UserId}
use Rattle.std.proofs.Common.{rules}
use Rattle.std.proofs.lemmas.Fn.{filter_same}
use Rattle.rights.proofs.clients.drop_client.Goals as goal

pub returns : goal.returns
returns c =
    filter_same _ (λ (row : ℕ × UserId). not (row.0 == c.args.client)) _ (λ x b f called. search rules)
    c.args.clients.now.items c.retain.new.self.items c.retain.ensures.filtered
