use Rattle.trail_rights.proofs.Vocabulary.{◌∙◌, [], ap, clients_after, marked_on, tells, told}
use Rattle.trail_rights.proofs.Kept.{kept_more}
use Rattle.trail_rights.proofs.acts.MarkedActs.add.Goals as goal

pub returns-clause-keeps : goal.returns-clause-keeps
returns-clause-keeps c = λ marked k. record {
  clients = c.in_ok-follow_clients.ensures ∙ ap (clients_after c.args.act.now) k.clients;
  acts =
      ap (marked_on []) c.in_ok-push_told.ensures
      ∙ kept_more (tells c.args.self.now.asked c.args.act.now) c.args.self.now.marked.items
      (told c.args.self.now.asked marked) (c.args.mark, c.args.act.now) k.acts;
}
