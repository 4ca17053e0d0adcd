use Rattle.rights.proofs.Vocabulary.{refl, sym, subst, Differ}
use Rattle.rights.proofs.rights.Rights.new.Goals as goal

pub returns : goal.returns
returns c = record {
  acl = c.in_ok-new.ensures;
  locks = c.new-2.ensures c.args.edition c.args.owner;
  clients = c.new-3.ensures.items;
  differ = subst Differ (sym c.new-3.ensures.items) tt;
  count = refl;
}
