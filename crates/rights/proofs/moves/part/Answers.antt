use Rattle.rights.proofs.Vocabulary.{refl, StandsFor-aside}
use Rattle.acl.specs.declared.act.Act.TheVariants.{Parted}
use Rattle.rights.proofs.moves.part.Goals as goal

pub returns : goal.returns
returns c = λ edition owner h s.
    let parted = c.part_client.ensures edition owner h s.locks (s.clients, s.differ) in (
      refl,
      λ is. record {
        acl = StandsFor-aside c.args.rights.now.acl edition owner h (Parted c.args.client) tt s.acl;
        locks = parted.0;
        clients = parted.1.0;
        differ = parted.1.1;
        count = s.count;
      },
    )
