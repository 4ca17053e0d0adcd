use Rattle.std.proofs.Common.{◌∙◌, ◌-◌, refl, ap, if◌then◌else◌}
use Rattle.acl.specs.History.{is_open}
use Rattle.rights.proofs.moves.close.Goals as goal

pub returns : goal.returns
returns c = λ edition owner h s. (
  refl,
  λ is. record {
    acl = c.window_closed.ensures edition owner h s.acl;
    locks = c.closed.ensures edition owner h s.locks;
    clients = s.clients;
    differ = s.differ;
    count = c.left_open-rights.ensures
        ∙ (ap (λ b. if b then c.args.rights.now.windows - 1 else c.args.rights.now.windows)
        (c.is_open-is_open.ensures edition owner h s)
        ∙ ap (λ k. if is_open h c.args.window then k - 1 else k) s.count);
  },
)
