use Rattle.hub_check.proofs.Vocabulary.{◌∙◌, ap, sym, detaches, is_client_of}
use Rattle.hub_check.proofs.fits.detaches.Goals as goal

pub returns-in-Left : goal.returns-in-Left
returns-in-Left c = λ edition owner h s.
    c.is_client_of.ensures edition owner h s
    ∙ ap (detaches (is_client_of h c.args.client) c.args.client) (sym c.in-Left.is)
