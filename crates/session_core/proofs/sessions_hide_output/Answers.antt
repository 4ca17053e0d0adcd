use Rattle.session_core.proofs.Vocabulary.{◌≡◌, List, ap, sym, ◌∙◌, subst, UserId, Entry, Trace, Tables, fresh}
use Rattle.session_core.proofs.Vocabulary.{IsRunFrom}
use Rattle.session_laws.specs.Hidden.{unhidden}
use Rattle.session_laws.specs.Observed.{observations}
use Rattle.session_laws.specs.Unseen.{HiddenOutputIsUnseen}
use Rattle.session_core.specs.Unseen.{beginning}
use Rattle.session_core.proofs.sessions_hide_output.Goals as goal

begin_same : (h g : Trace) → h.edition ≡ g.edition → h.owner ≡ g.owner → beginning h ≡ beginning g
begin_same h g same owner = ap (λ e. fresh e h.owner) same ∙ ap (fresh g.edition) owner

of_one : HiddenOutputIsUnseen → (user : UserId) (start begun : Tables) (run other : List Entry) → start ≡ begun
    → IsRunFrom start run → IsRunFrom begun other
    → unhidden user start run ≡ unhidden user begun other → observations user start run ≡ observations user begun other
of_one law user start begun run other same ran also is =
    law user start run other ran (subst (λ t. IsRunFrom t other) (sym same) also)
    (is ∙ ap (λ t. unhidden user t other) (sym same)) ∙ ap (λ t. observations user t other) same

pub returns : goal.returns
returns c user one other h g stands also edition owner same =
    of_one c.hidden_output_is_unseen.ensures user (beginning h) (beginning g) h.entries g.entries
    (begin_same h g edition owner) stands.run also.run same
