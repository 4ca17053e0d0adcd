use Rattle.session_core.proofs.Vocabulary.{List, ℕ, sym, subst, Tables, begun, tables_of, AreDrawn}
use Rattle.session_core.proofs.Left.{none_shared}
use Rattle.session_core.proofs.session.Session.of.Goals as goal

pub returns-clause-ok : goal.returns-clause-ok
returns-clause-ok c =
    let t : Tables = tables_of (begun c.args.edition c.args.owner) in record {
      run = tt;
      stands = c.in_ok-state.ensures;
      drawn = subst (λ (ns : List ℕ). AreDrawn t ns) (sym c.in_ok-drawn.ensures.items) tt;
      shared = none_shared t c.in_ok-sharing.sharing c.in_ok-sharing.ensures.lead c.in_ok-sharing.ensures.alike;
    }
