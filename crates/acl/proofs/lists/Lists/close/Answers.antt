use Rattle.acl.proofs.Vocabulary.{subst, sym, ◌∷◌, Closed, StandsFor, Table, is_open, open_count, table_of}
use Rattle.acl_words.proofs.SlotLemmas.{slot_of-closed, slots-closed}
use Rattle.acl.proofs.StandsForWindows.{StandsFor-Closed}
use Rattle.acl.proofs.lists.Lists.close.Goals as goal

pub returns : goal.returns
returns c =
    let t = table_of c.args.self.now in
    let w = c.args.window in
    λ edition owner h s.
    subst (λ ws. StandsFor (let u : Table = record t { windows = ws } in u) edition owner (Closed w ∷ h))
    (sym c.close.ensures)
    (StandsFor-Closed t edition owner h s _ w (slot_of-closed t.windows w)
    (slots-closed t.windows (is_open h) (open_count h) s.slots w))
