use Rattle.server_loop.proofs.Vocabulary.{◌≡◌, true, false, refl, rules}
use Rattle.server_loop.proofs.Telling.{if_false, if_true}
use Rattle.server_loop.proofs.own.Loop.write_to.Goals as goal

pub returns-then-not-write : goal.returns-then-not-write
returns-then-not-write g c =
    let no : c.write.result ≡ false = search rules in
    record {
      closed = c.write.result;
      mid = c.write.new.connections;
      written = c.write.ensures;
      told = if_false _ _ _ no refl;
    }

pub returns : goal.returns
returns g c =
    let yes : c.write.result ≡ true = search rules in
    record {
      closed = c.write.result;
      mid = c.write.new.connections;
      written = c.write.ensures;
      told = if_true _ _ _ yes (c.tell_leaving.result, c.tell_leaving.ensures);
    }
