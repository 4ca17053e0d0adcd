use Rattle.std.proofs.Common.{OnOk, subst, refl}
use Rattle.web_page.specs.Hearing.{WebDisplay, IsResized}
use Rattle.web_page.proofs.display.WebDisplay.resize.Goals as goal
use Rattle.web_page.proofs.display.WebDisplay.resize.Goals.{in-Ok, in-Err}

pub returns-clause-ok : goal.returns-clause-ok
returns-clause-ok c =
    subst (λ (d : WebDisplay). OnOk c.match-resize.result (IsResized c.args.rows c.args.columns d (record {
      name = c.self.inside.name;
      reading = c.self.inside.reader;
      sheet = c.resize.new.self;
      told = c.self.inside.told;
    }))) c.self.view_is
    (elim c.match-resize.branch [
      | in-Ok w ↦ rw w.result-is (record {
        sheet = w.in-Ok.ensures.ok;
        sent = (c.resize.ensures.moment, c.resize.ensures.browsers);
        name = refl;
        reading = refl;
        told = refl;
      })
      | in-Err w ↦ rw w.result-is tt
    ])
