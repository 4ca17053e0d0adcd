use Rattle.std.proofs.Common.{sym, ◌∙◌}
use Rattle.windows_model.proofs.Serials.{at_place, lost}
use Rattle.windows_model.proofs.rows.Rows.get.Goals as goal

pub returns-in-Some : goal.returns-in-Some
returns-in-Some g c = sym
    (at_place g.R.Serial.serial_of c.args.self.now _ c.args.serial c.in-Some.place c.index.result.now c.self.view_is
    (sym c.place.ensures.place ∙ c.in-Some.is) c.in-Some.ensures.within c.index.ensures)

pub returns-in-None : goal.returns-in-None
returns-in-None g c = sym
    (lost g.R.Serial.serial_of c.args.self.now c.args.serial (sym c.place.ensures.place ∙ c.in-None.is))
