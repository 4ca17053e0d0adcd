use Rattle.std.proofs.Common.{◌∙◌, ap, sym, refl, List, IsSome, rules}
use Rattle.windows_model.specs.Finding.{row_of, with_row}
use Rattle.windows_model.proofs.Serials.{placed, lost}
use Rattle.windows_model.proofs.Lending.{at_some, lent_row}
use Rattle.windows_model.proofs.rows.Rows.get_mut.Goals as goal

pub returns-in-Some : goal.returns-in-Some
returns-in-Some g c =
    let f = g.R.Serial.serial_of in
    let items = c.self.inside.items.items in
    let at = sym c.place.ensures.place ∙ c.in-Some.is in
    let some : IsSome c.get_mut.result = search rules in (
      (
        refl,
        λ w. at_some c.get_mut.result
            (placed f items c.args.serial c.in-Some.place w at
            ∙ ap (λ (xs : List g.row.R.Denot). with_row f xs c.args.serial w) c.self.view_is),
        c.self.view_is,
      ),
      record {
        writes_back = tt;
        value = lent_row f items items c.args.serial c.in-Some.place c.get_mut.result refl at c.in-Some.ensures.within
            some c.get_mut.ensures.value ∙ ap (λ (xs : List g.row.R.Denot). row_of f xs c.args.serial) c.self.view_is;
      },
    )

pub returns-in-None : goal.returns-in-None
returns-in-None g c =
    let f = g.R.Serial.serial_of in (
      (refl, λ w. tt, c.self.view_is),
      record {
        writes_back = tt;
        value = sym (lost f c.self.inside.items.items c.args.serial (sym c.place.ensures.place ∙ c.in-None.is))
            ∙ ap (λ (xs : List g.row.R.Denot). row_of f xs c.args.serial) c.self.view_is;
      },
    )
