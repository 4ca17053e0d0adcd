use Rattle.std.proofs.Common.{◌∙◌, ap, sym, refl, length}
use Rattle.windows_model.proofs.Lending.{over_all}
use Rattle.windows_model.proofs.rows.Rows.as_mut_slice.Goals as goal

pub returns : goal.returns
returns g c = (
  (
    refl,
    over_all c.args.self.now c.self.inside.items.items c.self.inside.items.len
        (sym c.as_mut_slice.ensures.len ∙ ap length c.as_mut_slice.ensures.value) c.self.view_is,
  ),
  record { writes_back = tt; value = c.as_mut_slice.ensures.value ∙ c.self.view_is },
)
