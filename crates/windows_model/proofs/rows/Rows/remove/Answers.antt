use Rattle.std.proofs.Common.{◌∙◌, ap, not, rules, filter, List}
use Rattle.std.specs.Prelude.{◌==◌}
use Rattle.std.proofs.lemmas.Fn.{filter_same}
use Rattle.windows_model.proofs.rows.Rows.remove.Goals as goal

pub returns : goal.returns
returns g c =
    let test = λ (row : g.row.R.Denot). not (g.R.Serial.serial_of row == c.args.serial) in
    filter_same _ test _ (λ x b f called. search rules) c.self.inside.items.items c.retain.new.self.items
    c.retain.ensures.filtered
    ∙ ap (λ (xs : List g.row.R.Denot). filter test xs) c.self.view_is
