use Rattle.std.proofs.Common.{arith, ◌+◌, subst}
use Rattle.web_page.specs.Showing.{Sheet, Looks}
use Rattle.web_page.proofs.Updating.{looks, looked_at}
use Rattle.web_page.proofs.sheet.Sheet.look.Goals as goal

pub returns-clause-looks : goal.returns-clause-looks
returns-clause-looks c =
    let old : Sheet = record {
      terminal = c.self.inside.emulator;
      head = c.self.inside.head;
      rows = c.self.inside.rows.items;
      moment = c.self.inside.moment;
    } in
    subst (λ (s : Sheet). Looks s (record {
      terminal = c.self.inside.emulator;
      head = c.of-head.result;
      rows = c.look_at_rows.new.rows.items;
      moment = c.self.inside.moment + c.count_of.result;
    })) c.self.view_is
    (looks old c.of-head.result c.look_at_rows.new.rows.items c.count_of.result c.in_ok-is_new.is_new
    c.in_ok-is_new.ensures c.of-head.ensures c.self.invariant.0 c.count_of.ensures.some)

pub invariant_of-self-2 : goal.invariant_of-self-2
invariant_of-self-2 c =
    let positive = c.self.invariant.0 in
    let old : Sheet = record {
      terminal = c.self.inside.emulator;
      head = c.self.inside.head;
      rows = c.self.inside.rows.items;
      moment = c.self.inside.moment;
    } in (
      omega arith,
      λ e. looked_at old c.of-head.result c.look_at_rows.new.rows.items c.count_of.result
          c.in_ok-is_new.is_new c.in_ok-is_new.ensures c.of-head.ensures,
    )
