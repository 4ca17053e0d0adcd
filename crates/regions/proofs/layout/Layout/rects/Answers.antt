use Rattle.std.proofs.Common.{◌≡◌, ◌<◌, ◌-◌, true, length, sym, ap, ◌∙◌, arith}
use Rattle.regions.specs.Shapes.{shape, fits}
use Rattle.regions.specs.Layouts.{Arrangement}
use Rattle.regions.proofs.Room.{room_fits, tall}
use Rattle.regions.proofs.Counting.{length_boxes}
use Rattle.regions.proofs.Tiling.{page_once}
use Rattle.regions.proofs.layout.Layout.rects.Goals as goal

pub put_boxes-requires-clause-room : goal.put_boxes-requires-clause-room
put_boxes-requires-clause-room c =
    rw c.of_layout-page.ensures
    (sym (room_fits (shape c.self.inside.tree) c.args.rows c.args.columns) ∙ sym c.has_room.ensures
    ∙ c.if-not-has_room.false)

pub put_separators-requires-clause-room : goal.put_separators-requires-clause-room
put_separators-requires-clause-room c =
    rw c.of_layout-page.ensures
    (sym (room_fits (shape c.self.inside.tree) c.args.rows c.args.columns) ∙ sym c.has_room.ensures
    ∙ c.if-not-has_room.false)

pub returns-clause-each : goal.returns-clause-each
returns-clause-each c = rw (c.in_ok-put_boxes.ensures, c.new-boxes.ensures.items)
    (length_boxes (shape c.self.inside.tree) c.of_layout-page.result ∙ c.self.invariant.0
    ∙ ap (λ (a : Arrangement). length a.shown) c.self.view_is)

pub returns-clause-focused : goal.returns-clause-focused
returns-clause-focused c =
    rw (c.in_ok-put_boxes.ensures, c.new-boxes.ensures.items)
    (rw (length_boxes (shape c.self.inside.tree) c.of_layout-page.result) (omega arith))

pub returns-clause-last : goal.returns-clause-last
returns-clause-last c =
    let s = shape c.self.inside.tree in
    let room : fits s (c.args.rows - 1) c.args.columns ≡ true = sym (room_fits s c.args.rows c.args.columns)
    ∙ sym c.has_room.ensures ∙ c.if-not-has_room.false in
    let high : 1 < c.args.rows - 1 = tall s (c.args.rows - 1) c.args.columns room in
    rw c.of_status.ensures (omega (arith, high))

pub returns-clause-tiles : goal.returns-clause-tiles
returns-clause-tiles c =
    rw (
      c.in_ok-put_boxes.ensures,
      c.new-boxes.ensures.items,
      c.in_ok-put_separators.ensures,
      c.new-separators.ensures.items,
      c.of_status.ensures,
      c.of_layout-page.ensures,
    )
    (page_once (shape c.self.inside.tree) c.args.rows c.args.columns (sym c.has_room.ensures ∙ c.if-not-has_room.false))
