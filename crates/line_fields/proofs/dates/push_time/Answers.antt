use Rattle.std.specs.Prelude.{◌/◌, codes}
use Rattle.line_fields.specs.Dates.{clock_text, date_text, end_text}
use Rattle.line_fields.proofs.Joined.{four_parts, same_text}
use Rattle.line_fields.proofs.dates.push_time.Goals as goal

pub returns : goal.returns
returns c =
    let ms = c.args.ms in
    same_text c.push_end.result _ _ _ c.push_end.ensures
    (four_parts c.args.out.now.items (date_text (ms / 86400000)) (codes "T") (clock_text ms) (end_text ms) _ _ _
    c.in_ok-push_date.ensures c.in_ok-extend_from_slice.ensures.items c.in_ok-push_clock.ensures)
