use Rattle.std.proofs.Common.{◌≤◌, refl, arith}
use Rattle.vt_screen.proofs.Texts.{none_put, put_last, text_printed}
use Rattle.vt_screen.proofs.Widths.{line_width}
use Rattle.vt_screen.proofs.screen.Display.place_text.Goals as goal

pub overflow_sub-self : goal.overflow_sub-self
overflow_sub-self c = put_last c.args.bytes.now _ _ _ c.put_text-put.result c.put_text-put.ensures.put c.if-put-gt0.true

pub advance-requires-clause-inside : goal.advance-requires-clause-inside
advance-requires-clause-inside c =
    let last : c.put_text-put.result.last ≤ c.put_text-put.result.count = put_last c.args.bytes.now _ _ _
    c.put_text-put.result c.put_text-put.ensures.put c.if-put-gt0.true in
    omega (
      arith,
      last,
      c.put_text-put.ensures.put.inside,
      line_width c.args.self.now c.requires.fit,
      c.requires.fit.sound.cursor.1,
    )

pub returns-then-put-gt0-clause-prints : goal.returns-then-put-gt0-clause-prints
returns-then-put-gt0-clause-prints c =
    text_printed c.args.self.now _ c.args.bytes.now c.put_text-put.result c.requires.fit c.put_text-put.ensures.put
    (record { width = refl; places = c.put_text-put.ensures.places }) c.requires.takes c.requires.settled
    c.if-put-gt0.true (rw (c.advance.ensures, c.put_text-put.ensures.lines) refl)

pub returns-else-put-gt0-clause-prints : goal.returns-else-put-gt0-clause-prints
returns-else-put-gt0-clause-prints c =
    none_put c.args.self.now _ c.args.bytes.now c.put_text-put.result c.requires.fit c.put_text-put.ensures.put
    (record { width = refl; places = c.put_text-put.ensures.places }) (omega (arith, c.if-put-gt0.false))
    (rw c.put_text-put.ensures.lines refl)
