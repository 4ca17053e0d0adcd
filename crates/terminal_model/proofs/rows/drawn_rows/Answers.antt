use Rattle.terminal_model.proofs.Vocabulary.{nat_tests, arith, ◌≡◌, ℕ, Some, refl, codes, unicode_width, Code, cut}
use Rattle.terminal_model.proofs.Vocabulary.{piece, mapped, character_at, supplement, Print, fields, controls, text}
use Rattle.terminal_model.proofs.Vocabulary.{begun_by, function_piece, functions_behind, Position, plain_sequence}
use Rattle.terminal_model.proofs.Vocabulary.{private_sequence, Page, Screen, columns_of, drawn, acted_from, act}
use Rattle.terminal_model.proofs.Vocabulary.{act_all, read_unit, read_units, read_byte, reads, PrintsOf, StandsAt}
use Rattle.terminal_model.proofs.Vocabulary.{place_by}
use Rattle.cells.specs.declared.cell.Shape.TheVariants.{Left, Right}
use Rattle.terminal_model.specs.Rows.{fresh_reads, csi, wide_page}
use Rattle.terminal_model.proofs.rows.drawn_rows.Goals as goal

-- the character and its place
stands : (page : Page) (x : Screen) (u c : ℕ) (p : Position) → mapped x.state.shifts (Code u) ≡ Some c
    → place_by (columns_of c) (record { before = x; func = Print u }) ≡ Some p
    → PrintsOf page (record { before = x; func = Print u }) → StandsAt (columns_of c) page p c
stands page x u c p maps takes is = grind (arith, nat_tests)

pub returns : goal.returns
unfolding unicode_width cut piece mapped character_at supplement fields controls text begun_by function_piece
    functions_behind plain_sequence private_sequence columns_of drawn acted_from act act_all read_unit read_units
    read_byte reads
returns c = record {
  in_place = (
    record {
      character = 0x6F22;
      place = record { line = 0; column = 0 };
      prints = (refl, refl);
      stands = (record { shape_is = refl; character_is = refl }, record { shape_is = refl; character_is = refl });
    },
    (
      record {
        character = 0x78;
        place = record { line = 0; column = 2 };
        prints = (refl, refl);
        stands = record { shape_is = refl; character_is = refl };
      },
      tt,
    ),
  );
  same_page = refl;
  out_of_place = λ all.
      let there = stands wide_page (fresh_reads 2 5 0 (csi (codes "1;2H"))).terminal.screen 0x6F22 0x6F22
      (record { line = 0; column = 1 }) refl refl all.1.0 in
      let half : Right ≡ Left = there.0.shape_is in
      absurd (cc half);
  margins = λ is. absurd (cc is.in_order);
  parameter = λ is. absurd (cc is.named);
}
