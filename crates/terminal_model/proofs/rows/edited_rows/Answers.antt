use Rattle.terminal_model.proofs.Vocabulary.{rules, unicode_width, cut, piece, mapped, character_at, supplement, fields}
use Rattle.terminal_model.proofs.Vocabulary.{controls, text, begun_by, function_piece, functions_behind, decimal}
use Rattle.terminal_model.proofs.Vocabulary.{plain_sequence, private_sequence, columns_of, drawn, resized, acted_from}
use Rattle.terminal_model.proofs.Vocabulary.{act, act_all, read_unit, read_units, read_byte, reads, writes_all}
use Rattle.terminal_model.proofs.rows.edited_rows.Goals as goal

pub returns : goal.returns
unfolding unicode_width cut piece mapped character_at supplement fields controls text begun_by function_piece
    functions_behind decimal plain_sequence private_sequence columns_of drawn acted_from resized act act_all read_unit
    read_units read_byte reads writes_all
returns c = search rules
