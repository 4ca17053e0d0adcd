-- What this crate's proofs take from definitions and from other crates.
pub use Rattle.charsets.proofs.Joins.{units-append}
pub use Rattle.charsets.specs.Units.{IsUnit, is_plain}
pub use Rattle.charsets.specs.declared.decoder.Coding.TheVariants.{Utf8}
pub use Rattle.charsets.specs.declared.decoder.Unit.{Unit}
pub use Rattle.control_parser.specs.Arrays.{IsFront, length-front}
pub use Rattle.control_parser.specs.Grammar.{functions}
pub use Rattle.control_parser.specs.Kept.{StandsFor, functions_of_pieces, kept_text, opening}
unfoldable pub use Rattle.control_parser.specs.Kept.{kept, parts}
pub use Rattle.control_parser.specs.Spelling.{IsGiven, ReadsAs, parameter, spelling}
pub use Rattle.control_parser.specs.Steps.{TakesDigits, breaks_string, broken_step, inside_step, is_final_from, no_text}
pub use Rattle.control_parser.specs.Steps.{step_of, text_grown, valued}
pub use Rattle.control_parser.specs.Text.{digit_added, is_digit, is_intermediate, is_mark, is_no_plain, is_number}
pub use Rattle.control_parser.specs.Text.{is_well_formed, longer, mark_of, number_after, numbers_of, onto_first}
pub use Rattle.control_parser.specs.Text.{unmarked, value, value_of, values, while, with_last}
unfoldable pub use Rattle.control_parser.specs.Text.{fields}
pub use Rattle.control_parser.specs.declared.parser.Func.{Func}
pub use Rattle.control_parser.specs.declared.parser.Func.TheVariants.{Control, Csi, Print}
pub use Rattle.control_parser.specs.declared.state.SequenceText.{SequenceText}
pub use Rattle.std.proofs.Common.{Bool, Fits, IfSome, List, None, Option, Some, [], ap, append_assoc, ap₂, arith, cond}
pub use Rattle.std.proofs.Common.{drop, eqb, false, get_or, leb, length, length-append, map, not, option_to_list, refl}
pub use Rattle.std.proofs.Common.{replicate, rules, set, subst, suc, sym, take, take_all, true, w8, zero, ℕ, ◌%◌, ◌&&◌}
pub use Rattle.std.proofs.Common.{◌*◌, ◌++◌, ◌+◌, ◌-◌, ◌<◌, ◌^◌, ◌∙◌, ◌∷◌, ◌≡◌, ◌≤◌}
pub use Rattle.std.proofs.lemmas.Bool.{cond_both, eq-eqb, ne_eqb}
pub use Rattle.std.proofs.lemmas.Bool.Decides.{nat_tests}
pub use Rattle.std.proofs.lemmas.List.{append-nil, drop-drop, drop-replicate, drop-set-lt, length-map, length-set}
pub use Rattle.std.proofs.lemmas.List.{length-take, map-append, take-append-le, take_more}
pub use Rattle.std.proofs.lemmas.List.Folds.{list_all-append, list_all_more, prefix_len-append}
pub use Rattle.std.specs.List.{AllByRecursion, flat_map, list_all, prefix_len}
pub use Rattle.std.specs.Prelude.{nat_le, nat_lt, ◌==◌}
