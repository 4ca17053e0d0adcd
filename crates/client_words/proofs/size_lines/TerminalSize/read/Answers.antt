use Rattle.std.proofs.Common.{◌≡◌, ◌+◌, ◌-◌, take, drop, length, Some, sym, ap, ap₂, ◌∙◌, arith}
use Rattle.std.proofs.lemmas.Grind.{common_steps}
use Rattle.std.specs.Bool.{then_some}
use Rattle.client_words.specs.declared.size_lines.TerminalSize.{TerminalSize}
use Rattle.client_words.specs.Lines.{number_of, size_by, size_of}
use Rattle.client_words.proofs.Sizes.{none_where, some_where, by_none, chosen}
use Rattle.client_words.proofs.size_lines.TerminalSize.read.Goals as goal

pub returns-in_err-at : goal.returns-in_err-at
returns-in_err-at c = c.from_residual.ensures ∙ sym (none_where c.args.line.now (sym c.in_err-at.ensures.place))

pub returns-in_err-rows : goal.returns-in_err-rows
returns-in_err-rows c =
    let says = some_where c.args.line.now c.in_ok-at.at (sym c.in_ok-at.ensures.place) in
    c.from_residual-in_err-rows.ensures
    ∙ sym
    (says ∙ ap (λ o. size_by o (number_of (drop (c.in_ok-at.at + 1) c.args.line.now))) (sym c.in_err-rows.ensures))

pub returns-in_err-columns : goal.returns-in_err-columns
returns-in_err-columns c =
    let says = some_where c.args.line.now c.in_ok-at.at (sym c.in_ok-at.ensures.place) in
    let rest = drop (c.in_ok-at.at + 1) c.args.line.now in
    let all : take (length c.args.line.now - (c.in_ok-at.at + 1)) rest ≡ rest = grind (arith, common_steps) in
    c.from_residual-in_err-columns.ensures
    ∙ sym
    (says
    ∙ ap (size_by (number_of (take c.in_ok-at.at c.args.line.now)))
    (sym (c.in_err-columns.ensures ∙ ap number_of all))
    ∙ by_none (number_of (take c.in_ok-at.at c.args.line.now)))

pub returns : goal.returns
returns c =
    let says = some_where c.args.line.now c.in_ok-at.at (sym c.in_ok-at.ensures.place) in
    let rest = drop (c.in_ok-at.at + 1) c.args.line.now in
    let all : take (length c.args.line.now - (c.in_ok-at.at + 1)) rest ≡ rest = grind (arith, common_steps) in
    let two : size_of c.args.line.now ≡ size_by (Some c.in_ok-rows.rows) (Some c.in_ok-columns.columns) =
    says ∙ ap₂ size_by (sym c.in_ok-rows.ensures) (sym (c.in_ok-columns.ensures ∙ ap number_of all)) in
    let size : TerminalSize = record { rows = c.in_ok-rows.rows; columns = c.in_ok-columns.columns } in
    c.then_some.ensures ∙ ap (λ b. then_some b size) c.is_size.ensures ∙ chosen _ size ∙ sym two
