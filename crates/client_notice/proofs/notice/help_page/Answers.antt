use Rattle.std.proofs.Common.{◌≡◌, ℕ, ◌+◌, ◌-◌, List, ◌∷◌, ◌++◌, sym, subst, rules}
use Rattle.std.specs.Prelude.{codes}
use Rattle.client_notice.specs.Notices.{IsBeginning, IsHelp, next_row}
use Rattle.client_notice.proofs.notice.help_page.Goals as goal

pub loop-row-init : goal.loop-row-init
loop-row-init c =
    let is : c.extend_from_slice.new.self.items ≡ 0x1B ∷ codes "[m" ++ 0x1B ∷ codes "[H" = search rules in
    subst (IsHelp c.args.columns 0) (sym is) IsHelp.none

pub loop-row-preserved : goal.loop-row-preserved
loop-row-preserved c =
    let row : ℕ = c.loop-row.row in
    let page : List ℕ = c.loop-row.page.items in
    let line : List ℕ = c.cut.result.now in
    let is : c.extend_from_slice-in-loop-row-3.new.self.items ≡ ((page ++ next_row row) ++ line) ++ 0x1B ∷ codes "[K" =
    search rules in
    let begins : IsBeginning c.as_bytes.result.now (c.args.columns - 1) line = search rules in
    subst (IsHelp c.args.columns (row + 1)) (sym is) (IsHelp.row c.as_bytes.result.now line begins c.loop-row.invariant)
