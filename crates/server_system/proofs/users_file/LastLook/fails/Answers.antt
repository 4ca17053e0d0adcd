use Rattle.std.proofs.Common.{rules, ◌≡◌, true, false, sym, ◌∙◌}
use Rattle.server_system.proofs.Stamps.{options, stamps}
use Rattle.server_system.proofs.users_file.LastLook.fails.Goals as goal

pub returns-clause-told : goal.returns-clause-told
returns-clause-told c = λ no.
    let yes : c.eq-was_told.result ≡ true = search (rules, no) in
    (options (options stamps) _ _).0 (sym c.eq-was_told.ensures ∙ yes)

pub returns-clause-news : goal.returns-clause-news
returns-clause-news c = λ yes. λ same.
    let no : c.eq-was_told.result ≡ false = search (rules, yes) in
    let so : c.eq-was_told.result ≡ true = c.eq-was_told.ensures ∙ (options (options stamps) _ _).1 same in
    cc
