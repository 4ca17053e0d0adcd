use Rattle.std.proofs.Common.{rules, ◌≡◌, true, false, Some, inl, inr, refl, sym, ◌∙◌}
use Rattle.server_system.specs.Looking.{Tells, after_look, fault_of}
use Rattle.server_system.proofs.Stamps.{options, stamps}
use Rattle.server_system.proofs.users_file.look_at.Goals as goal

pub returns-then-eq-clause-looks : goal.returns-then-eq-clause-looks
returns-then-eq-clause-looks g c =
    let yes : c.eq.result ≡ true = search rules in
    (c.find-found.result, c.find-found.ensures, inl ((options (options stamps) _ _).0 (sym c.eq.ensures ∙ yes), refl, refl))

pub returns-clause-looks : goal.returns-clause-looks
returns-clause-looks g c =
    let no : c.eq.result ≡ false = search rules in
    let seen : c.is_news.new.self ≡ after_look c.find-found.result (fault_of c.read-read.result) c.args.seen.now =
    search rules in
    let tells : Tells c.find-found.result c.args.seen.now c.read-read.result c.then_some.result = search rules in (
      c.find-found.result,
      c.find-found.ensures,
      inr (
        (λ same. let yes : c.eq.result ≡ true = c.eq.ensures ∙ (options (options stamps) _ _).1 same in cc),
        c.read-read.result,
        c.read-read.ensures,
        seen,
        tells,
      ),
    )
