use Rattle.std.proofs.Common.{rules, ◌≡◌, ◌++◌, ◌∙◌, List, Ok, ap, subst, sym, ℕ}
use Rattle.std.specs.String.{string_bytes}
use Rattle.web_options.proofs.page.read_file.Goals as goal

pub returns-in_ok-add-in-Ok-clause-ok : goal.returns-in_ok-add-in-Ok-clause-ok
returns-in_ok-add-in-Ok-clause-ok g c =
    let reads = g.R.ReadsFiles.reads c.args.rt.now in
    let folder : List ℕ = c.args.folder.now in
    let place : List ℕ = c.as_str.result.now in
    let added = c.in_ok-add-in-Ok.ensures.ok in
    let named : string_bytes added.0.path ≡ c.args.path.now =
    ap string_bytes added.1 ∙ c.in_ok-from_str-in-Ok.ensures.ok in
    let there : place ≡ folder ++ c.args.path.now = search rules in
    let at : place ≡ folder ++ string_bytes added.0.path =
    there ∙ ap (λ (t : List ℕ). folder ++ t) (sym named) in
    let read : reads place (Ok added.0.content.items) =
    subst (λ (t : List ℕ). reads place (Ok t)) (ap (λ v. v.items) (sym added.3)) c.in-Ok.ensures.ok in
    (added.0, named, subst (λ (t : List ℕ). reads t (Ok added.0.content.items)) at read, added.4)
