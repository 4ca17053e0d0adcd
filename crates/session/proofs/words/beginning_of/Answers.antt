use Rattle.session.proofs.Vocabulary.{◌≡◌, ◌∙◌, ap, refl, map, Some, codes, option_and_then, string_bytes, named_by}
use Rattle.session.proofs.Vocabulary.{found_of, rows_of, matches_of, first_of, one_of, one_text, one_text-rows, muxsim}
use Rattle.session.proofs.Vocabulary.{edition_text}
use Rattle.session.proofs.words.beginning_of.Goals as goal

pub returns-in-Some : goal.returns-in-Some
returns-in-Some c = λ groups name shows asks.
    let rows : rows_of (found_of c.in-Ok.matches) ≡ matches_of muxsim (map string_bytes c.args.words.now) =
    c.in-Ok.ensures.ok in
    let named : Some c.in-Some.owner ≡ Some name = c.in-Some.ensures
    ∙ (ap (λ r. option_and_then named_by (first_of (codes "owner") r)) rows ∙ asks.owner_is) in
    let same : c.in-Some.owner ≡ name = cc in
    let word : one_text (found_of c.in-Ok.matches) (codes "edition") ≡ Some (edition_text groups) = one_text-rows
    (found_of c.in-Ok.matches) (codes "edition") ∙ (ap (λ r. one_of (codes "edition") r) rows ∙ asks.edition_is) in
    (c.edition_of.ensures groups word, same, refl)
