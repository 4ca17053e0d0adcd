use Rattle.trail_setup.proofs.Vocabulary.{◌≡◌, ◌∙◌, [], ℕ, List, ap, sym, subst, OnOk, given_kind, given_words, Kind}
use Rattle.trail_setup.proofs.Vocabulary.{PutsLines, kind_of}
use Rattle.trail_setup.proofs.Putting.{reformed}
use Rattle.trail_setup.proofs.commands.push_given.Goals as goal

pub returns : goal.returns
returns c = λ edition owner h s.
    let out = c.args.out.now.items in
    let words = given_words owner h c.args.user c.args.given in
    let form = c.in_ok-put_commands.ensures.form in
    let kind : kind_of c.put_commands.new.lines.form ≡ given_kind c.args.user c.args.given = ap kind_of
    (form ∙ c.new-lines.ensures.form)
    ∙ ap (λ (t : List ℕ). record { head = t; between = 0x2C; tail = [] })
    (c.as_slice.ensures.value ∙ c.in_ok-head.ensures) in
    subst (λ (k : Kind). OnOk c.end.result (PutsLines k out words c.end.new.out.items)) kind
    (c.end.ensures.puts out words (reformed _ _ out words _ _ (sym form)
    (c.in_ok-put_commands.ensures.holds edition owner h s out (c.new-lines.ensures.begins out))))
