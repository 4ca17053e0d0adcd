use Rattle.std.proofs.Common.{◌≡◌, ◌∙◌, ◌+◌, ◌-◌, ◌++◌, List, ℕ, Bool, false, ap, arith}
use Rattle.std.proofs.lemmas.Bool.Decides.{nat_tests}
use Rattle.std.specs.Prelude.{◌==◌}
use Rattle.trail_files.specs.Json.{item_text, items_text}
use Rattle.trail_files.specs.Words.{first_word, words_in}
use Rattle.trail_files.proofs.Wording.{words_more}
use Rattle.trail_files.proofs.json.push_words.Goals as goal

pub words-preserved : goal.words-preserved
words-preserved c =
    let later : (c.words.place + 1 == 0) ≡ false = grind (arith, nat_tests) in
    let n = c.args.count - (c.words.place + 1) in
    let out = c.words.out.items in
    let is_first = c.words.place == 0 in
    ap (λ (is : Bool). c.push_item.new.out.items ++ items_text is (words_in n c.first_word.result.1.now)) later
    ∙ (ap (λ (o : List ℕ). o ++ items_text false (words_in n c.first_word.result.1.now)) c.in_ok-push_item.ensures
    ∙ (ap (λ (w : List ℕ). (out ++ item_text is_first w) ++ items_text false (words_in n c.first_word.result.1.now))
    c.first_word.ensures.word
    ∙ (ap (λ (r : List ℕ). (out ++ item_text is_first (first_word c.words.rest.now)) ++ items_text false (words_in n r))
    c.first_word.ensures.rest
    ∙ (words_more c.args.count c.words.place c.words.rest.now out is_first c.words-test.true ∙ c.words.invariant))))
