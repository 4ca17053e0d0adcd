use Rattle.session.proofs.Vocabulary.{ap, ap₂, map, refl, subst, ◌≡◌, ◌∙◌, Bool, true, List, IfOk, IfErr, string_bytes}
use Rattle.session.proofs.Vocabulary.{Text, found_of, matches_of, rows_of, muxsim}
use Rattle.std.proofs.lemmas.Result.{IfOk-weaker}
use Rattle.clap.specs.Words.{App, HasMatchesOf, app_of, is_simple, kind_of, takes, with_rule}
use Rattle.clap.specs.Simple.{app_of_fields}
use Rattle.clap.specs.declared.parser.matches.ArgMatches.{ArgMatches}
use Rattle.clap.specs.declared.error.ErrorKind.TheVariants as kind
use Rattle.session.proofs.words.read_words.Goals as goal
use Rattle.session.proofs.words.read_words.Goals.{In_ok-arg-5}

app_is : (c : In_ok-arg-5) → app_of c.in_ok-arg-5.field-0 ≡ muxsim
app_is c = c.in_ok-arg-5.ensures.shape c.owner_word.ensures.local
    ∙ ap₂ with_rule (c.in_ok-arg-4.ensures.shape c.trail_word.ensures.local
    ∙ ap₂ with_rule (c.in_ok-arg-3.ensures.shape c.show_word.ensures.local
    ∙ ap₂ with_rule (c.in_ok-arg-2.ensures.shape c.setup_word.ensures.local
    ∙ ap₂ with_rule (c.in_ok-arg.ensures.shape c.edition_word.ensures.local
    ∙ ap₂ with_rule (ap app_of_fields c.about.ensures ∙ c.new.ensures.app) c.edition_word.ensures.rule)
    c.setup_word.ensures.rule) c.show_word.ensures.rule) c.trail_word.ensures.rule) c.owner_word.ensures.rule

simple : (app : App) (words : List Text) (m : ArgMatches) → is_simple app ≡ true → HasMatchesOf app words m
    → rows_of (found_of m) ≡ matches_of app words
simple app words m is h = (h is).0

pub returns-clause-ok : goal.returns-clause-ok
returns-clause-ok c =
    let words = map string_bytes c.args.words.now in
    let parse = c.try_get_matches_from in
    let has = subst (λ (a : App). IfOk parse.result (HasMatchesOf a words))
    (app_is (goal.at.returns-clause-ok c).In_ok-arg-5) parse.ensures.matches in
    IfOk-weaker parse.result (HasMatchesOf muxsim words) (λ m. rows_of (found_of m) ≡ matches_of muxsim words)
    (λ m. simple muxsim words m refl) has

pub returns-clause-err : goal.returns-clause-err
returns-clause-err c =
    let words = map string_bytes c.args.words.now in
    let parse = c.try_get_matches_from in
    subst (λ (a : App). IfErr parse.result (λ e. takes a words ≡ true → kind_of e ≡ kind.OutOfMemory))
    (app_is (goal.at.returns-clause-err c).In_ok-arg-5) parse.ensures.passes
