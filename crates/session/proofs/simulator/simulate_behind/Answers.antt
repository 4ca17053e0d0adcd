use Rattle.session.proofs.Vocabulary.{refl, ap, subst, inl, map, ◌≡◌, ◌∙◌, Bool, true, false, Option, Some, codes}
use Rattle.session.proofs.Vocabulary.{option_and_then, string_bytes, named_by, Text, found_of, rows_of, matches_of}
use Rattle.session.proofs.Vocabulary.{first_of, one_of, one_text, one_text-rows, Edition, UserId, line_of, commands_in}
use Rattle.session.proofs.Vocabulary.{muxsim, edition_text, flag_text, Simulates}
use Rattle.session.proofs.Parts.{plays_behind}
use Rattle.session.proofs.simulator.simulate_behind.Goals as goal

flag_is : (text : Option Text) (flag shows : Bool) → (text ≡ Some (codes "true") → flag ≡ true)
    → (text ≡ Some (codes "false") → flag ≡ false) → text ≡ Some (flag_text shows) → flag ≡ shows
flag_is text flag true set unset is = set is
flag_is text flag false set unset is = unset is

pub returns-in-Ok-play : goal.returns-in-Ok-play
returns-in-Ok-play g c = λ groups name shows asks.
    let rows : rows_of (found_of c.in-Ok.matches) ≡ matches_of muxsim (map string_bytes c.args.asked.words.now) =
    c.in-Ok.ensures.ok in
    let named : Some c.in-Some.owner ≡ Some name = c.in-Some.ensures
    ∙ (ap (λ r. option_and_then named_by (first_of (codes "owner") r)) rows ∙ asks.owner_is) in
    let same : c.in-Some.owner ≡ name = cc in
    let text : one_text (found_of c.in-Ok.matches) (codes "show") ≡ Some (flag_text shows) = one_text-rows
    (found_of c.in-Ok.matches) (codes "show") ∙ (ap (λ r. one_of (codes "show") r) rows ∙ asks.shows_is) in
    let flag : c.get_flag-shows.result ≡ shows = flag_is (one_text (found_of c.in-Ok.matches) (codes "show"))
    c.get_flag-shows.result shows c.get_flag-shows.ensures.value c.get_flag-shows.ensures.other text in
    let word : one_text (found_of c.in-Ok.matches) (codes "edition") ≡ Some (edition_text groups) = one_text-rows
    (found_of c.in-Ok.matches) (codes "edition") ∙ (ap (λ r. one_of (codes "edition") r) rows ∙ asks.edition_is) in
    let chosen : c.edition_of.result ≡ groups = c.edition_of.ensures groups word in
    let lines : map line_of c.deref.result.now ≡ commands_in c.args.asked.setup.now = ap (λ ls. map line_of ls)
    c.deref.ensures.value ∙ c.in-Ok-read_setup.ensures.ok.0 in
    let ends : Edition → UserId → Bool
    → Type 0 = λ e n s. Simulates e n s c.args.asked.setup.now (g.R.Read.remaining c.args.reader) 0
    (g.W.Write.contents c.args.writer.now) (g.W.Write.contents c.play.new.writer) in
    subst (λ e. ends e name shows) chosen
    (subst (λ n. ends c.edition_of.result n shows) same
    (subst (λ s. ends c.edition_of.result c.in-Some.owner s) flag
    (inl (
      refl,
      record {
        commands = c.in-Ok-read_setup.ensures.ok.1;
        plays = plays_behind c.edition_of.result c.in-Some.owner (map line_of c.deref.result.now)
            (commands_in c.args.asked.setup.now) c.get_flag-shows.result (g.R.Read.remaining c.args.reader)
            c.in-Ok-session.session
            (g.W.Write.contents c.args.writer.now) (g.W.Write.contents c.play.new.writer) lines
            c.in-Ok-session.ensures.ok c.in-Ok-play.ensures.whole;
      },
    ))))
