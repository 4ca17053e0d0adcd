use Rattle.session_commands.proofs.Vocabulary.{◌≡◌, true, Some, None, inr, inl, refl, rules, ◌∙◌, ap, sym}
use Rattle.session_commands.proofs.Vocabulary.{option_copied, Arrangement, split_focused, split_fault, has_room, Way}
use Rattle.session_commands.proofs.Vocabulary.{Regions, row_of, arranges, Client, serial_of}
use Rattle.std.specs.Prelude.{unwrap_or}
use Rattle.regions.specs.Layouts.{split_error}
use Rattle.regions.specs.declared.layout.RegionFault.TheVariants.{NoMemory}
use Rattle.session_model.specs.Tables as model
use Rattle.session_commands.proofs.Answering.{done_on, faultless, on_giver, split_refused}
use Rattle.session_commands.proofs.Arranging.{found_arranged, page_kept, split_alike, split_roomy}
use Rattle.session_commands.proofs.Paging.{giver_there, done_quietly, row_stands, row_there}
use Rattle.session_commands.proofs.Quiet.{quietly}
use Rattle.session_commands.proofs.pages.split.Goals as goal

pub returns-in_default : goal.returns-in_default
returns-in_default c = quietly (search rules) (λ k gives t st fit free.
    let by = giver_there t k c.args.client c.args.context.now.state.now st gives in
    absurd (row_there by.0 _ _ (c.get.ensures.stands t.clients st.clients) by.1.at (ap option_copied c.in_default.is)))

pub returns-in-Ok : goal.returns-in-Ok
returns-in-Ok c = quietly (search rules) (λ k gives t st fit free.
    let by = giver_there t k c.args.client c.args.context.now.state.now st gives in
    let m : model.Client = by.0 in
    let x : Client = c.in-Some.row.now in
    let stands =
    row_stands m x _ _ (c.get.ensures.stands t.clients st.clients) by.1.at (ap option_copied c.in-Some.is) in
    let at : row_of serial_of c.args.context.now.state.now.clients c.args.client ≡ Some x =
    sym c.get.ensures.row ∙ ap option_copied c.in-Some.is in
    let way : Way = c.way_of-way.result in
    let page = c.in-Ok.ensures.there x at in
    let same : page.0 ≡ split_focused way x.layout = search rules in
    let none : split_fault way x.layout c.rows-rows.result c.columns-columns.result ≡ None = search rules in
    let room : has_room page.0.shape c.rows-rows.result c.columns-columns.result ≡ true = search rules in
    let halves : Way → model.Client → Arrangement = λ w d. split_focused w d.layout in
    rw (sym c.way_of-way.ensures)
    (done_on t k c.args.client m by.1 _ (arranges t m (halves way m)) _ c.args.context.now.made.now
    c.args.context.now.made.now (faultless Regions (split_fault way m.layout m.rows m.columns)
    (arranges t m (halves way m)) (sym (split_alike way m x c.rows-rows.result c.columns-columns.result stands
    c.rows-rows.ensures c.columns-columns.ensures) ∙ none)) refl (done_quietly t c.args.context.now.state.now
    c.try_on_page.new.self c.args.client m (halves way) c.args.context.now.made.now st by.1.at
    (found_arranged (split_focused way) c.args.context.now.state.now.clients c.try_on_page.new.self c.args.client x
    page.0 at same page.2 (λ d s. split_roomy way d x page.0 c.rows-rows.result c.columns-columns.result same
    c.rows-rows.ensures c.columns-columns.ensures room s)))))

pub returns-in-Err : goal.returns-in-Err
returns-in-Err c =
    let s = c.args.context.now.state.now in
    let x : Client = c.in-Some.row.now in
    let at : row_of serial_of s.clients c.args.client ≡ Some x =
    sym c.get.ensures.row ∙ ap option_copied c.in-Some.is in
    let page = c.in-Err.ensures.there x at in
    let same : page.0 ≡ x.layout = search rules in
    let kept = page_kept s.clients c.try_on_page.new.self c.args.client x page.0 at same page.2 in (
      (
        (refl, refl),
        (tt, (record { state = ap (λ cs. record s { clients = cs }) kept; acts = refl; effects = refl }, tt)),
      ),
      λ k gives t st fit free.
          let by = giver_there t k c.args.client s st gives in
          let m : model.Client = by.0 in
          let stands =
          row_stands m x _ _ (c.get.ensures.stands t.clients st.clients) by.1.at (ap option_copied c.in-Some.is) in
          let way : Way = c.way_of-way.result in
          let why : c.in-Err.fault ≡ split_error way x.layout c.rows-rows.result c.columns-columns.result
          = search rules in
          rw (c.refusal_of.ensures, sym c.way_of-way.ensures)
          (elim (split_refused (split_fault way m.layout m.rows m.columns) (arranges t m (split_focused way m.layout))
          c.in-Err.fault (why
          ∙ ap (λ o. unwrap_or o NoMemory) (split_alike way m x c.rows-rows.result c.columns-columns.result stands
          c.rows-rows.ensures c.columns-columns.ensures))) [
            | inl full ↦ inl full
            | inr because ↦ inr (on_giver t k c.args.client m by.1 _ ∙ because)
          ]),
    )
