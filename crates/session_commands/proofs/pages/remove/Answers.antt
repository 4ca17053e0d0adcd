use Rattle.session_commands.proofs.Vocabulary.{ap, inr, refl, rules, sym, subst, ◌∙◌, ◌≡◌, ◌<◌, Some, length, arith}
use Rattle.session_commands.proofs.Vocabulary.{option_copied, ◌==◌, Arrangement, remove_focused, Regions, enters}
use Rattle.session_commands.proofs.Vocabulary.{row_of, Client, serial_of}
use Rattle.std.proofs.Common.{◌≢◌}
use Rattle.regions.specs.Pages.{KeepsRoom}
use Rattle.regions.specs.declared.layout.RegionFault.TheVariants.{LastRegion}
use Rattle.session_model.specs.Tables as model
use Rattle.session_state.proofs.Keeping.{still_roomy}
use Rattle.windows_model.proofs.Serials.{equal_number, other_number}
use Rattle.session_commands.proofs.Answering.{done_on, on_giver, refused, not_refused}
use Rattle.session_commands.proofs.Arranging.{found_arranged}
use Rattle.session_commands.proofs.Paging.{giver_there, row_stands, row_there, done_entering}
use Rattle.session_commands.proofs.Shown.{open_removed}
use Rattle.session_commands.proofs.Quiet.{quietly}
use Rattle.session_commands.proofs.pages.remove.Goals as goal

pub returns-in_default : goal.returns-in_default
returns-in_default c = quietly (search rules) (λ k gives t st fit free.
    let by = giver_there t k c.args.client c.args.context.now.state.now st gives in
    absurd (row_there by.0 _ _ (c.get.ensures.stands t.clients st.clients) by.1.at (ap option_copied c.in_default.is)))

-- it is the last region
pub returns-then-shown-eq1 : goal.returns-then-shown-eq1
returns-then-shown-eq1 c = quietly (search rules) (λ k gives t st fit free.
    let by = giver_there t k c.args.client c.args.context.now.state.now st gives in
    let stands = row_stands by.0 c.in-Some.row.now _ _ (c.get.ensures.stands t.clients st.clients) by.1.at
    (ap option_copied c.in-Some.is) in
    let m : model.Client = by.0 in
    let count : length c.shown.result.now ≡ length m.layout.shown = ap length c.shown.ensures.value
    ∙ ap (λ (l : Arrangement). length l.shown) stands.layout_is in
    let one : length m.layout.shown ≡ 1 = omega (arith, count, c.if-shown-eq1.true) in
    inr (on_giver t k c.args.client m by.1 _
    ∙ refused (length m.layout.shown == 1) (Regions LastRegion) (enters t m (remove_focused m.layout))
    (equal_number (length m.layout.shown) 1 one)))

-- the layout has no other refusal
pub returns-in-Err : goal.returns-in-Err
returns-in-Err c =
    let x : Client = c.in-Some.row.now in
    let at : row_of serial_of c.args.context.now.state.now.clients c.args.client ≡ Some x =
    sym c.get.ensures.row ∙ ap option_copied c.in-Some.is in
    let page = c.in-Err.ensures.there x at in
    let last : 1 < length x.layout.shown → ⊥ = search rules in
    let count : length c.shown.result.now ≡ length x.layout.shown = ap length c.shown.ensures.value in
    absurd (last (omega (arith, count, c.if-shown-eq1.false, c.shown.ensures.some)))

pub returns : goal.returns
returns c = quietly (search rules) (λ k gives t st fit free.
    let by = giver_there t k c.args.client c.args.context.now.state.now st gives in
    let m : model.Client = by.0 in
    let x : Client = c.in-Some.row.now in
    let at : row_of serial_of c.args.context.now.state.now.clients c.args.client ≡ Some x =
    sym c.get.ensures.row ∙ ap option_copied c.in-Some.is in
    let stands =
    row_stands m x _ _ (c.get.ensures.stands t.clients st.clients) by.1.at (ap option_copied c.in-Some.is) in
    let count : length c.shown.result.now ≡ length m.layout.shown = ap length c.shown.ensures.value
    ∙ ap (λ (l : Arrangement). length l.shown) stands.layout_is in
    let more : length m.layout.shown ≢ 1 = omega (arith, count, c.if-shown-eq1.false) in
    let page = c.in_default-try_on_page.ensures.there x at in
    let same : page.0 ≡ remove_focused x.layout = search rules in
    let kept : KeepsRoom x.layout.shape page.0.shape = search rules in
    let roomy : KeepsRoom x.layout.shape (remove_focused x.layout).shape =
    subst (λ (l : Arrangement). KeepsRoom x.layout.shape l.shape) same kept in
    done_on t k c.args.client m by.1 _ (enters t m (remove_focused m.layout)) c.enter_focused.new.context.state.now
    c.args.context.now.made.now c.enter_focused.new.context.made.now (not_refused (length m.layout.shown == 1)
    (Regions LastRegion) (enters t m (remove_focused m.layout)) (other_number (length m.layout.shown) 1 more)) refl
    (done_entering t c.args.context.now.state.now c.try_on_page.new.self c.args.client m
    (λ (d : model.Client). remove_focused d.layout) c.enter_focused.new.context.state.now c.args.context.now.made.now
    c.enter_focused.new.context.made.now st by.1.at (found_arranged remove_focused c.args.context.now.state.now.clients
    c.try_on_page.new.self c.args.client x page.0 at same page.2 (λ d s. still_roomy d x s roomy))
    c.enter_focused.ensures.2 (open_removed t c.args.client m fit by.1.at)))
