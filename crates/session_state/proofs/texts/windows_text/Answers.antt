use Rattle.session_state.proofs.Vocabulary.{◌≡◌, ◌∙◌, ◌+◌, ℕ, List, ap, Bool, refl, sym, subst, map, arith, Some, None}
use Rattle.session_state.proofs.Vocabulary.{with_number, window_item, numbered, WindowStands, IsList}
use Rattle.windows_model.proofs.Matching.{both_back, none_back}
use Rattle.session_state.proofs.Numbered.{none_numbered, one_numbered, all_numbered, there_by_number}
use Rattle.session_state.proofs.texts.windows_text.Goals as goal
use Rattle.session_state.proofs.texts.windows_text.Goals.{in-Some+in_ok-push_separator+in_ok-push_item, in_default}

pub returns : goal.returns
returns c = λ t st fit.
    let all : c.loop-number.number ≡ 40 = omega arith in
    c.from_vec.ensures
    ∙ all_numbered t c.args.user c.args.focus c.loop-number.is_first c.loop-number.text.items fit
    (subst
    (λ (n : ℕ). IsList (map (window_item t c.args.user c.args.focus) (numbered t.windows 0 n))
    c.loop-number.is_first c.loop-number.text.items)
    all (c.loop-number.invariant t st fit))

pub loop-number-preserved : goal.loop-number-preserved
loop-number-preserved c = λ t st fit.
    let n = c.loop-number.number in
    let more = map (window_item t c.args.user c.args.focus) (numbered t.windows 0 (n + 1)) in
    elim c.match-by_number.branch [
      | in-Some+in_ok-push_separator+in_ok-push_item w ↦
          let row = both_back WindowStands (with_number t.windows n) (Some w.in-Some.window.now)
          w.in-Some.window.now (w.in-Some.ensures t.windows st.windows) refl in
          subst (λ (text : List ℕ). IsList more c.match-by_number.is_first text) (sym (ap (λ v. v.items) w.text-is))
          (subst (λ (b : Bool). IsList more b w.push_item.new.out.items) (sym w.is_first-is)
          (one_numbered t c.args.user c.args.focus n c.loop-number.is_first row.0
          c.loop-number.text.items w.push_separator.new.out.items w.push_item.new.out.items row.1
          (c.loop-number.invariant t st fit) w.in_ok-push_separator.ensures.ok
          (w.in_ok-push_item.ensures t row.0 st fit row.2 (there_by_number t.windows n row.0 row.1))))
      | in_default w ↦
          let none = none_back WindowStands (with_number t.windows n) None
          (w.in_default.ensures t.windows st.windows) refl in
          subst (λ (text : List ℕ). IsList more c.match-by_number.is_first text) (sym (ap (λ v. v.items) w.text-is))
          (subst (λ (b : Bool). IsList more b c.loop-number.text.items) (sym w.is_first-is)
          (none_numbered t c.args.user c.args.focus n c.loop-number.is_first c.loop-number.text.items
          none (c.loop-number.invariant t st fit)))
    ]
