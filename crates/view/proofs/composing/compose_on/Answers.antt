use Rattle.view.proofs.Vocabulary.{◌≡◌, ◌+◌, ◌<◌, ℕ, List, arith, map, sym, ap, ◌∙◌, length, subst, get_or}
use Rattle.view.proofs.Vocabulary.{get_or_default, IsGrid, View, Rect, Pane, Empty, HasPageSize, Part, AreParts}
use Rattle.view.proofs.Vocabulary.{part_of, part_at, box_at, pieces, IsPlaced, FocusesOn, Shape}
use Rattle.view.proofs.Stages.{Stage, no_stage, box_stage, separator_stage, status_stage, focus_placed, composed}
use Rattle.view.proofs.Stages.{drawable_view, part_is}
use Rattle.view.proofs.composing.compose_on.Goals as goal

pub loop-place-init : goal.loop-place-init
loop-place-init c = record {
  size = c.requires.size;
  stage = λ s rows columns is. no_stage c.args.rects.now (map part_of c.args.panes.now) c.args.status.now c.args.view
      (c.requires.free s rows columns is);
}

pub loop-place-preserved : goal.loop-place-preserved
loop-place-preserved c =
    let r = c.args.rects.now in
    let n : ℕ = c.loop-place.place in
    let lt : n < length r.boxes.items = omega (arith, c.loop-place-test.true, c.len-place-end.ensures) in
    let there : n < length c.args.panes.now = omega (arith, lt, c.requires.each) in
    let rect : Rect = c.index.result.now in
    let re : rect ≡ box_at r n = c.index.ensures ∙ get_or_default r.boxes.items n rect r.status lt in
    let pe : c.index-panes-place.result ≡ get_or c.args.panes.now n Empty = c.index-panes-place.is
    ∙ get_or_default c.args.panes.now n c.index-panes-place.result Empty there in
    record {
      size = record {
        rows_are = c.in_ok-put_box.ensures.size.rows_are ∙ c.loop-place.invariant.size.rows_are;
        columns_are = c.in_ok-put_box.ensures.size.columns_are ∙ c.loop-place.invariant.size.columns_are;
      };
      stage = λ s rows columns is.
          box_stage r (map part_of c.args.panes.now) c.args.status.now s rows columns is n rect
          (part_of c.index-panes-place.result) c.loop-place.view c.put_box.new.self lt re
          (ap part_of pe ∙ part_is c.args.panes.now n there) (c.loop-place.invariant.stage s rows columns is)
          c.in_ok-put_box.ensures.lays c.in_ok-put_box.ensures.characters;
    }

pub loop-separator-init : goal.loop-separator-init
loop-separator-init c =
    let n : c.loop-place.place ≡ length c.args.rects.now.boxes.items + 0 = omega
    (arith, c.loop-place-test.false, c.loop-place.auto.place-end, c.len-place-end.ensures) in
    record {
      size = c.loop-place.invariant.size;
      stage = λ s rows columns is. subst
          (λ (k : ℕ). Stage c.args.rects.now (map part_of c.args.panes.now) c.args.status.now k c.loop-place.view) n
          (c.loop-place.invariant.stage s rows columns is);
    }

pub loop-separator-preserved : goal.loop-separator-preserved
loop-separator-preserved c =
    let inv = c.loop-separator.invariant in
    let none : Rect = record { line = 0; column = 0; rows = 0; columns = 0 } in
    let lt : c.loop-separator.separator-index < length c.args.rects.now.separators.items = omega
    (arith, c.loop-separator-test.true, ap length c.deref-separator-items.ensures.value) in
    record {
      size = record {
        rows_are = c.put_separator.ensures.size.rows_are ∙ inv.size.rows_are;
        columns_are = c.put_separator.ensures.size.columns_are ∙ inv.size.columns_are;
      };
      stage = λ s rows columns is.
          separator_stage c.args.rects.now (map part_of c.args.panes.now) c.args.status.now s rows columns is
          c.loop-separator.separator-index _ none c.loop-separator.view c.put_separator.new.self lt
          (ap (λ (rs : List Rect). get_or rs c.loop-separator.separator-index none)
          c.deref-separator-items.ensures.value) (inv.stage s rows columns is) c.put_separator.ensures.lays;
    }

last_stage : (c : goal.After-focus) (s : Shape) (rows columns : ℕ)
    → AreParts s rows columns c.args.rects.now (map part_of c.args.panes.now)
    → Stage c.args.rects.now (map part_of c.args.panes.now) c.args.status.now
    (length (pieces c.args.rects.now (map part_of c.args.panes.now) c.args.status.now)) c.put_status.new.self
last_stage c s rows columns is =
    let r = c.args.rects.now in
    let inv = c.loop-separator.invariant in
    let all : c.loop-separator.separator-index ≡ length r.separators.items = omega (
      arith,
      c.loop-separator-test.false,
      c.loop-separator.auto.separator-index-end,
      ap length
          c.deref-separator-items.ensures.value,
    ) in
    status_stage r (map part_of c.args.panes.now) c.args.status.now s rows columns is c.loop-separator.separator-index
    c.loop-separator.view c.put_status.new.self all (inv.stage s rows columns is) c.in_ok-put_status.ensures.lays

last_size : (c : goal.After-focus) → HasPageSize c.args.rects.now c.put_status.new.self
last_size c = record {
  rows_are = c.in_ok-put_status.ensures.size.rows_are ∙ c.loop-separator.invariant.size.rows_are;
  columns_are = c.in_ok-put_status.ensures.size.columns_are ∙ c.loop-separator.invariant.size.columns_are;
}

last_grid : (c : goal.After-focus) → IsGrid c.put_status.new.self.page
last_grid c = subst IsGrid (ap (λ (v : View). v.page) c.view-2.view_is) c.view-2.invariant.grid

focused : (c : goal.After-focus) (s : Shape) (rows columns : ℕ)
    → AreParts s rows columns c.args.rects.now (map part_of c.args.panes.now)
    → FocusesOn (box_at c.args.rects.now c.args.rects.now.focus)
    (part_at (map part_of c.args.panes.now) c.args.rects.now.focus) c.put_status.new.self c.focus.new.self
focused c s rows columns is =
    let r = c.args.rects.now in
    let ps : List Part = map part_of c.args.panes.now in
    let old : View = c.put_status.new.self in
    let new : View = c.focus.new.self in
    let rect : Rect = c.index-2.result.now in
    let pane : Pane = c.index-panes-rects.result in
    let there : r.focus < length c.args.panes.now = omega (arith, c.requires.focus, c.requires.each) in
    let re : rect ≡ box_at r r.focus = c.index-2.ensures
    ∙ get_or_default r.boxes.items r.focus rect r.status c.requires.focus in
    let pe : part_of pane ≡ part_at ps r.focus = ap part_of (c.index-panes-rects.is
    ∙ get_or_default c.args.panes.now r.focus pane Empty there) ∙ part_is c.args.panes.now r.focus there in
    let placed : IsPlaced rect old.page = subst (λ (x : Rect). IsPlaced x old.page) (sym re)
    (focus_placed r ps c.args.status.now s rows columns is old (last_size c)) in
    subst (λ (x : Rect). FocusesOn x (part_at ps r.focus) old new) re
    (subst (λ (y : Part). FocusesOn rect y old new) pe (c.focus.ensures.focused placed))

pub returns-clause-exact : goal.returns-clause-exact
returns-clause-exact c = λ s rows columns is.
    composed c.args.rects.now (map part_of c.args.panes.now) c.args.status.now s rows columns is c.put_status.new.self
    c.focus.new.self (last_size c) (last_grid c) (last_stage c s rows columns is) (focused c s rows columns is)

pub returns-clause-drawable : goal.returns-clause-drawable
returns-clause-drawable c = λ s rows columns is drawable.
    drawable_view c.args.rects.now (map part_of c.args.panes.now) c.args.status.now s rows columns is
    c.put_status.new.self c.focus.new.self (last_size c) (last_grid c) (last_stage c s rows columns is)
    (ap (λ (v : View). v.page) (focused c s rows columns is)) drawable c.in_ok-put_status.ensures.characters
