-- The view that is composed for a client is its granted view.
use Rattle.session_view.proofs.Vocabulary.{◌≡◌, ℕ, ◌+◌, List, Some, None, refl, ap, sym, ◌∙◌, subst, map, length, ◌&&◌}
use Rattle.session_view.proofs.Vocabulary.{nat_le, length-map, IsGridSize, IsRects, status_of, View, UserId, HasSize}
use Rattle.session_view.proofs.Vocabulary.{Tables, part_shown, status_text, layout_of, Client, ClientStands, BothOrNone}
use Rattle.session_view.proofs.Vocabulary.{State, Stands, AreFit, SaysStatus, IsGranted, IsViewFor, ViewOf}
use Rattle.std.proofs.Common.{◌-◌, ◌<◌, ◌≤◌, Bool, true, Option, arith, Result, Ok, Err, IfOk}
use Rattle.std.proofs.lemmas.Bool.{leb-true}
use Rattle.regions.specs.declared.rect.Rect.{Rect}
use Rattle.regions.specs.declared.rect.Rects.{Rects}
use Rattle.regions.specs.Layouts.{Arrangement}
use Rattle.regions.proofs.Room.{both_true}
use Rattle.regions.specs.Shapes.{Shape}
use Rattle.view.specs.Composing.{HasPageSize}
use Rattle.view.specs.Drawable.{IsDrawable}
use Rattle.view.specs.Granted as view
use Rattle.session_model.specs.Tables as model
use Rattle.session_model.specs.Comings.{is_client_size}
use Rattle.std.specs.declared.alloc.AllocError.{AllocError}
use Rattle.session_view.proofs.Panes.{parts_well}

module _ (t : Tables) (s : State) (m : model.Client) (c : Client) (st : Stands t s)
    (is : ClientStands m c) (r : Rects)
    (rects : IsRects c.layout.shape c.layout.focus c.shadow.rows c.shadow.columns r) where
  on_page : IsRects m.layout.shape m.layout.focus m.rows m.columns r
  on_page =
      subst (λ (l : Arrangement). IsRects l.shape l.focus m.rows m.columns r) is.layout_is
      (subst (λ n. IsRects c.layout.shape c.layout.focus n m.columns r) is.rows_are
      (subst (λ n. IsRects c.layout.shape c.layout.focus c.shadow.rows n r) is.columns_are rects))

  layout_is : view.layout_of r ≡ layout_of m
  layout_is = rw (on_page.boxes_are, on_page.separators_are, on_page.focus_is, on_page.status_is) refl

  abbrev shown_parts : List view.Part
  shown_parts = map (part_shown t m.user) m.layout.shown

  same_parts : map (part_shown t c.user) c.layout.shown ≡ shown_parts
  same_parts =
      ap (λ (u : UserId). map (part_shown t u) c.layout.shown) is.user_is
      ∙ ap (λ (l : Arrangement). map (part_shown t m.user) l.shown) is.layout_is

  are_parts : length r.boxes.items ≡ length c.layout.shown → r.focus < length r.boxes.items
      → view.AreParts m.layout.shape m.rows m.columns r shown_parts
  are_parts each inside = record {
    rects = subst (λ n. IsRects m.layout.shape n m.rows m.columns r) (sym on_page.focus_is) on_page;
    room = is.room;
    focus = inside;
    each = length-map m.layout.shown (part_shown t m.user)
        ∙ (ap (λ (l : Arrangement). length l.shown) (sym is.layout_is) ∙ sym each);
    paired = λ n. (parts_well t s.windows st.windows m.user m.layout.shown n).0;
  }

  -- what is composed of what the client's regions show is granted
  pub granted_is : (parts : List view.Part) (status : List ℕ) (v : View)
      → length r.boxes.items ≡ length c.layout.shown → r.focus < length r.boxes.items
      → parts ≡ map (part_shown t c.user) c.layout.shown → status ≡ status_text t m
      → HasSize c.shadow.rows c.shadow.columns v
      → (view.AreParts m.layout.shape m.rows m.columns r parts → v ≡ view.view_of r parts status)
      → (view.AreParts m.layout.shape m.rows m.columns r parts → view.AreDrawable parts → IsDrawable v)
      → IsGranted t m v
  granted_is parts status v each inside shown says size exact drawable =
      let same = shown ∙ same_parts in
      let are = subst (view.AreParts m.layout.shape m.rows m.columns r) (sym same) (are_parts each inside) in record {
        granted = exact are
            ∙ (ap (λ l. view.view_in l parts status) layout_is
            ∙ (ap (λ ps. view.view_in (layout_of m) ps status) same
            ∙ ap (λ text. view.view_in (layout_of m) shown_parts text) says));
        drawable = drawable are
            (subst view.AreDrawable (sym same)
            (λ n. (parts_well t s.windows st.windows m.user m.layout.shown n).1));
        size = subst (λ n. HasSize n m.columns v) is.rows_are
            (subst (λ n. HasSize c.shadow.rows n v) is.columns_are size);
      }

-- the view is made of parts and a status text
pub view_is : (s : State) (c : Client) (r : Rects) (parts : List view.Part) (status : List ℕ)
    (result : Result View AllocError)
    → IsRects c.layout.shape c.layout.focus c.shadow.rows c.shadow.columns r
    → length r.boxes.items ≡ length c.layout.shown → r.focus < length r.boxes.items
    → r.status.line + 1 ≡ c.shadow.rows
    → ((t : Tables) → Stands t s → AreFit t → parts ≡ map (part_shown t c.user) c.layout.shown)
    → SaysStatus s c status → IfOk result (HasPageSize r)
    → IfOk result (λ v. (shape : Shape) (rows columns : ℕ)
    → view.AreParts shape rows columns r parts → v ≡ view.view_of r parts status)
    → IfOk result (λ v. (shape : Shape) (rows columns : ℕ)
    → view.AreParts shape rows columns r parts → view.AreDrawable parts → IsDrawable v)
    → IfOk result (IsViewFor s c)
view_is s c r parts status (Ok v) rects each inside last shown says size exact drawable = λ t m st fit is.
    let page : HasSize c.shadow.rows c.shadow.columns v =
    subst (λ n. HasSize n c.shadow.columns v) last
    (subst (λ (box : Rect). HasSize (r.status.line + 1) box.columns v) rects.status_is size) in
    granted_is t s m c st is r rects parts status v each inside (shown t st fit)
    (says t m st fit is) page (exact m.layout.shape m.rows m.columns) (drawable m.layout.shape m.rows m.columns)
view_is s c r parts status (Err e) rects each inside last shown says size exact drawable = tt

-- the view of the client with the serial
pub view_there : (t : Tables) (c : Client) (o : Option model.Client) (v : View)
    → BothOrNone ClientStands o (Some c) → ((m : model.Client) → ClientStands m c → IsGranted t m v)
    → ViewOf t o (Ok v)
view_there t c None v both is = absurd both
view_there t c (Some m) v both is = is m both

-- a page of a client's size is one of a grid
pub page_sized : (rows columns : ℕ) (r : Rect) → is_client_size rows columns ≡ true
    → r ≡ status_of rows columns → IsGridSize (r.line + 1) r.columns
page_sized rows columns r sized is =
    let a = both_true (nat_le 4 rows && nat_le rows 200 && nat_le 20 columns) (nat_le columns 300) sized in
    let b = both_true (nat_le 4 rows && nat_le rows 200) (nat_le 20 columns) a.0 in
    let d = both_true (nat_le 4 rows) (nat_le rows 200) b.0 in
    let high : 4 ≤ rows = leb-true 4 rows d.0 in
    let low : rows ≤ 200 = leb-true rows 200 d.1 in
    let wide : 20 ≤ columns = leb-true 20 columns b.1 in
    let narrow : columns ≤ 300 = leb-true columns 300 a.1 in
    subst (λ (it : Rect). IsGridSize (it.line + 1) it.columns) (sym is) (record {
      least_rows = omega (arith, high);
      most_rows = omega (arith, high, low);
      least_columns = omega (arith, wide);
      most_columns = narrow;
    })
