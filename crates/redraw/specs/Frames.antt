-- What a frame does to each terminal that agrees with a shadow.
use Rattle.std.specs.Prelude.{◌≡◌, ◌⊎◌, ℕ, true, false, List, [], ◌++◌, length, Option, Some, None, IfSome, IfNone}
use Rattle.cells.specs.Line.{plain}
use Rattle.cells.specs.Page.{line_at, IsGrid}
use Rattle.terminal_model.specs.declared.state.Position.{Position}
use Rattle.terminal_model.specs.Screen.{Page, Screen, blank_page}
use Rattle.terminal_model.specs.Reading.{Terminal, Act, reads}
use Rattle.terminal_model.specs.Shows.{View, NeedsDraw, NeedsNoDraw}
use Rattle.terminal_model.specs.Drawing.{frame_bytes, Draws, AreSpelled, Agrees}
use Rattle.terminal_model.specs.Drawable.{HaveHalves}
use Rattle.draw_check.specs.Functions.{AreDraws}
use Rattle.redraw.specs.declared.pen.Pen.{Pen}
use Rattle.view.specs.Drawable.{IsDrawable}
use Rattle.view.specs.View.{HasSize}
use Rattle.redraw.specs.Shadow.{Knowledge}
use Rattle.redraw.specs.Drawing.{Takes, Stage, ShowsView}
use Rattle.redraw.specs.Steps.{Bytes}

-- a frame begins with the reset exactly if nothing is known of the terminal
abbrev pub beginning : Option View → List ℕ
beginning None = frame_bytes
beginning (Some v) = []

-- the page on which is drawn: the one that was shown, or the reset's blank page
abbrev pub page_before : ℕ → ℕ → Option View → Page
page_before rows columns None = blank_page rows columns
page_before rows columns (Some v) = v.page

-- a terminal can show the view that is known, if one is
abbrev pub CanBeShown : Option View → Type 0
CanBeShown None = Prim.Unit {0}
CanBeShown (Some v) = HaveHalves v.page

-- the acts of a terminal that reads the rest of a frame, after the frame's beginning
abbrev pub acts_behind : Option View → Terminal → List ℕ → List Act
acts_behind known t rest = (reads (reads t (beginning known)).terminal rest).acts

-- Each terminal that agrees with what is known reads the frame, and then shows the view, agrees
-- with it, and has answered nothing. The frame consists of functions that draws use; what follows
-- its beginning is discreet and spare, and contains no string.
pub record Redraws (rows columns : ℕ) (known : Option View) (v : View) (frame : List ℕ)
    : Type 0 where
  pub rest : List ℕ
  pub begins : frame ≡ beginning known ++ rest
  pub agrees : (t : Terminal) → Agrees rows columns known t
      → Agrees rows columns (Some v) (reads t frame).terminal
  pub quiet : (t : Terminal) → Agrees rows columns known t → (reads t frame).reports ≡ []
  pub draws : (t : Terminal) → Agrees rows columns known t
      → Draws (page_before rows columns known) v.page (acts_behind known t rest)
  pub spelled : (t : Terminal) → Agrees rows columns known t
      → AreSpelled rest (acts_behind known t rest)
  pub used : (t : Terminal) → Agrees rows columns known t → AreDraws frame

-- what is known of the pen if the cursor is shown at a place, or is hidden
abbrev pub pen_of : Option Position → Pen
pen_of None = record { line = None; column = None; rendition = None }
pen_of (Some p) = record { line = Some p.line; column = Some p.column; rendition = None }

-- a screen after a frame; nothing is required of the place of its pen
abbrev pub EndsAs : ℕ → ℕ → View → Screen → Type 0
EndsAs rows columns v y = ShowsView rows columns (pen_of None) v y

-- a screen that shows a view, as a frame leaves it
abbrev pub Begins : ℕ → ℕ → View → Screen → Type 0
Begins rows columns old x = ShowsView rows columns (pen_of old.cursor) old x

-- the bytes that lead from one view to another were appended
abbrev pub NextBytes : View → View → List ℕ → List ℕ → Type 0
NextBytes old v before after =
    let rows : ℕ = length v.page in
    let columns : ℕ = length (line_at v.page 0) in
    Takes old.page v.page (Begins rows columns old) (λ x y. EndsAs rows columns v y) before after

-- a screen, as the reset leaves it
abbrev pub IsReset : ℕ → ℕ → Screen → Type 0
IsReset rows columns =
    let pen : Pen = record { line = Some 0; column = Some 0; rendition = Some plain } in
    Stage rows columns pen (blank_page rows columns) false false true

-- the bytes that lead from the reset's blank page to a view were appended
abbrev pub BytesBehindReset : View → List ℕ → List ℕ → Type 0
BytesBehindReset v before after =
    let rows : ℕ = length v.page in
    let columns : ℕ = length (line_at v.page 0) in
    Takes (blank_page rows columns) v.page (IsReset rows columns) (λ x y. EndsAs rows columns v y)
    before after

-- the bytes that begin with the reset and lead to a view were appended
pub record FirstBytes (v : View) (before after : List ℕ) : Type 0 where
  pub middle : List ℕ
  pub resets : middle ≡ before ++ frame_bytes
  pub paints : BytesBehindReset v middle after

abbrev pub DrawsBytes : Option View → View → List ℕ → List ℕ → Type 0
DrawsBytes None v before after = FirstBytes v before after
DrawsBytes (Some old) v before after = NextBytes old v before after

-- the terminal was known to show the view, and nothing changes
pub record DrawsNothing (old : Knowledge) (v : View) (new : Knowledge) : Type 0 where
  pub known : NeedsNoDraw old.known v
  pub grid : IsGrid v.page
  pub same : new ≡ old

-- the view has to be drawn, the bytes draw it, and after them the terminal is known to show it
pub record DrawsFrame (old : Knowledge) (v : View) (new : Knowledge) (bytes : List ℕ) : Type 0 where
  pub needed : NeedsDraw old.known v
  pub redraws : CanBeShown old.known → IsDrawable v → Redraws old.rows old.columns old.known v bytes
  pub known : new ≡ record old { known = Some v }

-- ---- results that may have a frame

-- If a terminal can show both views, the bytes lead from the one to the other.
abbrev pub DrawsNext : View → View → Bytes → Bytes → Type 0
DrawsNext old v before after =
    HaveHalves old.page → IsDrawable v → NextBytes old v before.items after.items

-- If there are bytes, the view had to be drawn.
abbrev pub IsNeeded : Option View → View → Option Bytes → Type 0
IsNeeded known v frame = IfSome frame (λ bytes. NeedsDraw known v)

-- If there are bytes, and a terminal can show the view and what is known, the bytes draw the view.
abbrev pub BytesDraw : Option View → View → Option Bytes → Type 0
BytesDraw known v frame =
    IfSome frame (λ bytes. CanBeShown known → IsDrawable v → DrawsBytes known v [] bytes.items)

-- If there is no frame, the terminal is known to show the view, and nothing changes.
abbrev pub SkipsKnown : Knowledge → View → Knowledge → Option Bytes → Type 0
SkipsKnown old v new frame = IfNone frame (DrawsNothing old v new)

-- If there is a frame, the view had to be drawn, the frame draws it, and after it the terminal is
-- known to show it.
abbrev pub FrameDraws : Knowledge → View → Knowledge → Option Bytes → Type 0
FrameDraws old v new frame = IfSome frame (λ bytes. DrawsFrame old v new bytes.items)

-- ---- a frame that several terminals read

-- a frame: what was known before it, the view that it shows, and its bytes
pub record Made : Type 0 where
  pub before : Knowledge
  pub view : View
  pub bytes : List ℕ

-- the view has the terminal's size and has to be drawn, and the bytes draw it
pub record IsFrameFor (before : Knowledge) (v : View) (bytes : List ℕ) : Type 0 where
  pub size : HasSize before.rows before.columns v
  pub draws : DrawsFrame before v (record before { known = Some v }) bytes

-- ---- frames that are appended to bytes

-- the terminal was known to show the view: nothing is appended, and nothing changes
pub record AppendsNothing (old : Knowledge) (v : View) (new : Knowledge) (before after : List ℕ)
    : Type 0 where
  pub known : NeedsNoDraw old.known v
  pub same : new ≡ old
  pub bytes : after ≡ before

-- the view had to be drawn: the appended bytes draw it, and after them the terminal is known to
-- show it
pub record AppendsFrame (old : Knowledge) (v : View) (new : Knowledge) (before after : List ℕ)
    : Type 0 where
  pub frame : List ℕ
  pub appended : after ≡ before ++ frame
  pub draws : DrawsFrame old v new frame

-- nothing had to be appended, or a frame was appended
abbrev pub Appends : Knowledge → View → Knowledge → List ℕ → List ℕ → Type 0
Appends old v new before after =
    AppendsNothing old v new before after ⊎ AppendsFrame old v new before after

-- the terminal's size is unchanged
pub record KeepsTerminalSize (old new : Knowledge) : Type 0 where
  pub rows : new.rows ≡ old.rows
  pub columns : new.columns ≡ old.columns
