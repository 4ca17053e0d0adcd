-- Clients to whom a view is drawn.
use Rattle.std.specs.Prelude.{◌≡◌, ℕ, List, [], ◌++◌, Some}
use Rattle.terminal_model.specs.Shows.{View, ShowsFromAny, NeedsDraw, NeedsNoDraw}
use Rattle.redraw.specs.Shadow.{Knowledge}
use Rattle.view.specs.View.{HasSize}
use Rattle.session_model.specs.Framed.{IsFrame}
use Rattle.session_model.specs.Tables as model
use Rattle.session_model.specs.Tables.{row_of, with_row}
use Rattle.session_state.specs.declared.client.Client.{Client}
use Rattle.session_state.specs.Clients.{AreClients}

-- no draw is needed: all that was delivered shows the view
pub record ShowsAlready (m : model.Client) (v : View) : Type 0 where
  pub needless : NeedsNoDraw m.drawn v
  pub shows : ShowsFromAny (m.delivered ++ []) m.rows m.columns v

-- if the client is there: what is known of its terminal is what a frame begins with
abbrev pub LeadsFrom : ℕ → List Client → Knowledge → Type 0
LeadsFrom serial clients before =
    (c : Client) → row_of (λ (d : Client). d.serial) clients serial ≡ Some c → c.shadow ≡ before

-- if the client is there: its terminal has the view's size
abbrev pub FitsIn : ℕ → List Client → View → Type 0
FitsIn serial clients v =
    (c : Client) → row_of (λ (d : Client). d.serial) clients serial ≡ Some c
    → HasSize c.shadow.rows c.shadow.columns v

-- A draw is needed, and these bytes are a frame of the view. Every terminal of the client's size that
-- reads all that was delivered, and then the frame, shows the view; and the row knows that.
pub record Draw (serial : ℕ) (v : View) (bytes : List ℕ) (rows : List model.Client)
    (m : model.Client) (new : List Client) : Type 0 where
  pub needed : NeedsDraw m.drawn v
  pub frame : IsFrame m.rows m.columns m.delivered v bytes
  pub shows : ShowsFromAny (m.delivered ++ bytes) m.rows m.columns v
  pub stands : AreClients
      (with_row (λ (c : model.Client). c.serial) rows serial
      (record m { delivered = m.delivered ++ bytes; drawn = Some v })) new

abbrev pub Draws : ℕ → View → List ℕ → List Client → List Client → Type 0
Draws serial v bytes old new =
    (rows : List model.Client) (m : model.Client) → AreClients rows old
    → row_of (λ (c : model.Client). c.serial) rows serial ≡ Some m
    → Draw serial v bytes rows m new
