-- A frame that a client's terminal reads draws its view, and no frame is needed if the view is shown.
use Rattle.session_state.proofs.Vocabulary.{◌≡◌, ℕ, List, [], ◌++◌, length, Option, Some, None, refl, ap, sym, ◌∙◌}
use Rattle.session_state.proofs.Vocabulary.{subst, MutBor, OnSome, option_copied_mut, append-nil, Terminal, Knowledge}
use Rattle.session_state.proofs.Vocabulary.{row_of, with_row, Client, AreClients, ClientStands, Finds, BothOrNone}
use Rattle.std.specs.Option.{IfNone}
use Rattle.cells.specs.Page.{IsPage, IsGrid}
use Rattle.terminal_model.specs.Screen.{Screen}
use Rattle.terminal_model.specs.Reading.{reads, joined}
use Rattle.terminal_model.specs.Shows.{View, Shows, ShowsCursor, IsOfSize, ShowsFromAny, LooksLike, NeedsDraw}
use Rattle.terminal_model.specs.Shows.{NeedsNoDraw}
use Rattle.terminal_model.specs.Drawing.{Agrees}
use Rattle.terminal_model.proofs.Readings.{reads-append}
use Rattle.view.specs.View.{HasSize}
use Rattle.view.specs.Drawable.{IsDrawable}
use Rattle.redraw.specs.Frames.{Redraws, CanBeShown, DrawsFrame}
use Rattle.session_model.specs.Framed.{IsFrame}
use Rattle.session_model.specs.Tables as model
use Rattle.session_state.specs.Clients.{IsScreen}
use Rattle.session_state.specs.Draws.{ShowsAlready, Draws, LeadsFrom}
use Rattle.session_state.proofs.Changing.{model_serial, serial_of, lent_at, found, found_none, changed}
use Rattle.session_state.proofs.Frames.{frame_behind, then_delivered}

-- ---- what is known

-- a screen that shows a view shows each that looks like it
shows_alike : (a b : View) (x : Screen) → LooksLike a b
    → IsPage x.state.rows x.state.columns b.page → Shows a x → Shows b x
shows_alike a b x alike size s = record {
  size = size;
  cells = λ l c. s.cells l c ∙ alike.cells l c;
  upright = s.upright;
  cursor = subst (λ p. ShowsCursor p x) alike.cursor s.cursor;
  arrows = s.arrows ∙ alike.arrows;
  keypad = s.keypad ∙ alike.keypad;
}

-- a view's page on a screen of its size
page_fits : (rows columns : ℕ) (v : View) (x : Screen) → IsGrid v.page → HasSize rows columns v
    → x.state.rows ≡ rows → x.state.columns ≡ columns
    → IsPage x.state.rows x.state.columns v.page
page_fits rows columns v x grid size rows_are columns_are =
    subst (λ r. IsPage r x.state.columns v.page) (size.rows_are ∙ sym rows_are)
    (subst (λ c. IsPage (length v.page) c v.page) (size.columns_are ∙ sym columns_are)
    grid.well_formed)

shows_known : (rows columns : ℕ) (known : Option View) (v : View) (t : Terminal)
    → NeedsNoDraw known v → IsGrid v.page → HasSize rows columns v
    → Agrees rows columns known t → Shows v t.screen
shows_known rows columns None v t alike grid size agrees = absurd alike
shows_known rows columns (Some k) v t alike grid size agrees =
    shows_alike k v t.screen alike
    (page_fits rows columns v t.screen grid size agrees.0.rows_are agrees.0.columns_are)
    agrees.1.shows

size_of_row : (m : model.Client) (c : Client) (v : View) → ClientStands m c
    → HasSize c.shadow.rows c.shadow.columns v → HasSize m.rows m.columns v
size_of_row m c v st size = record {
  rows_are = size.rows_are ∙ st.rows_are;
  columns_are = size.columns_are ∙ st.columns_are;
}

needs_then : (m : model.Client) (c : Client) (v : View) → ClientStands m c
    → NeedsDraw c.shadow.known v → NeedsDraw m.drawn v
needs_then m c v st needed =
    subst (λ k. NeedsDraw k v) st.known_is needed

-- nothing has to be drawn
shows_already : (m : model.Client) (c : Client) (v : View) → ClientStands m c
    → HasSize c.shadow.rows c.shadow.columns v → NeedsNoDraw c.shadow.known v → IsGrid v.page
    → ShowsAlready m v
shows_already m c v st size known grid =
    let known_then : NeedsNoDraw m.drawn v =
    subst (λ k. NeedsNoDraw k v) st.known_is known in record {
      needless = known_then;
      shows = λ t is. record {
        shows =
            subst (λ bs. Shows v (reads t bs).terminal.screen) (sym (append-nil m.delivered))
            (shows_known m.rows m.columns m.drawn v (reads t m.delivered).terminal known_then grid
            (size_of_row m c v st size) (st.screen.agrees t is));
        quiet =
            ap (λ bs. (reads t bs).reports) (append-nil m.delivered) ∙ st.screen.quiet t is;
      };
    }

-- ---- a frame

module _ (m : model.Client) (c : Client) (v : View) (bytes : List ℕ) (st : ClientStands m c)
    (drawable : IsDrawable v)
    (redraws : Redraws c.shadow.rows c.shadow.columns c.shadow.known v bytes) where
  redraws_then : Redraws m.rows m.columns m.drawn v bytes
  redraws_then =
      subst (λ k. Redraws m.rows m.columns k v bytes) st.known_is
      (subst (λ r. Redraws r m.columns c.shadow.known v bytes) st.rows_are
      (subst (λ n. Redraws c.shadow.rows n c.shadow.known v bytes) st.columns_are redraws))

  whole : (t : Terminal)
      → reads t (m.delivered ++ bytes)
      ≡ joined (reads t m.delivered) (reads (reads t m.delivered).terminal bytes)
  whole t = reads-append t m.delivered bytes

  agrees_then : (t : Terminal) → IsOfSize m.rows m.columns t
      → Agrees m.rows m.columns (Some v) (reads t (m.delivered ++ bytes)).terminal
  agrees_then t is =
      subst (λ r. Agrees m.rows m.columns (Some v) r.terminal) (sym (whole t))
      (redraws_then.agrees (reads t m.delivered).terminal (st.screen.agrees t is))

  quiet_then : (t : Terminal) → IsOfSize m.rows m.columns t
      → (reads t (m.delivered ++ bytes)).reports ≡ []
  quiet_then t is =
      ap (λ r. r.reports) (whole t)
      ∙ (ap (λ rs. rs ++ (reads (reads t m.delivered).terminal bytes).reports)
      (st.screen.quiet t is)
      ∙ redraws_then.quiet (reads t m.delivered).terminal (st.screen.agrees t is))

  framed : IsFrame m.rows m.columns m.delivered v bytes
  framed =
      frame_behind m.rows m.columns m.drawn v m.delivered bytes st.screen.delivers
      st.screen.agrees redraws_then

  shows_then : ShowsFromAny (m.delivered ++ bytes) m.rows m.columns v
  shows_then t is = record { shows = (agrees_then t is).1.shows; quiet = quiet_then t is }

  screen_then : IsScreen m.rows m.columns (Some v) (m.delivered ++ bytes)
  screen_then = record {
    agrees = agrees_then;
    quiet = quiet_then;
    can_be_shown = λ line lt. (drawable.lines line lt).halves;
    delivers =
        then_delivered m.rows m.columns m.drawn v m.delivered bytes st.screen.delivers redraws_then;
  }

  -- the row knows what was drawn
  keeps_drawn : (d : Client)
      → d ≡ record c { shadow = record c.shadow { known = Some v } }
      → ClientStands (record m { delivered = m.delivered ++ bytes; drawn = Some v }) d
  keeps_drawn d is =
      subst
      (λ (x : Client).
      ClientStands (record m { delivered = m.delivered ++ bytes; drawn = Some v }) x) (sym is)
      (record {
        serial_is = st.serial_is;
        user_is = st.user_is;
        rows_are = st.rows_are;
        columns_are = st.columns_are;
        sized = st.sized;
        keys = st.keys;
        layout_is = st.layout_is;
        last_is = st.last_is;
        former_is = st.former_is;
        room = st.room;
        message_is = st.message_is;
        known_is = refl;
        screen = screen_then;
      })

pub drawn_row : (old inside : List Client) (serial : ℕ) (r : Option (MutBor Client))
    (b : MutBor Client) (lender : Client → List Client) (v : View) (before known : Knowledge)
    (bytes : List ℕ) → inside ≡ old → option_copied_mut r ≡ row_of serial_of inside serial
    → ((w : Client) → OnSome r (lender w ≡ with_row serial_of inside serial w)) → r ≡ Some b
    → (b.now.shadow ≡ before → DrawsFrame b.now.shadow v known bytes) → IsDrawable v
    → LeadsFrom serial old before → Draws serial v bytes old (lender (record b.now { shadow = known }))
drawn_row old inside serial r b lender v before known bytes same at holds is follows drawable leads rows m st there =
    let d : Client = record b.now { shadow = known } in
    let here = lent_at old inside serial r b lender d same at holds is in
    let drawn = follows (leads b.now here.0) in
    let stands : ClientStands m b.now =
    found (λ n. ClientStands n b.now) old inside serial r b same at is (λ n s. s) rows m st
    there in
    let shown : CanBeShown b.now.shadow.known =
    subst (λ k. CanBeShown k) (sym stands.known_is) stands.screen.can_be_shown in
    let frame = drawn.redraws shown drawable in record {
      needed = needs_then m b.now v stands drawn.needed;
      frame = framed m b.now v bytes stands drawable frame;
      shows = shows_then m b.now v bytes stands drawable frame;
      stands =
          changed
          (λ (n : model.Client). record n { delivered = n.delivered ++ bytes; drawn = Some v })
          old (lender d) serial b.now d here.0 here.1
          (λ n s. keeps_drawn n b.now v bytes s drawable frame d
          (ap (λ (k : Knowledge). record b.now { shadow = k }) drawn.known)) rows m st there;
    }

-- a row that was looked for
pub found_shows : (clients : List Client) (serial : ℕ) (c : Client) (v : View)
    → ((rows : List model.Client) → AreClients rows clients
    → BothOrNone ClientStands (row_of model_serial rows serial) (Some c))
    → HasSize c.shadow.rows c.shadow.columns v → NeedsNoDraw c.shadow.known v → IsGrid v.page
    → Finds serial clients (λ m. ShowsAlready m v)
found_shows clients serial c v stands size known grid rows m are at =
    shows_already m c v
    (subst (λ o. BothOrNone ClientStands o (Some c)) at (stands rows are)) size known grid

pub nobody_drawn : (old inside new : List Client) (serial : ℕ) (r : Option (MutBor Client)) (v : View)
    (bytes : List ℕ) → inside ≡ old → option_copied_mut r ≡ row_of serial_of inside serial → r ≡ None
    → Draws serial v bytes old new
nobody_drawn old inside new serial r v bytes same at is rows m st there =
    absurd (found_none (λ n. ⊥) old inside serial r same at is rows m st there)

pub none_then : {A P Q : Type 0} (o : Option A) → (P → Q) → IfNone o P → IfNone o Q
none_then None f p = f p
none_then (Some x) f p = tt
