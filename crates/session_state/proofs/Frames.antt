-- A frame that begins with what a shadow knows is a frame after all that was delivered.
use Rattle.std.proofs.Common.{◌≡◌, ℕ, ◌+◌, List, [], ◌∷◌, ◌++◌, Option, Some, None, refl, ap, sym, subst, ◌∙◌}
use Rattle.std.specs.Prelude.{MatchOption}
use Rattle.std.specs.List.{AllByRecursion}
use Rattle.std.proofs.lemmas.List.{append-nil}
use Rattle.terminal_model.specs.Screen.{Page}
use Rattle.terminal_model.specs.Reading.{Terminal, Act, reads}
use Rattle.terminal_model.specs.Shows.{View, IsOfSize, seen_at}
use Rattle.terminal_model.specs.Drawing.{Draws, AreSpelled, Agrees, IsSpare, PrintsNew, unit_of}
use Rattle.redraw.specs.Frames.{Redraws}
use Rattle.session_model.specs.Framed.{IsFrame, acts_behind}
use Rattle.session_state.specs.Clients.{WasDelivered}
use Rattle.session_state.proofs.Keeping.{reads_none}

-- ---- a page that looks the same

module _ (shown page new : Page) (same : (line column : ℕ) → seen_at shown line column ≡ seen_at page line column) where
  prints_new : (a : Act) → PrintsNew page new a → PrintsNew shown new a
  prints_new a p = record {
    character = p.character;
    place = p.place;
    prints = p.prints;
    further = p.further;
    taken = p.taken;
    differs = λ e. p.differs (sym (same p.place.line (p.place.column + p.further)) ∙ e);
  }

  spare_by : {U : Type 0} (o : Option U) (a : Act) → MatchOption o (Prim.Unit {0}) (λ u. PrintsNew page new a)
      → MatchOption o (Prim.Unit {0}) (λ u. PrintsNew shown new a)
  spare_by None a is = tt
  spare_by (Some u) a is = prints_new a is

  all_spare : (acts : List Act) → AllByRecursion (IsSpare page new) acts → AllByRecursion (IsSpare shown new) acts
  all_spare [] all = tt
  all_spare (a ∷ acts) all = (spare_by (unit_of a.func) a all.0, all_spare acts all.1)

  draws_on : (acts : List Act) → Draws page new acts → Draws shown new acts
  draws_on acts d = record { discreet = d.discreet; spare = all_spare acts d.spare }

-- ---- the first frame, and a later one

first_frame : (rows columns : ℕ) (v : View) (bytes : List ℕ) → Redraws rows columns None v bytes
    → IsFrame rows columns [] v bytes
unfolding reads
first_frame rows columns v bytes r = record
    { rest = r.rest; begins = r.begins; draws = λ t is. r.draws t is; spelled = λ t is. r.spelled t is }

same_acts : (t : Terminal) (before rest : List ℕ)
    → (reads (reads (reads t before).terminal []).terminal rest).acts ≡ acts_behind t (before ++ []) rest
same_acts t before rest = ap (λ (r : Terminal). (reads r rest).acts)
    (ap (λ r. r.terminal) (reads_none (reads t before).terminal))
    ∙ sym (ap (λ bs. acts_behind t bs rest) (append-nil before))

next_frame : (rows columns : ℕ) (known v : View) (b : ℕ) (before bytes : List ℕ)
    → ((t : Terminal) → IsOfSize rows columns t → Agrees rows columns (Some known) (reads t (b ∷ before)).terminal)
    → Redraws rows columns (Some known) v bytes → IsFrame rows columns (b ∷ before) v bytes
next_frame rows columns known v b before bytes agrees r = record {
  rest = r.rest;
  begins = r.begins;
  draws = λ t is.
      let u : Terminal = (reads t (b ∷ before)).terminal in
      draws_on u.screen.page known.page v.page (agrees t is).1.shows.cells (acts_behind t ((b ∷ before) ++ []) r.rest)
      (subst (λ acts. Draws known.page v.page acts) (same_acts t (b ∷ before) r.rest) (r.draws u (agrees t is)));
  spelled = λ t is. subst (λ acts. AreSpelled r.rest acts) (same_acts t (b ∷ before) r.rest)
      (r.spelled (reads t (b ∷ before)).terminal (agrees t is));
}

pub frame_behind : (rows columns : ℕ) (known : Option View) (v : View) (before bytes : List ℕ)
    → WasDelivered known before
    → ((t : Terminal) → IsOfSize rows columns t → Agrees rows columns known (reads t before).terminal)
    → Redraws rows columns known v bytes → IsFrame rows columns before v bytes
frame_behind rows columns None v before bytes fresh agrees r = subst (λ bs. IsFrame rows columns bs v bytes) (sym fresh)
    (first_frame rows columns v bytes r)
frame_behind rows columns (Some known) v [] bytes some agrees r = absurd (some refl)
frame_behind rows columns (Some known) v (b ∷ before) bytes some agrees r = next_frame rows columns known v b before
    bytes agrees r

-- ---- something was delivered then

some_behind : (before bytes : List ℕ) → (before ≡ [] → ⊥) → before ++ bytes ≡ [] → ⊥
some_behind [] bytes some none = some refl
some_behind (b ∷ before) bytes some none = absurd cc

pub then_delivered : (rows columns : ℕ) (known : Option View) (v : View) (before bytes : List ℕ)
    → WasDelivered known before → Redraws rows columns known v bytes → before ++ bytes ≡ [] → ⊥
then_delivered rows columns None v before bytes fresh r none = absurd
    (cc (sym none ∙ ap (λ bs. bs ++ bytes) fresh ∙ r.begins))
then_delivered rows columns (Some known) v before bytes some r none = some_behind before bytes some none
