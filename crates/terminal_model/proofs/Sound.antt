-- Every effect keeps a screen sound.
use Rattle.terminal_model.proofs.Vocabulary.{◌≡◌, ℕ, ◌<◌, Bool, true, false, List, [], ◌∷◌, length, map, Option, arith}
use Rattle.terminal_model.proofs.Vocabulary.{IfSome, option_map, length-map-range_with_len, common_steps, length-map}
use Rattle.terminal_model.proofs.Vocabulary.{length-replicate, length-set, nat_tests, IsPaired, line_at, IsPage}
use Rattle.terminal_model.proofs.Vocabulary.{IsGridSize, line_resized, IsPage-page_from, IsPaired-nil}
use Rattle.terminal_model.proofs.Vocabulary.{length-line_resized, Func, Action, Page, Screen, blank_page, starting}
use Rattle.terminal_model.proofs.Vocabulary.{starting_tabs, IsInside, AreKept, IsSound, actions_of}
use Rattle.terminal_model.specs.declared.action.Action.TheVariants as acts
use Rattle.terminal_model.specs.declared.action.Mode.TheVariants as modes
use Rattle.terminal_model.specs.declared.state.Saved.{Saved}
use Rattle.terminal_model.specs.Erasing
use Rattle.terminal_model.specs.Sizing
use Rattle.terminal_model.specs.Table
use Rattle.terminal_model.proofs.Items.{item-mapped}
use Rattle.terminal_model.proofs.Resizes.{IsPaired-line_resized, IsPage-page_resized}
use Rattle.terminal_model.proofs.SoundPrinting.{with-page, IsSound-indexed, IsSound-reverse_indexed, wrapped-sound}
use Rattle.terminal_model.proofs.SoundPrinting.{printed-sound}

pub IsPage-blank : (rows columns : ℕ) → IsPage rows columns (blank_page rows columns)
IsPage-blank rows columns = grind (arith, common_steps)

-- lines that come in or go out at the cursor
inserted-sound : (b : Bool) (n : ℕ) (x : Screen) → IsSound x → IsSound (Erasing.lines_inserted b n x)
inserted-sound true n x h = with-page x _ _ h (grind arith) (search (IsPage-page_from, h))
inserted-sound false n x h = with-page x _ _ h (grind arith) h.sized

deleted-sound : (b : Bool) (n : ℕ) (x : Screen) → IsSound x → IsSound (Erasing.lines_deleted b n x)
deleted-sound true n x h = with-page x _ _ h (grind arith) (search (IsPage-page_from, h))
deleted-sound false n x h = with-page x _ _ h (grind arith) h.sized

pub tabs-start : (columns : ℕ) → length (starting_tabs columns) ≡ columns
tabs-start columns = length-map-range_with_len _ 0 columns

ruleset pages = (IsPage-page_from)

pub IsSound-acted : (x : Screen) (a : Action) → IsSound x → IsSound (Table.acted x a)
unfolding Table.acted_from
IsSound-acted x (acts.Print u) h = grind (arith, printed-sound)
IsSound-acted x acts.LineFeed h = IsSound-indexed _ (with-page x _ _ h (grind (arith, nat_tests)) h.sized)
IsSound-acted x acts.Index h = IsSound-indexed x h
IsSound-acted x acts.NextLine h = wrapped-sound true x h
IsSound-acted x acts.ReverseIndex h = IsSound-reverse_indexed x h
IsSound-acted x acts.SetTab h = grind (arith, length-set)
IsSound-acted x acts.ClearTab h = grind (arith, length-set)
IsSound-acted x acts.ClearTabs h = grind (arith, length-replicate)
IsSound-acted x acts.Save h = grind arith
IsSound-acted x acts.Reset h = grind (arith, common_steps, IsPage-blank, tabs-start)
IsSound-acted x acts.SoftReset h = grind arith
IsSound-acted x acts.BlankPage h = grind (arith, nat_tests, IsPage-blank x.state.rows x.state.columns)
IsSound-acted x (acts.SetMargins top last) h = grind (arith, nat_tests)
IsSound-acted x (acts.InsertLines n) h = inserted-sound (Erasing.is_in_margins x.state) n x h
IsSound-acted x (acts.DeleteLines n) h = deleted-sound (Erasing.is_in_margins x.state) n x h
IsSound-acted x (acts.SetMode modes.Origin on) h = with-page x _ _ h (grind (arith, nat_tests)) h.sized
IsSound-acted x a h = with-page x _ _ h (grind (arith, nat_tests)) (search (pages, h))

pub IsSound-effect : (x : Screen) (f : Func) → IsSound x → IsSound (Table.effect x f)
IsSound-effect x f h = all x (actions_of f) h
  where
    all : (x : Screen) (actions : List Action) → IsSound x → IsSound (Table.all_acted x actions)
    all x [] h = h
    all x (a ∷ later) h = all (Table.acted x a) later (IsSound-acted x a h)

pub IsSound-starting : (rows columns keep : ℕ) → IsGridSize rows columns → IsSound (starting rows columns keep)
IsSound-starting rows columns keep g = grind (arith, IsPage-blank rows columns, tabs-start columns, IsPaired-nil)

-- a change of size

resized-saved : (rows columns : ℕ) (p : Option Saved) → 0 < rows → 0 < columns
    → IfSome (option_map (Sizing.saved_resized rows columns) p) (λ q. IsInside rows columns q.line q.column)
resized-saved rows columns p h k = grind (arith, nat_tests)

resized-kept : (columns : ℕ) (kept : Page) → ((n : ℕ) → IsPaired (line_at kept n))
    → AreKept columns (map (line_resized columns) kept)
resized-kept columns kept paired = record {
  width = λ n h. grind (arith, common_steps, length-line_resized columns (line_at kept n));
  paired = λ n. item-mapped IsPaired (line_resized columns) kept [] n
      (IsPaired-line_resized columns (line_at kept n) (paired n)) IsPaired-nil;
}

pub IsSound-resized : (rows columns : ℕ) (x : Screen) → IsGridSize rows columns → IsSound x
    → IsSound (Sizing.resized rows columns x)
unfolding Sizing.resized
IsSound-resized rows columns x g h =
    let page = IsPage-page_resized rows columns x.page h.sized.paired in
    let kept = resized-kept columns x.kept h.kept.paired in
    grind (arith, page, kept, tabs-start columns, resized-saved rows columns x.saved, length-map)
