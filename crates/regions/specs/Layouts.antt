-- What a layout is to its callers.
use Rattle.std.specs.Prelude.{◌≡◌, ℕ, ◌+◌, ◌<◌, ◌≤◌, ◌==◌, Bool, false, if◌then◌else◌, List, [], ◌∷◌, length, map}
use Rattle.std.specs.Prelude.{slice_get, slice_set, Option, Some, None, unwrap_or}
use Rattle.std.specs.List.{insert, remove}
use Rattle.std.specs.Coded.{Coded, code_by, coded×, coded_list, coded_ℕ, coded_option}
use Rattle.std.proofs.Common.{refl, ap}
use Rattle.regions.specs.declared.layout.Shown.{Shown}
use Rattle.regions.specs.declared.node.Way.{Way}
use Rattle.regions.specs.declared.layout.RegionFault.{RegionFault}
use Rattle.regions.specs.declared.layout.RegionFault.TheVariants.{TooSmall, TooMany, NoMemory}
use Rattle.regions.specs.Shapes.{Shape, region, regions, split_at, without, after}
use Rattle.regions.specs.Pages.{has_room}
use Rattle.regions.specs.Codes.{shape_code}

-- A shape, and beside it what each region shows, in the order of the splits.
pub record Arrangement : Type 0 where
  pub shape : Shape
  pub focus : ℕ
  pub shown : List Shown

-- Each of the 1 to 16 regions of the shape shows something, and one of them has the focus.
abbrev pub IsLaidOut : Shape → ℕ → List Shown → Type 0
IsLaidOut s focus shown =
    (regions s ≡ length shown) × (focus < length shown) × (length shown ≤ 16)

abbrev pub empty : Shown
empty = record { window = None; back = 0 }

abbrev pub one_region : Shown → Arrangement
one_region s = record { shape = region; focus = 0; shown = s ∷ [] }

-- the focused region, with the page to itself
abbrev pub kept_alone : Arrangement → Arrangement
kept_alone l = one_region (unwrap_or (slice_get l.shown l.focus) empty)

-- the arrangement after the focused region was made to show this
abbrev pub put_in_focus : Shown → Arrangement → Arrangement
put_in_focus s l = record l { shown = slice_set l.shown l.focus s }

-- the arrangement on a page of this size: if a region would be too small, the focused region gets
-- the page to itself
abbrev pub resized : ℕ → ℕ → Arrangement → Arrangement
resized rows columns l = if has_room l.shape rows columns then l else kept_alone l

-- the focused region is split: it becomes the first half and keeps the focus; the second half is
-- new and empty
abbrev pub split_focused : Way → Arrangement → Arrangement
split_focused way l = record {
  shape = split_at way l.focus l.shape;
  focus = l.focus;
  shown = insert l.shown (l.focus + 1) empty;
}

-- the focus goes to the next region: after a split, this is the second half
abbrev pub second_focused : Arrangement → Arrangement
second_focused l = record l { focus = l.focus + 1 }

-- the focused region is closed: its sibling gets its room, and the sibling's first region gets the
-- focus
abbrev pub remove_focused : Arrangement → Arrangement
remove_focused l = record {
  shape = without l.focus l.shape;
  focus = after l.focus l.shape;
  shown = remove l.shown l.focus;
}

-- the next region in the order of the splits; after the last, the first
abbrev pub next_focus : Arrangement → ℕ
next_focus l = if l.focus + 1 == length l.shown then 0 else l.focus + 1

-- why a split is refused: there may be at most 16 regions, and each needs room
abbrev pub split_fault : Way → Arrangement → ℕ → ℕ → Option RegionFault
split_fault way l rows columns =
    if length l.shown == 16 then Some TooMany
    else (if has_room (split_at way l.focus l.shape) rows columns then None else Some TooSmall)

-- why a split failed: it is refused, or memory was refused
abbrev pub split_error : Way → Arrangement → ℕ → ℕ → RegionFault
split_error way l rows columns = unwrap_or (split_fault way l rows columns) NoMemory

-- the split isn't refused, and was done
abbrev pub IsSplit : Way → ℕ → ℕ → Arrangement → Arrangement → Type 0
IsSplit way rows columns old new =
    (split_fault way old rows columns ≡ None) × (new ≡ split_focused way old)

abbrev pub shows : ℕ → Option ℕ → Bool
shows serial None = false
shows serial (Some window) = window == serial

-- what a region shows after this window was closed: nothing, if it showed the window
abbrev pub emptied : ℕ → Shown → Shown
emptied serial s = if shows serial s.window then record s { window = None } else s

-- ---- arrangements as tuples, by which a proof tells them apart

abbrev pub shown_pair : Shown → Option ℕ × ℕ
shown_pair s = (s.window, s.back)

abbrev pub pair_shown : Option ℕ × ℕ → Shown
pair_shown p = record { window = p.0; back = p.1 }

pub shown_back : (l : List Shown) → map pair_shown (map shown_pair l) ≡ l
shown_back [] = refl
shown_back (s ∷ l) = ap (λ (xs : List Shown). s ∷ xs) (shown_back l)

abbrev pub pair_code : Coded (Option ℕ × ℕ)
pair_code = coded× (coded_option coded_ℕ) coded_ℕ

abbrev pub arrangement_code : Coded Arrangement
arrangement_code = code_by (Shape × (ℕ × List (Option ℕ × ℕ)))
    (coded× shape_code (coded× coded_ℕ (coded_list pair_code)))
    (λ s. (s.shape, (s.focus, map shown_pair s.shown)))
    (λ p. record { shape = p.0; focus = p.1.0; shown = map pair_shown p.1.1 })
    (λ s. ap (λ (l : List Shown). record s { shown = l }) (shown_back s.shown))
