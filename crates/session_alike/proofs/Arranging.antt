-- Arrangements under other serials.
use Rattle.session_alike.proofs.Vocabulary.{◌≡◌, ℕ, suc, ◌+◌, List, ◌∷◌, Option, Some, None, refl, ap, ◌∙◌, sym, map}
use Rattle.session_alike.proofs.Vocabulary.{length, take, drop, if◌then◌else◌, ◌==◌, slice_get, slice_set, unwrap_or}
use Rattle.session_alike.proofs.Vocabulary.{insert, remove, option_map, Shown, Way, Arrangement, empty, kept_alone}
use Rattle.session_alike.proofs.Vocabulary.{next_focus, one_region, remove_focused, split_fault, split_focused}
use Rattle.session_alike.proofs.Vocabulary.{Renaming, layout_as, shown_as, map_append, slice_get-map}
use Rattle.std.proofs.lemmas.List.{drop-map, length-map, map-set, take-map}

module _ (n : Renaming) where
  pub shown_count : (l : Arrangement) → length (map (shown_as n) l.shown) ≡ length l.shown
  shown_count l = length-map l.shown (shown_as n)

  insert_as : (ss : List Shown) (i : ℕ) (s : Shown)
      → insert (map (shown_as n) ss) i (shown_as n s) ≡ map (shown_as n) (insert ss i s)
  insert_as ss i s =
      map_append (shown_as n) (take i ss) (s ∷ drop i ss) _ _ (take-map (shown_as n) i ss)
      (ap (λ xs. shown_as n s ∷ xs) (drop-map (shown_as n) i ss))

  remove_as : (ss : List Shown) (i : ℕ) → remove (map (shown_as n) ss) i ≡ map (shown_as n) (remove ss i)
  remove_as ss i =
      map_append (shown_as n) (take i ss) (drop (suc i) ss) _ _ (take-map (shown_as n) i ss)
      (drop-map (shown_as n) (suc i) ss)

  or_empty : (o : Option Shown) → unwrap_or (option_map (shown_as n) o) empty ≡ shown_as n (unwrap_or o empty)
  or_empty None = refl
  or_empty (Some s) = refl

  pub in_focus_as : (l : Arrangement)
      → unwrap_or (slice_get (map (shown_as n) l.shown) l.focus) empty
      ≡ shown_as n (unwrap_or (slice_get l.shown l.focus) empty)
  in_focus_as l =
      ap (λ o. unwrap_or o empty) (slice_get-map (shown_as n) l.shown l.focus) ∙ or_empty (slice_get l.shown l.focus)

  pub alone_as : (l : Arrangement) → kept_alone (layout_as n l) ≡ layout_as n (kept_alone l)
  alone_as l = ap one_region (in_focus_as l)

  pub split_as : (way : Way) (l : Arrangement)
      → split_focused way (layout_as n l) ≡ layout_as n (split_focused way l)
  split_as way l = ap (λ ss. record (split_focused way l) { shown = ss }) (insert_as l.shown (l.focus + 1) empty)

  pub removed_as : (l : Arrangement) → remove_focused (layout_as n l) ≡ layout_as n (remove_focused l)
  removed_as l = ap (λ ss. record (remove_focused l) { shown = ss }) (remove_as l.shown l.focus)

  pub next_as : (l : Arrangement)
      → record (layout_as n l) { focus = next_focus (layout_as n l) } ≡ layout_as n (record l { focus = next_focus l })
  next_as l = ap (λ count. record (layout_as n l) { focus = if l.focus + 1 == count then 0 else l.focus + 1 })
      (shown_count l)

  pub put_as : (l : Arrangement) (s : Shown)
      → record (layout_as n l) { shown = slice_set (map (shown_as n) l.shown) l.focus (shown_as n s) }
      ≡ layout_as n (record l { shown = slice_set l.shown l.focus s })
  put_as l s = ap (λ ss. record (layout_as n l) { shown = ss }) (sym (map-set (shown_as n) l.shown l.focus s))

  pub fault_as : (way : Way) (l : Arrangement) (rows columns : ℕ)
      → split_fault way (layout_as n l) rows columns ≡ split_fault way l rows columns
  fault_as way l rows columns =
      ap (λ count. if count == 16 then Some Rattle.regions.specs.declared.layout.RegionFault.TheVariants.TooMany
      else (if Rattle.regions.specs.Pages.has_room (Rattle.regions.specs.Shapes.split_at way l.focus l.shape) rows
      columns then None else Some Rattle.regions.specs.declared.layout.RegionFault.TheVariants.TooSmall))
      (shown_count l)
