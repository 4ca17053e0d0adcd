-- What clients see, proved by computing; what holds of any draw is proved by its definition.
use Rattle.session_laws.proofs.Vocabulary.{◌≡◌, ℕ, Bool, true, List, [], ◌∷◌, ◌++◌, Some, None, refl, ap, sym, ◌∙◌}
use Rattle.session_laws.proofs.Vocabulary.{subst, arith, if◌then◌else◌, ◌==◌, nat_tests, digits, chars, Second}
use Rattle.session_laws.proofs.Vocabulary.{items_from, command_named, ShowsFromAny, LooksLike, NeedsDraw, columns_of}
use Rattle.session_laws.proofs.Vocabulary.{acted_from, writes_all, reads, read_byte, read_units, read_unit, act_all}
use Rattle.session_laws.proofs.Vocabulary.{act, cut, utf8_piece, mapped, character_at, functions_behind, piece}
use Rattle.session_laws.proofs.Vocabulary.{char_width, view_in, Effect, Deliver, unless, refused_if, given, Tables}
use Rattle.session_laws.proofs.Vocabulary.{Client, granted_view, IsFrame, IsDraw, deliveries, Draw, bob, client}
use Rattle.session_laws.proofs.Vocabulary.{several, then_comes, small, after_draw}
use Rattle.terminal_model.specs.Printing.{drawn}
use Rattle.session_laws.specs.WorkedDrawing as rows
use Rattle.session_laws.specs.WorkedDrawing.{resized, seen_by}

pub readable : rows.Readable
unfolding digits items_from command_named unless refused_if given view_in columns_of drawn char_width writes_all reads
    read_byte read_units cut utf8_piece read_unit act_all functions_behind piece act acted_from mapped character_at
    chars
readable = (refl, refl, refl)

pub revoked_blank : rows.Revoked
unfolding digits items_from command_named unless refused_if given view_in columns_of drawn char_width
revoked_blank = (refl, refl, refl)

append_nil : (xs : List ℕ) → xs ++ [] ≡ xs
append_nil [] = refl
append_nil (x ∷ xs) = ap (λ ys. x ∷ ys) (append_nil xs)

-- the first draw of a client to which nothing was delivered before
begins : (t : Tables) (d : Client) (effects : List Effect)
    → let c : Client = record d { delivered = []; drawn = None } in IsDraw t effects c
    → (rest : List ℕ) × (effects ≡ Deliver d.serial (0x18 ∷ 0x1B ∷ 0x63 ∷ 0x1B ∷ 0x25 ∷ 0x47 ∷ rest) ∷ [])
    × ShowsFromAny (0x18 ∷ 0x1B ∷ 0x63 ∷ 0x1B ∷ 0x25 ∷ 0x47 ∷ rest) d.rows d.columns (granted_view t c)
begins t d (Deliver to bytes ∷ []) is =
    let c : Client = record d { delivered = []; drawn = None } in
    let frame : IsFrame d.rows d.columns [] (granted_view t c) bytes = is.drawn.2 in
    let to_it : (to == d.serial) ≡ true = (let e : to ≡ d.serial = is.drawn.0 in grind (arith, nat_tests, e)) in (
      0x1B ∷ 0x5B ∷ 0x3F ∷ 0x37 ∷ 0x6C ∷ frame.rest,
      ap (λ n. Deliver n bytes ∷ []) is.drawn.0 ∙ ap (λ bs. Deliver d.serial bs ∷ []) frame.begins,
      subst (λ bs. ShowsFromAny bs d.rows d.columns (granted_view t c))
          (append_nil (if to == d.serial then bytes else []) ∙ ap (λ (b : Bool). if b then bytes else []) to_it
          ∙ frame.begins) is.shows,
    )
begins t d effects is = absurd is.drawn

pub begins_anew : rows.BeginsAnew
begins_anew bytes v effects is = begins (resized bytes v) small effects is

once : (t u : Tables) (c d : Client) (later : List Effect) → d.drawn ≡ Some (granted_view t c)
    → granted_view u d ≡ granted_view t c → IsDraw u later d → later ≡ []
once t u c d [] was same is = refl
once t u c d (Deliver to bytes ∷ []) was same is =
    absurd
    (subst (λ o. NeedsDraw o (granted_view u d)) was is.drawn.1
    (subst (LooksLike (granted_view t c)) (sym same)
    (record { cells = λ line column. refl; cursor = refl; arrows = refl; keypad = refl })))
once t u c d (f ∷ later) was same is = absurd is.drawn

pub drawn_once : rows.DrawnOnce
drawn_once (Deliver to bytes ∷ []) later is next =
    once (then_comes (several Second) (Draw 2)) (after_draw (several Second) (Deliver to bytes ∷ [])) (client 2 bob 2)
    (record (client 2 bob 2) {
      delivered = deliveries (Deliver to bytes ∷ []) 2;
      drawn = Some
          (seen_by (then_comes (several Second) (Draw 2)));
    }) later refl refl next
drawn_once it later is next = absurd is.drawn
