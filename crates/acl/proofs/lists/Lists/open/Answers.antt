use Rattle.acl.proofs.Vocabulary.{◌≡◌, ◌∙◌, ◌∷◌, ap, sym, subst, refl, arith, Option, None, Some, is_some, false}
use Rattle.acl.proofs.Vocabulary.{true≢false, ℕ, ◌<◌, length, lookup, keys_of, Opened, same_user, slot_of, with_window}
use Rattle.acl.proofs.Vocabulary.{opening_bits, StandsFor, Table, is_open, open_count, table_of}
use Rattle.acl.proofs.RowLemmas.{lookup-revalued, keys_of-revalued}
use Rattle.acl_words.proofs.SlotLemmas.{found, slot_of-opened, slot_of-free, free_slot-empty, slots-opened, slots-free}
use Rattle.acl.proofs.StandsForWindows.{StandsFor-Opened}
use Rattle.acl.proofs.lists.Lists.open.Goals as goal

none : (o : Option ℕ) → is_some o ≡ false → o ≡ None
none None e = refl
none (Some r) e = absurd (true≢false e)

pub returns-in-Some : goal.returns-in-Some
returns-in-Some c =
    let t = table_of c.args.self.now in
    let slot = c.in-Some.slot in
    let free = sym c.in-Some.ensures.slot in
    let w = c.args.window in
    let below : slot < length t.windows = (found _ slot t.windows free).0 in
    λ edition owner h s known fresh few.
    subst
    (λ ws. StandsFor (let u : Table = record t { rows = c.give_window.new.rows.entries; windows = ws } in u) edition
    owner (Opened c.args.by w ∷ h)) (sym c.put.ensures)
    (StandsFor-Opened t edition owner h s _ c.give_window.new.rows.entries c.args.by w slot
    (λ v. slot_of-opened t.windows w v slot below (free_slot-empty t.windows slot free)
    (none (slot_of t.windows w) (s.slots.shown w ∙ fresh)))
    (slots-opened t.windows (is_open h) (open_count h) s.slots w slot free fresh)
    (ap keys_of c.give_window.ensures.given
    ∙ keys_of-revalued (λ k row. with_window slot (opening_bits t.masks c.args.by k) row) t.rows)
    (λ q. ap (lookup (same_user q)) c.give_window.ensures.given
    ∙ lookup-revalued (λ k row. with_window slot (opening_bits t.masks c.args.by k) row) q t.rows)
    (λ q row at. let wide : length row.windows ≡ 40 = c.give_window.ensures.wide q row at in let all : length t.windows
    ≡ 40 = s.slots.all in omega arith)
    (λ v k e. slot_of-free t.windows v k slot e free)
    (s.known c.args.by ∙ known))

pub returns-in_default : goal.returns-in_default
returns-in_default c =
    let t = table_of c.args.self.now in
    λ edition owner h s known fresh few. slots-free t.windows (is_open h) (open_count h) s.slots few
    (sym c.in_default.ensures.slot)
