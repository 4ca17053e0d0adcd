-- Changes of a layout that leave room for each region.
use Rattle.std.proofs.Common.{◌≡◌, ℕ, ◌+◌, ◌-◌, ◌/◌, ◌<◌, ◌≤◌, Bool, true, ◌&&◌, ltb, refl, sym, ◌∙◌, inl, inr, arith}
use Rattle.std.proofs.lemmas.Bool.{cases_lt, lt-ltb, le-ltb, ltb-true}
use Rattle.regions.specs.declared.node.Way.TheVariants.{Below, Right}
use Rattle.regions.specs.Shapes.{Shape, region, split, regions, fits, without}
use Rattle.regions.specs.Pages.{has_room}
use Rattle.regions.proofs.Room.{both_true, wide, tall, room_fits}
use Rattle.regions.proofs.Counting.{which}

both : (a b : Bool) → a ≡ true → b ≡ true → (a && b) ≡ true
both a b p q = rw (p, q) refl

-- what has room in a smaller box has room in a bigger one
bigger : (s : Shape) (r c m n : ℕ) → r ≤ m → c ≤ n → fits s r c ≡ true → fits s m n ≡ true
bigger region r c m n rows columns h =
    let t = both_true (ltb 1 r) (ltb 1 c) h in
    let high : 1 < r = ltb-true _ _ t.0 in
    let broad : 1 < c = ltb-true _ _ t.1 in
    both (ltb 1 m) (ltb 1 n) (lt-ltb 1 m (omega arith)) (lt-ltb 1 n (omega arith))
bigger (split Below a b) r c m n rows columns h =
    let t = both_true (fits a ((r + 1) / 2) c) (fits b (r / 2) c) h in
    both (fits a ((m + 1) / 2) n) (fits b (m / 2) n)
    (bigger a ((r + 1) / 2) c ((m + 1) / 2) n (omega arith) columns t.0)
    (bigger b (r / 2) c (m / 2) n (omega arith) columns t.1)
bigger (split Right a b) r c m n rows columns h =
    let t = both_true (fits a r ((c - 1) / 2)) (fits b r (c / 2)) h in
    both (fits a m ((n - 1) / 2)) (fits b m (n / 2)) (bigger a r ((c - 1) / 2) m ((n - 1) / 2) rows (omega arith) t.0)
    (bigger b r (c / 2) m (n / 2) rows (omega arith) t.1)

fits_without : (s : Shape) (n r c : ℕ) → fits s r c ≡ true → fits (without n s) r c ≡ true
fits_without region n r c h = h
fits_without (split Below a b) n r c h =
    let t = both_true (fits a ((r + 1) / 2) c) (fits b (r / 2) c) h in
    elim (cases_lt n (regions a)) [
      | inl first ↦ rw (lt-ltb n (regions a) first) (elim (which a) [
        | inl one ↦ rw one.0 (bigger b (r / 2) c r c (omega arith) (omega arith) t.1)
        | inr two ↦ rw two.0
            (both (fits (without n a) ((r + 1) / 2) c) (fits b (r / 2) c) (fits_without a n ((r + 1) / 2) c t.0) t.1)
      ])
      | inr second ↦ rw (le-ltb n (regions a) second) (elim (which b) [
        | inl one ↦ rw one.0 (bigger a ((r + 1) / 2) c r c (half_up r (tall b (r / 2) c t.1)) (omega arith) t.0)
        | inr two ↦ rw two.0
            (both (fits a ((r + 1) / 2) c) (fits (without (n - regions a) b) (r / 2) c) t.0
            (fits_without b (n - regions a) (r / 2) c t.1))
      ])
    ] where
      half_up : (r : ℕ) → 1 < r / 2 → (r + 1) / 2 ≤ r
      half_up r h = omega arith
fits_without (split Right a b) n r c h =
    let t = both_true (fits a r ((c - 1) / 2)) (fits b r (c / 2)) h in
    elim (cases_lt n (regions a)) [
      | inl first ↦ rw (lt-ltb n (regions a) first) (elim (which a) [
        | inl one ↦ rw one.0 (bigger b r (c / 2) r c (omega arith) (omega arith) t.1)
        | inr two ↦ rw two.0
            (both (fits (without n a) r ((c - 1) / 2)) (fits b r (c / 2)) (fits_without a n r ((c - 1) / 2) t.0) t.1)
      ])
      | inr second ↦ rw (le-ltb n (regions a) second) (elim (which b) [
        | inl one ↦ rw one.0 (bigger a r ((c - 1) / 2) r c (omega arith) (omega arith) t.0)
        | inr two ↦ rw two.0
            (both (fits a r ((c - 1) / 2)) (fits (without (n - regions a) b) r (c / 2)) t.0
            (fits_without b (n - regions a) r (c / 2) t.1))
      ])
    ]

-- if a region is removed, the others still have room
pub without_keeps_room : (s : Shape) (n rows columns : ℕ) → has_room s rows columns ≡ true
    → has_room (without n s) rows columns ≡ true
without_keeps_room s n rows columns h = room_fits (without n s) rows columns
    ∙ fits_without s n (rows - 1) columns (sym (room_fits s rows columns) ∙ h)

-- if all regions have room, one alone has room
pub alone_has_room : (s : Shape) (rows columns : ℕ) → has_room s rows columns ≡ true
    → has_room region rows columns ≡ true
alone_has_room s rows columns h =
    let f : fits s (rows - 1) columns ≡ true = sym (room_fits s rows columns) ∙ h in
    room_fits region rows columns
    ∙ both (ltb 1 (rows - 1)) (ltb 1 columns) (lt-ltb _ _ (tall s (rows - 1) columns f))
    (lt-ltb _ _ (wide s (rows - 1) columns f))
