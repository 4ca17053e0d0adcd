use Rattle.std.proofs.Common.{◌≡◌, ℕ, ◌+◌, ◌<◌, ◌≤◌, min, List, [], ◌∷◌, ◌++◌, length, drop, get_or, sym, ap, ◌∙◌}
use Rattle.std.proofs.Common.{arith}
use Rattle.std.specs.Prelude.{slice_get, None}
use Rattle.circular_buffer.specs.Buffer.{Buffer, buffer, keep_last}
use Rattle.cells.specs.declared.cell.Cell.{Cell}
use Rattle.scrollback.specs.Kept.{Kept, with_line}
use Rattle.scrollback.proofs.Lasts.{keep_all, keep_next, head_inside, head_is, widths_next, length_next}
use Rattle.scrollback.proofs.Ringing.{continues}
use Rattle.scrollback.proofs.ring.Ring.exchange.Goals as goal

abbrev kept_with : ℕ → ℕ → List (List Cell) → Kept
kept_with keep columns lines = record { keep = keep; columns = columns; lines = lines }

abbrev kept_of : Buffer (List Cell) → ℕ → ℕ → Kept
kept_of b count columns = kept_with b.capacity columns (keep_last count b.items)

-- the buffer after the swap
swapped : (popped pushed : Buffer (List Cell)) (items : List (List Cell)) (keep : ℕ) (line put : List Cell)
    → length items ≡ keep → 0 < length items
    → popped ≡ buffer (drop 1 items) keep → put ≡ line
    → pushed ≡ buffer (keep_last popped.capacity (popped.items ++ put ∷ [])) popped.capacity
    → pushed ≡ buffer (drop 1 items ++ line ∷ []) keep
swapped popped pushed items keep line put full some p l h =
    let few : length (drop 1 items ++ line ∷ []) ≤ keep = omega (arith, length_next items line some) in
    h ∙ ap (λ (b : Buffer (List Cell)). buffer (keep_last b.capacity (b.items ++ put ∷ [])) b.capacity) p
    ∙ ap (λ (y : List Cell). buffer (keep_last keep (drop 1 items ++ y ∷ [])) keep) l
    ∙ ap (λ (ys : List (List Cell)). buffer ys keep) (keep_all keep (drop 1 items ++ line ∷ []) few)

pub invariant_of-self : goal.invariant_of-self
invariant_of-self c =
    let items : List (List Cell) = c.self.inside.lines.items in
    let keep : ℕ = c.self.inside.lines.capacity in
    let some : 0 < length items = head_inside items c.in-Some.spare c.in-Some.ensures.value in
    let after : c.push_back.new.self ≡ buffer (drop 1 items ++ c.args.line.now ∷ []) keep =
    swapped c.pop_front.new.self c.push_back.new.self items keep c.args.line.now c.replace-taken.result
    c.self.invariant.full some c.in-Some.ensures.items c.replace-taken.ensures.value c.push_back.ensures.items in
    let n : c.min-self-inside.result ≡ min (c.self.inside.count + 1) keep = c.min-self-inside.ensures
    ∙ ap (min (c.self.inside.count + 1)) c.capacity-keep.ensures.capacity in
    let width : length c.args.line.now ≡ c.self.inside.columns = c.requires
    ∙ sym (ap (λ (k : Kept). k.columns) c.self.view_is) in
    let room : c.push_back.new.self.capacity ≡ keep = ap (λ (b : Buffer (List Cell)). b.capacity) after in
    let many : length c.push_back.new.self.items ≡ length items = ap (λ (b : Buffer (List Cell)). length b.items) after
    ∙ length_next items c.args.line.now some in
    record {
      full = many ∙ c.self.invariant.full ∙ sym room;
      inside = omega (arith, n, room);
      width = λ k h. ap (λ (b : Buffer (List Cell)). length (get_or b.items k [])) after
          ∙ widths_next items c.args.line.now c.self.inside.columns some width c.self.invariant.width k (rw many at h);
    }

pub returns-in-Some-clause-kept : goal.returns-in-Some-clause-kept
returns-in-Some-clause-kept c =
    let items : List (List Cell) = c.self.inside.lines.items in
    let keep : ℕ = c.self.inside.lines.capacity in
    let some : 0 < length items = head_inside items c.in-Some.spare c.in-Some.ensures.value in
    let after : c.push_back.new.self ≡ buffer (drop 1 items ++ c.args.line.now ∷ []) keep =
    swapped c.pop_front.new.self c.push_back.new.self items keep c.args.line.now c.replace-taken.result
    c.self.invariant.full some c.in-Some.ensures.items c.replace-taken.ensures.value c.push_back.ensures.items in
    let n : c.min-self-inside.result ≡ min (c.self.inside.count + 1) keep = c.min-self-inside.ensures
    ∙ ap (min (c.self.inside.count + 1)) c.capacity-keep.ensures.capacity in
    ap (λ (b : Buffer (List Cell)). kept_of b c.min-self-inside.result c.self.inside.columns) after
    ∙ ap (λ k. kept_of (buffer (drop 1 items ++ c.args.line.now ∷ []) keep) k c.self.inside.columns) n
    ∙ ap (λ (ls : List (List Cell)). kept_with keep c.self.inside.columns ls)
    (keep_next keep c.self.inside.count items c.args.line.now c.self.invariant.full
    (rw (sym c.self.invariant.full) some) c.self.invariant.inside)
    ∙ ap (λ (k : Kept). with_line k c.args.line.now) c.self.view_is

pub returns-in-Some-clause-stands : goal.returns-in-Some-clause-stands
returns-in-Some-clause-stands c = continues c.args.self.now _ c.args.line.now (returns-in-Some-clause-kept c)

pub returns-in-Some-clause-width : goal.returns-in-Some-clause-width
returns-in-Some-clause-width c =
    let items : List (List Cell) = c.self.inside.lines.items in
    ap length (c.replace-taken.ensures.after) ∙ ap length (head_is items c.in-Some.spare [] c.in-Some.ensures.value)
    ∙ c.self.invariant.width 0 (head_inside items c.in-Some.spare c.in-Some.ensures.value)
    ∙ ap (λ (k : Kept). k.columns) c.self.view_is

-- a buffer that keeps no line
none_kept : (popped : Buffer (List Cell)) (items : List (List Cell)) (keep count columns : ℕ) (line : List Cell)
    → length items ≡ keep → None ≡ slice_get items 0 → popped ≡ buffer (drop 1 items) keep
    → kept_of popped count columns ≡ with_line (kept_with keep columns (keep_last count items)) line
none_kept popped [] keep count columns line full none is =
    let left : keep_last count [] ≡ [] = keep_all count [] (omega arith) in
    ap (λ (b : Buffer (List Cell)). kept_of b count columns) is
    ∙ ap (λ (ls : List (List Cell)). kept_with keep columns ls)
    (left ∙ ap (λ n. keep_last n (line ∷ [])) full
    ∙ ap (λ (ls : List (List Cell)). keep_last keep (ls ++ line ∷ [])) (sym left))
none_kept popped (x ∷ items) keep count columns line full none is = absurd cc

pub returns-in_default-clause-kept : goal.returns-in_default-clause-kept
returns-in_default-clause-kept c =
    none_kept c.pop_front.new.self c.self.inside.lines.items c.self.inside.lines.capacity c.self.inside.count
    c.self.inside.columns c.args.line.now c.self.invariant.full c.in_default.ensures.value
    c.in_default.ensures.items
    ∙ ap (λ (k : Kept). with_line k c.args.line.now) c.self.view_is

pub returns-in_default-clause-stands : goal.returns-in_default-clause-stands
returns-in_default-clause-stands c = continues c.args.self.now _ c.args.line.now (returns-in_default-clause-kept c)
