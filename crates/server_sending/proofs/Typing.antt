-- Frames that were typed, among the bytes that wait.
use Rattle.std.proofs.Common.{◌≡◌, ◌∙◌, ℕ, ◌+◌, ◌-◌, ◌≤◌, Bool, true, false, List, [], ◌∷◌, ◌++◌, refl, ap, sym, length}
use Rattle.std.proofs.Common.{take, drop, arith, subst, length-append, length-drop, append_assoc, get_or, set, ◌<◌}
use Rattle.std.proofs.Math.Seq.{paste}
use Rattle.std.specs.Prelude.{nat_le, if◌then◌else◌}
use Rattle.std.proofs.lemmas.Bool.{leb-true}
use Rattle.std.proofs.lemmas.List.{append-nil, drop_all, take_all, length-take-le, drop_more}
use Rattle.std.proofs.lemmas.List.{drop-drop, drop-set-lt, take_more_set}
use Rattle.std.proofs.lemmas.List.Edits.{take-paste, drop-paste}
use Rattle.acl.specs.declared.user_id.UserId.{UserId}
use Rattle.acl.specs.Same.{same_user}
use Rattle.server_sending.specs.declared.typists.TypedFrame.{TypedFrame}
use Rattle.server_sending.specs.Written.{AreWithin, unbegun, stays_to, without_frames, frames_of_others}

pub within_more : (at : ℕ) (fs : List TypedFrame) (end more : ℕ) → AreWithin at fs end → end ≤ more
    → AreWithin at fs more
within_more at [] end more w l = omega (arith, w, l)
within_more at (f ∷ fs) end more w l = (w.0, within_more (f.from + f.len) fs end more w.1 l)

pub within_push : (at : ℕ) (fs : List TypedFrame) (f : TypedFrame) (end : ℕ) → AreWithin at fs end → end ≤ f.from
    → AreWithin at (fs ++ f ∷ []) (f.from + f.len)
within_push at [] f end w l = (omega (arith, w, l), omega arith)
within_push at (g ∷ fs) f end w l = (w.0, within_push (g.from + g.len) fs f end w.1 l)

pub within_end : (at : ℕ) (fs : List TypedFrame) (end : ℕ) → AreWithin at fs end → at ≤ end
within_end at [] end w = w
within_end at (f ∷ fs) end w = omega (arith, w.0, within_end (f.from + f.len) fs end w.1)

within_from : (low at : ℕ) (fs : List TypedFrame) (end : ℕ) → low ≤ at → AreWithin at fs end → AreWithin low fs end
within_from low at [] end l w = omega (arith, l, w)
within_from low at (f ∷ fs) end l w = (omega (arith, l, w.0), w.1)

pub within_after : (n at : ℕ) (fs : List TypedFrame) (end : ℕ) → AreWithin at fs end
    → AreWithin (at - n) (unbegun n fs) (end - n)
within_after n at [] end w = omega (arith, w)
within_after n at (f ∷ fs) end w = on (nat_le n f.from) refl (within_after n (f.from + f.len) fs end w.1) where
  on : (b : Bool) → nat_le n f.from ≡ b → AreWithin ((f.from + f.len) - n) (unbegun n fs) (end - n)
      → AreWithin (at - n) (unbegun n (f ∷ fs)) (end - n)
  on true is rest =
      let below : n ≤ f.from = leb-true n f.from is in
      rw is (omega (arith, w.0), within_from _ _ (unbegun n fs) _ (omega (arith, below)) rest)
  on false is rest = rw is (within_from _ _ (unbegun n fs) _ (omega (arith, w.0)) rest)

pub within_sent : (fs : List TypedFrame) (sent n len : ℕ) → AreWithin 0 fs (len - sent)
    → AreWithin 0 (unbegun n fs) (len - (sent + n))
within_sent fs sent n len w =
    let left : (len - sent) - n ≡ len - (sent + n) = omega arith in
    subst (AreWithin 0 (unbegun n fs)) left
    (within_from 0 (0 - n) (unbegun n fs) ((len - sent) - n) (omega arith) (within_after n 0 fs (len - sent) w))

-- what a user's frame leaves of the bytes from a place on
front : (n at : ℕ) (rest : List ℕ) → n ≤ at + length rest → length (take (n - at) rest) ≡ n - at
front n at rest l = length-take-le (n - at) rest (omega (arith, l))

pub within_others : (user : UserId) (at gone : ℕ) (fs : List TypedFrame) (rest : List ℕ)
    → AreWithin at fs (at + length rest) → gone ≤ at
    → AreWithin (at - gone) (frames_of_others user gone fs) ((at - gone) + length (without_frames user at fs rest))
within_others user at gone [] rest w l = omega arith
within_others user at gone (f ∷ fs) rest w l = on (same_user f.user user) refl
    (λ g less. within_others user end g fs behind (subst (AreWithin end fs) left w.1) less) where
      end : ℕ
      end = f.from + f.len

      behind : List ℕ
      behind = drop (end - at) rest

      fits : end ≤ at + length rest
      fits = within_end end fs (at + length rest) w.1

      left : at + length rest ≡ end + length behind
      left = omega (arith, fits, w.0, length-drop (end - at) rest)

      size : (n : ℕ) → n ≤ end → length (take (n - at) rest ++ without_frames user end fs behind)
          ≡ (n - at) + length (without_frames user end fs behind)
      size n less = length-append (take (n - at) rest) (without_frames user end fs behind)
          ∙ ap (λ k. k + length (without_frames user end fs behind)) (front n at rest (omega (arith, less, fits)))

      on : (b : Bool) → same_user f.user user ≡ b
          → ((g : ℕ) → g ≤ end
          → AreWithin (end - g) (frames_of_others user g fs) ((end - g) + length (without_frames user end fs behind)))
          → AreWithin (at - gone) (frames_of_others user gone (f ∷ fs))
          ((at - gone) + length (without_frames user at (f ∷ fs) rest))
      on true is next = rw is
          (within_from (at - gone) (end - (gone + f.len)) (frames_of_others user (gone + f.len) fs) _
          (omega (arith, w.0, l))
          (subst (AreWithin (end - (gone + f.len)) (frames_of_others user (gone + f.len) fs))
          (omega (arith, w.0, l, size f.from (omega arith))) (next (gone + f.len) (omega (arith, w.0, l)))))
      on false is next = rw is (
        omega (arith, w.0, l),
        within_from ((f.from - gone) + f.len) (end - gone) (frames_of_others user gone fs) _
            (omega (arith, w.0, l))
            (subst (AreWithin (end - gone) (frames_of_others user gone fs))
            (omega (arith, w.0, l, size end (omega arith))) (next gone (omega (arith, w.0, l)))),
      )

pub within_left : (user : UserId) (fs : List TypedFrame) (bytes : List ℕ) (end : ℕ) → AreWithin 0 fs (length bytes)
    → end ≡ length (without_frames user 0 fs bytes) → AreWithin 0 (frames_of_others user 0 fs) (end - 0)
within_left user fs bytes end w is =
    subst (AreWithin 0 (frames_of_others user 0 fs)) (omega (arith, is))
    (within_others user 0 0 fs bytes (subst (AreWithin 0 fs) (omega arith) w) (omega arith))

-- what was written through a slice of a whole list
pub written : {X : Type 0} (new old : List X) (n : ℕ) → n ≡ length old → length new ≡ length old
    → take n (new ++ drop (length new) old) ≡ new
written new old n is same =
    ap (λ x. take n (new ++ x)) (drop_all (length new) old (omega (arith, same)))
    ∙ ap (take n) (append-nil new) ∙ take_all n new (omega (arith, is, same))

-- ---- one frame more

pub frame_next : (at : ℕ) (fs : List TypedFrame) (i : ℕ) (d : TypedFrame) (end : ℕ) → i < length fs
    → AreWithin at (drop i fs) end
    → (at ≤ (get_or fs i d).from) × AreWithin ((get_or fs i d).from + (get_or fs i d).len) (drop (i + 1) fs) end
frame_next at fs i d end lt w = subst (λ (l : List TypedFrame). AreWithin at l end) (drop_more fs i d lt) w

further : (m n : ℕ) (xs ys : List ℕ) → drop m xs ≡ drop m ys → m ≤ n → drop n xs ≡ drop n ys
further m n xs ys same less =
    let k : m + (n - m) ≡ n = omega (arith, less) in
    subst (λ j. drop j xs ≡ drop j ys) k
    (sym (drop-drop (n - m) m xs) ∙ ap (drop (n - m)) same ∙ drop-drop (n - m) m ys)

-- n bytes are moved to their place, up to where they stay
pub bytes_next : (user : UserId) (at to n to_next : ℕ) (f : TypedFrame) (fs : List TypedFrame) (b made : List ℕ)
    → to ≤ at → at + n ≡ stays_to user f → stays_to user f ≤ f.from + f.len → f.from + f.len ≤ length b
    → made ≡ paste b to (drop at b) n → to_next ≡ to + n
    → take to_next made ++ without_frames user (f.from + f.len) fs (drop (f.from + f.len) made)
    ≡ take to b ++ without_frames user at (f ∷ fs) (drop at b)
bytes_next user at to n to_next f fs b made less upto within fits is next =
    let end : ℕ = f.from + f.len in
    let room : n ≤ length (drop at b) = omega (arith, upto, within, fits, length-drop at b) in
    let rest : List ℕ → List ℕ = λ (l : List ℕ). without_frames user end fs l in
    let front : take to_next made ≡ take to b ++ take n (drop at b) =
    ap (λ k. take k made) next ∙ ap (λ (l : List ℕ). take (to + n) l) is
    ∙ take-paste b to (drop at b) n (omega (arith, less, upto, within, fits)) room in
    let behind : drop end made ≡ drop end b = further (to + n) end made b
    (ap (λ (l : List ℕ). drop (to + n) l) is
    ∙ drop-paste b to (drop at b) n (omega (arith, less, upto, within, fits)) room)
    (omega (arith, less, upto, within)) in
    let past : drop (end - at) (drop at b) ≡ drop end b = drop-drop (end - at) at b
    ∙ ap (λ k. drop k b) (omega (arith, upto, within)) in
    ap (λ (l : List ℕ). l ++ rest (drop end made)) front
    ∙ append_assoc (take to b) (take n (drop at b)) (rest (drop end made))
    ∙ ap (λ (l : List ℕ). take to b ++ (take n (drop at b) ++ rest l)) (behind ∙ sym past)
    ∙ ap (λ k. take to b ++ (take k (drop at b) ++ rest (drop (end - at) (drop at b)))) (omega (arith, upto))

pub his_goes : (user : UserId) (gone i : ℕ) (fs : List TypedFrame) (d : TypedFrame) → i < length fs
    → same_user (get_or fs i d).user user ≡ true
    → frames_of_others user (gone + (get_or fs i d).len) (drop (i + 1) fs) ≡ frames_of_others user gone (drop i fs)
his_goes user gone i fs d lt is =
    sym (ap (frames_of_others user gone) (drop_more fs i d lt) ∙ ap
    (λ (b : Bool). if b then frames_of_others user (gone + (get_or fs i d).len) (drop (i + 1) fs)
    else record (get_or fs i d) { from = (get_or fs i d).from - gone } ∷ frames_of_others user gone
    (drop (i + 1) fs)) is)

pub other_stays : (user : UserId) (gone kept i : ℕ) (fs : List TypedFrame) (d x : TypedFrame) → i < length fs
    → kept ≤ i
    → same_user (get_or fs i d).user user ≡ false → x ≡ record (get_or fs i d) { from = (get_or fs i d).from - gone }
    → take (kept + 1) (set fs kept x) ++ frames_of_others user gone (drop (i + 1) (set fs kept x))
    ≡ take kept fs ++ frames_of_others user gone (drop i fs)
other_stays user gone kept i fs d x lt most is made =
    let rest : List TypedFrame = frames_of_others user gone (drop (i + 1) fs) in
    let next : frames_of_others user gone (drop i fs) ≡ x ∷ rest = ap (frames_of_others user gone)
    (drop_more fs i d lt) ∙ ap
    (λ (b : Bool). if b then frames_of_others user (gone + (get_or fs i d).len) (drop (i + 1) fs)
    else record (get_or fs i d) { from = (get_or fs i d).from - gone } ∷ rest) is
    ∙ ap (λ (y : TypedFrame). y ∷ rest) (sym made) in
    ap (λ (l : List TypedFrame). take (kept + 1) (set fs kept x) ++ frames_of_others user gone l)
    (drop-set-lt (i + 1) fs kept x (omega (arith, most)))
    ∙ ap (λ (l : List TypedFrame). l ++ rest) (take_more_set fs kept x (omega (arith, lt, most)))
    ∙ append_assoc (take kept fs) (x ∷ []) rest
    ∙ ap (λ (l : List TypedFrame). take kept fs ++ l) (sym next)

-- ---- more bytes

pub grows : (b : Bool) (n more new : ℕ) → new ≡ (if b then n + more else n) → (n ≤ new) × (new ≤ n + more)
grows true n more new is = (omega (arith, is), omega (arith, is))
grows false n more new is = (omega (arith, is), omega (arith, is))

-- they stay within the bytes from a place on, also if more were put
pub within_put : (fs : List TypedFrame) (sent n more new : ℕ) (b : Bool) → AreWithin 0 fs (n - sent)
    → new ≡ (if b then n + more else n) → AreWithin 0 fs (new - sent)
within_put fs sent n more new b w is =
    within_more 0 fs (n - sent) (new - sent) w (omega (arith, (grows b n more new is).0))
