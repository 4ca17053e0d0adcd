-- The acts of a trail's entries may come one after another.
use Rattle.trail_again.proofs.Vocabulary.{◌≡◌, ◌∙◌, List, [], ◌∷◌, ◌++◌, refl, ap, sym, flat_map, Act, Edition, UserId}
use Rattle.trail_again.proofs.Vocabulary.{History, followed_by, followed_by-append, AreGood, CanFollow, entries_in}
use Rattle.hub.specs.Trails.{Entry}
use Rattle.trail_lines.specs.Entries.{Said}
use Rattle.trail_rights.specs.Marks.{Marked, acts_in, marked_after, marked_by, marked_with}
use Rattle.trail_rights.specs.declared.acts.Mark.{Mark}

can_append : (edition : Edition) (owner : UserId) (h : History) (xs ys : List Act) → CanFollow edition owner h xs
    → CanFollow edition owner (followed_by h xs) ys → CanFollow edition owner h (xs ++ ys)
can_append edition owner h [] ys a b = b
can_append edition owner h (x ∷ xs) ys a b = (a.0, can_append edition owner (x ∷ h) xs ys a.1 b)

abbrev pub acts_of : List Entry → List Act
acts_of entries = flat_map (λ (e : Entry). e.acts) entries

pub good_follow : (edition : Edition) (owner : UserId) (entries : List Entry) (h : History)
    → AreGood edition owner h entries → CanFollow edition owner h (acts_of entries)
good_follow edition owner [] h good = tt
good_follow edition owner (e ∷ entries) h good =
    can_append edition owner h e.acts (acts_of entries) good.0.judgeable.follow
    (good_follow edition owner entries (followed_by h e.acts) good.1)

by_acts : (m : Mark) (marked : Marked) (acts : List Act)
    → acts_in (marked_by m marked acts) ≡ followed_by (acts_in marked) acts
by_acts m marked [] = refl
by_acts m marked (a ∷ acts) = by_acts m ((m, a) ∷ marked) acts

-- the acts with their marks are those of the entries
pub marked_acts : (said : List Said) (marked : Marked)
    → acts_in (marked_after marked said) ≡ followed_by (acts_in marked) (acts_of (entries_in said))
marked_acts [] marked = refl
marked_acts (x ∷ said) marked =
    marked_acts said (marked_with marked x)
    ∙ ap (λ (h : History). followed_by h (acts_of (entries_in said))) (by_acts _ marked x.2.acts)
    ∙ sym (followed_by-append (acts_in marked) x.2.acts (acts_of (entries_in said)))
