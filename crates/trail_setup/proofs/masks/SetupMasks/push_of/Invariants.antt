use Rattle.trail_setup.proofs.Vocabulary.{◌≡◌, take, flat_map, Edition, UserId, History, HoldWords, kind_of, Stands}
use Rattle.trail_setup.proofs.Vocabulary.{known_in, mask_kind, word_of}
use Rattle.trail_setup.proofs.masks.SetupMasks.push_of.Given as goal

-- what is said of those so far was put
abbrev pub invariant-loop-user : goal.invariant-loop-user
invariant-loop-user l =
    (kind_of l.lines.form ≡ mask_kind l.head)
    × ((edition : Edition) (owner : UserId) (h : History) → Stands l.self.state.now edition owner h
    → HoldWords (mask_kind l.head) l.fn.out.items (flat_map (word_of l.is_later owner h (known_in l.self) l.by)
    (take l.user-index l.self.users.now)) l.out.items l.lines.line.items)
