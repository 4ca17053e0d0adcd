-- The parts of a setup, put out one after another.
use Rattle.trail_setup.proofs.Vocabulary.{◌≡◌, ◌++◌, List, [], ◌∷◌, ℕ, Result, Ok, Err, refl, map, false, OnOk}
use Rattle.trail_setup.proofs.Vocabulary.{flat_map, Edition, UserId, History, name_of, PutsAll, first_text}
use Rattle.trail_setup.proofs.Vocabulary.{leader_lines, lines_of, users_kind, PutsLines, Known, mask_parts}
use Rattle.trail_setup.specs.Setup.{later_parts, parts_for, state_parts, users_parts}
use Rattle.trail_setup.proofs.Putting.{puts_append}

pub all_listed : {T E : Type 0} (r : Result T E) (edition : Edition) (owner : UserId) (acts h : History) (m : Known)
    (others : List UserId) (start known masked led given set out : List ℕ)
    → PutsLines users_kind (start ++ first_text) (map name_of others) known
    → PutsAll (mask_parts false owner h m []) known masked
    → led ≡ masked ++ flat_map (leader_lines edition acts) others
    → PutsAll (flat_map (lines_of owner h) others) led given
    → PutsAll (state_parts m.state) given set
    → OnOk r (PutsAll (later_parts owner h m) set out)
    → OnOk r (PutsAll (parts_for edition owner acts h m others) start out)
all_listed (Ok x) edition owner acts h m others start known masked led given set out users masks leaders commands state
    later =
    puts_append (users_parts others) _ start known out (start ++ first_text, refl, (known, users, refl))
    (puts_append (mask_parts false owner h m []) _ known masked out masks (
      led,
      leaders,
      puts_append (flat_map (lines_of owner h) others) _ led given out commands
          (puts_append (state_parts m.state) _ given set out state later),
    ))
all_listed (Err e) edition owner acts h m others start known masked led given set out users masks leaders commands state
    later = tt
