use Rattle.trail_setup.proofs.Vocabulary.{◌≡◌, ◌++◌, map, take, name_of, first_text, users_kind, HoldWords, kind_of}
use Rattle.trail_setup.proofs.setup.push_users.Given as goal

-- the names so far were put
abbrev pub invariant-loop-user : goal.invariant-loop-user
invariant-loop-user l =
    (kind_of l.lines.form ≡ users_kind)
    × HoldWords users_kind (l.fn.out.items ++ first_text) (map name_of (take l.user-index l.users)) l.out.items
    l.lines.line.items
