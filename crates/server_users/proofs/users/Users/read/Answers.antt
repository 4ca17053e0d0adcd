use Rattle.server_users.proofs.Vocabulary.{◌≡◌, ◌∙◌, ◌⊎◌, ◌<◌, ◌+◌, ◌++◌, ◌∷◌, inl, inr, [], subst, sym, length, arith}
use Rattle.server_users.proofs.Vocabulary.{length-map, entry_of, entries_of}
use Rattle.std.proofs.Common.{drop, vec_len}
use Rattle.std.proofs.lemmas.Bool.{eqb-true, eqb-false}
use Rattle.server_users.specs.Entries.{BreaksAt}
use Rattle.server_users.proofs.Known.{was_seen, not_seen, push_seen}
use Rattle.server_users.proofs.Lines.{HaveRead, push, push_entry, stop_twice, no_users, some_of}
use Rattle.server_users.proofs.users.Users.read.Goals as goal
use Rattle.server_users.proofs.users.Users.read.Goals.{else-is_empty-via-then-is_empty+else-not-is_empty}
use Rattle.server_users.proofs.users.Users.read.Goals.{else-is_empty-via-else-is_empty}

pub returns-then-not-is_new-clause-bad : goal.returns-then-not-is_new-clause-bad
returns-then-not-is_new-clause-bad c =
    let some : (0 < length c.lines.rest.now) ⊎
    (entries_of c.lines.list.items ≡ []) = elim c.else-is_empty.branch [
      | else-is_empty-via-then-is_empty+else-not-is_empty w ↦ inr (no_users c.lines.list.items
          (let e : vec_len c.lines.list ≡ 0 = eqb-true (vec_len c.lines.list) 0
          (sym w.is_empty-then-is_empty.ensures
          ∙ w.if-not-is_empty.false) in omega (arith, e, c.lines.list.ok.0)))
      | else-is_empty-via-else-is_empty w ↦ inl (some_of (length c.lines.rest.now) (eqb-false
          (length c.lines.rest.now) 0 (sym c.is_empty.ensures ∙ w.if-is_empty.false)))
    ] in
    let number : length (entries_of c.lines.list.items) + 1 ≡ c.len-then-not-is_new.result + 1 = omega (
      arith,
      length-map c.lines.list.items entry_of,
      c.lines.list.ok.0,
      c.len-then-not-is_new.ensures,
    ) in
    subst (BreaksAt c.args.file.now) number
    (stop_twice (entries_of c.lines.list.items)
    (entry_of c.in-Some.user) c.args.file.now c.lines.rest.now c.split_line.result.0.now
    c.split_line.result.1.now
    c.lines.invariant.0 some c.split_line.ensures.whole c.split_line.ensures.line
    c.split_line.ensures.more c.in-Some.ensures.some.0 c.in-Some.ensures.some.1
    (was_seen _ c.lines.list.items c.in-Some.user.id _ c.lines.invariant.1
    c.in_ok-is_new.ensures.added c.if-not-is_new.true))

pub lines-preserved : goal.lines-preserved
lines-preserved c =
    let read : HaveRead (entries_of c.lines.list.items ++ entry_of c.in-Some.user ∷ [])
    c.args.file.now (drop 1 c.split_line.result.1.now) =
    push (entries_of c.lines.list.items)
    (entry_of c.in-Some.user) c.args.file.now c.lines.rest.now c.split_line.result.0.now
    c.split_line.result.1.now
    c.lines.invariant.0 c.in-Some.ensures.some.0
    (not_seen _ c.lines.list.items c.in-Some.user.id _ c.lines.invariant.1
    c.in_ok-is_new.ensures.added c.if-not-is_new.false c.in-Some.ensures.named)
    c.split_line.ensures.whole c.in-Some.ensures.some.1 c.split_line.ensures.more in (
      rw (c.in_ok-push.ensures.items, c.behind_feed-rest.ensures, push_entry) read,
      rw c.in_ok-push.ensures.items (push_seen _ _ c.lines.list.items c.in-Some.user _ c.lines.invariant.1
          c.in_ok-is_new.ensures.added c.if-not-is_new.false c.in-Some.ensures.named c.in_ok-is_new.ensures.keys),
    )
