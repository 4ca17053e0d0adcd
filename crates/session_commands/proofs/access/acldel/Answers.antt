use Rattle.session_commands.proofs.Vocabulary.{◌≡◌, ◌∙◌, ◌⊎◌, ◌++◌, Some, None, Err, ap, refl, sym, subst, inr, arith}
use Rattle.session_commands.proofs.Vocabulary.{rules, named_by, known_name_fault, NoMemory, known_users, removes, does}
use Rattle.session_commands.proofs.Vocabulary.{caller_in, Of, parted_now}
use Rattle.std.proofs.lemmas.Grind.{common_steps}
use Rattle.acl.specs.declared.acl.Acl.{Acl}
use Rattle.command_lang.specs.declared.command.Command.TheVariants as command
use Rattle.session_commands.proofs.Pushed.{grown}
use Rattle.session_commands.proofs.LeavingRows.{removal, removal_refused, removal_unnamed}
use Rattle.session_commands.proofs.Ending.{removed}
use Rattle.session_commands.proofs.Quiet.{quietly}
use Rattle.session_commands.proofs.access.acldel.Goals as goal

pub returns-in_default : goal.returns-in_default
returns-in_default c = quietly (search rules) (λ k t st fit passed.
    let none : named_by c.args.word.now ≡ None = ap named_by (sym c.as_bytes.ensures.value) ∙ sym c.of.ensures.named
    ∙ c.in_default.is in
    inr (removal_unnamed t (caller_in t k) c.args.word.now none))

pub returns-in-Err : goal.returns-in-Err
returns-in-Err c =
    let s = c.args.context.now.state.now in
    let same = ap (λ (a : Acl). record s { acl = a }) c.in-Err.ensures.err.0 in
    quietly (
      (refl, refl),
      (tt, (record { state = same; acts = grind (arith, common_steps); effects = search rules }, tt)),
    )
    (λ k t st fit passed.
    let word = c.args.word.now in
    let user = c.in-Some.user in
    let named : named_by word ≡ Some user = ap named_by (sym c.as_bytes.ensures.value) ∙ sym c.of.ensures.named
    ∙ c.in-Some.is in
    subst (λ r. (r ≡ NoMemory) ⊎ (does t (caller_in t k) (command.Acldel word) ≡ Err r)) (sym c.refusal_of.ensures)
    (removal_refused t (caller_in t k) word user named c.in-Err.fault (c.in-Err.ensures.answer t.edition t.owner t.acts
    st.acl)))

pub returns : goal.returns
returns c = quietly (search rules) (λ k t st fit passed.
    let word = c.args.word.now in
    let user = c.in-Some.user in
    let made = c.args.context.now.made.now in
    let cs = c.as_slice-clients.result.now in
    let named : named_by word ≡ Some user = ap named_by (sym c.as_bytes.ensures.value) ∙ sym c.of.ensures.named
    ∙ c.in-Some.is in
    let none : known_name_fault t.owner (known_users t) (Some user) ≡ None = c.in_default-remove.ensures.answer
    t.edition t.owner t.acts st.acl in (
      removes (Some user) t,
      removal t (caller_in t k) word user named none,
      refl,
      removed t user c.args.context.now.state.now cs c.in_ok-rows.rows.items c.remove.new.self
          c.note_parted.new.locks c.remove.new.follower
          c.remove_of.new.self c.note_parted.new.acts.items made (record
          { acts = c.remove.new.acts; effects = c.append.new.self }) c.as_slice-clients.ensures st fit
          c.in_ok-rows.ensures c.note_parted.ensures.locks
          (c.note_parted.ensures.acts ∙ ap (λ xs. xs ++ parted_now (Of user) cs)
          c.reserve.ensures.items) c.in_default-remove.ensures.done c.remove_of.ensures
          (grown c.append.result c.reserve-2.new.self.items c.append.new.self.items c.in_ok-gone.gone.items
          (c.append.ensures.succeeds (omega (arith, c.in_ok-reserve-2.ensures.ok))) c.append.ensures.items
          ∙ ap (λ xs. xs ++ c.in_ok-gone.gone.items) c.reserve-2.ensures.items
          ∙ ap (λ xs. made.effects.items ++ xs) c.in_ok-gone.ensures),
    ))
