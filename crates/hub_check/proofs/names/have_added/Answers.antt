use Rattle.hub_check.proofs.Vocabulary.{◌≡◌, ◌∙◌, true, not, Some, map, filter, ap, sym, subst, ◌↔◌, list_all, users_of}
use Rattle.hub_check.proofs.Vocabulary.{named_by, same_user, has_act_of, HaveActs}
use Rattle.command_lang.specs.declared.command.Command.TheVariants as command
use Rattle.command_lang.specs.declared.command.Users.{Users}
use Rattle.hub_check.proofs.Folding.{all_tells, all_mapped, others_have}
use Rattle.hub_check.proofs.names.have_added.Goals as goal

pub returns-in-All : goal.returns-in-All
returns-in-All c = λ edition h s.
    let us = users_of c.args.owner h in
    subst (λ (x : Users). (c.have_all.result ≡ true) ↔ HaveActs c.args.owner h (command.Acladd x) c.args.acts.now)
    (sym c.in-All.is)
    (all_tells (has_act_of c.args.acts.now) (map (λ u. Some u) (filter (λ u. not (same_user c.args.owner u)) us))
    c.have_all.result
    (c.have_all.ensures edition h s ∙ others_have c.args.owner c.args.acts.now us))

pub returns-in-Listed : goal.returns-in-Listed
returns-in-Listed c = λ edition h s.
    subst (λ (x : Users). (c.have_named.result ≡ true) ↔ HaveActs c.args.owner h (command.Acladd x) c.args.acts.now)
    (sym c.in-Listed.is)
    (all_mapped named_by (has_act_of c.args.acts.now) c.in-Listed.words c.have_named.result
    (c.have_named.ensures ∙ ap (list_all (λ word. has_act_of c.args.acts.now (named_by word))) c.as_slice.ensures))
