use Rattle.std.proofs.Common.{◌≡◌, ◌∙◌, ◌-◌, ap, sym, refl, arith, Some, None, true, Option, if◌then◌else◌, replicate}
use Rattle.std.proofs.Common.{◌++◌, length}
use Rattle.acl_words.specs.declared.user_id.UserId.{UserId}
use Rattle.acl_words.specs.Names.{is_name, before_zero}
use Rattle.acl_words.proofs.WordLemmas.{put-more, name_of-named, few_bytes, filled_in}
use Rattle.acl_words.proofs.user_id.UserId.of.Goals as goal

pub loop-i-preserved : goal.loop-i-preserved
loop-i-preserved c = put-more c.args.word.now _ c.loop-i.i _ c.loop-i.invariant (omega arith)
    (few_bytes c.args.word.now (sym c.is_name.ensures ∙ c.if-not-is_name.false)) refl

pub returns-clause-named : goal.returns-clause-named
returns-clause-named c =
    let named : is_name c.args.word.now ≡ true = sym c.is_name.ensures ∙ c.if-not-is_name.false in
    let is = filled_in c.args.word.now c.loop-i.name c.loop-i.i c.loop-i.invariant (omega arith) in
    ap (λ name. let u : UserId = record { name = name } in Some u) is
    ∙ ap (λ b. let u : UserId = record { name = c.args.word.now ++ replicate (20 - length c.args.word.now) 0 } in let o
    : Option UserId = if b then Some u else None in o) (sym named)

pub returns-clause-spelled : goal.returns-clause-spelled
returns-clause-spelled c =
    let named : is_name c.args.word.now ≡ true = sym c.is_name.ensures ∙ c.if-not-is_name.false in
    ap before_zero (filled_in c.args.word.now c.loop-i.name c.loop-i.i c.loop-i.invariant (omega arith))
    ∙ name_of-named c.args.word.now _ named
