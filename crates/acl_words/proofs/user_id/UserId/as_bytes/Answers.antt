use Rattle.std.proofs.Common.{◌∙◌, ap, arith, take}
use Rattle.acl_words.proofs.WordLemmas.{before_first_zero}
use Rattle.acl_words.proofs.user_id.UserId.as_bytes.Goals as goal

pub returns : goal.returns
returns c = ap (λ k. take k c.args.self.now.name) c.length_of.ensures.length
    ∙ before_first_zero c.args.self.now.name 20 (omega arith)
