use Rattle.std.proofs.Common.{◌≡◌, ◌∙◌, subst, arith, true}
use Rattle.acl.specs.Names.{is_name}
use Rattle.attach_proto.specs.Texts.{IsToken}
use Rattle.server_users.proofs.Spelled.{parts}
use Rattle.server_users.proofs.user.User.of_line.Goals as goal

pub returns-clause-none : goal.returns-clause-none
returns-clause-none c = λ e u is s.
    let same = parts u c.split_at.result.0.now c.split_at.result.1.now c.in_ok-blank.name.now
    c.in_ok-blank.blank.now is (s
    ∙ c.split_at.ensures.by_index.0) (omega
    (arith, c.split_at.ensures.back_len)) c.in_ok-blank.ensures.cases.0 in
    c.user_of.ensures.none e (record {
      name = subst
          (λ n. is_name n ≡ true) same.0 is.name;
      token = subst IsToken same.1 is.token;
    })
