use Rattle.session_commands.proofs.Vocabulary.{ap, option_copied, ClientStands, both_back}
use Rattle.session_commands.proofs.giver.client_of.Goals as goal

pub returns-in-Some-get-clause-ok : goal.returns-in-Some-get-clause-ok
returns-in-Some-get-clause-ok c = record {
  client_is = c.in-Some.is;
  attached = λ t st.
      let row = both_back ClientStands _ _ _ (c.get.ensures.stands t.clients st.clients)
      (ap option_copied c.in-Some-get.is) in
      (row.0, row.1);
}
