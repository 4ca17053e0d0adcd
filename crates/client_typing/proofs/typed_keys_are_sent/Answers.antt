use Rattle.client_typing.proofs.Assisted.{has-sent-none, sent-all, sent-fit}
use Rattle.client_typing.proofs.typed_keys_are_sent.Goals as goal

pub returns-clause-begins : goal.returns-clause-begins
returns-clause-begins c = has-sent-none

pub returns-clause-sent : goal.returns-clause-sent
returns-clause-sent c = λ lines old new keys more typed sent m. sent-all lines m typed sent

pub returns-clause-fit : goal.returns-clause-fit
returns-clause-fit c = sent-fit
