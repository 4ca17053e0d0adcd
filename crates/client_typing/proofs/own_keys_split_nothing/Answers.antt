use Rattle.client_typing.proofs.Fitting.{typed-alone, given-between, fit-line, view-line}
use Rattle.client_typing.proofs.own_keys_split_nothing.Goals as goal

pub returns-clause-given : goal.returns-clause-given
returns-clause-given c = given-between

pub returns-clause-alone : goal.returns-clause-alone
returns-clause-alone c = typed-alone

pub returns-clause-fit : goal.returns-clause-fit
returns-clause-fit c = fit-line

pub returns-clause-view : goal.returns-clause-view
returns-clause-view c = view-line
