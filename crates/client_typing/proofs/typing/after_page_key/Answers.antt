use Rattle.std.proofs.Common.{rules, ◌∷◌}
use Rattle.std.specs.Prelude.{codes}
use Rattle.keys.specs.Grammar.{escape}
use Rattle.client_typing.specs.Own.{IsPageKey}
use Rattle.client_typing.proofs.Fitting.{first-four, first-six}
use Rattle.client_typing.proofs.typing.after_page_key.Goals as goal

pub returns-in-27-clause-some : goal.returns-in-27-clause-some
returns-in-27-clause-some c = (escape ∷ codes "[5;2~", IsPageKey.xterm_up, search (rules, first-six))

pub returns-in-27-2-clause-some : goal.returns-in-27-2-clause-some
returns-in-27-2-clause-some c = (escape ∷ codes "[5;3~", IsPageKey.alt_up, search (rules, first-six))

pub returns-in-27-3-clause-some : goal.returns-in-27-3-clause-some
returns-in-27-3-clause-some c = (escape ∷ codes "[5$", IsPageKey.rxvt_up, search (rules, first-four))

pub returns-in-27-4-clause-some : goal.returns-in-27-4-clause-some
returns-in-27-4-clause-some c = (escape ∷ codes "[6;2~", IsPageKey.xterm_down, search (rules, first-six))

pub returns-in-27-5-clause-some : goal.returns-in-27-5-clause-some
returns-in-27-5-clause-some c = (escape ∷ codes "[6;3~", IsPageKey.alt_down, search (rules, first-six))

pub returns-in-27-6-clause-some : goal.returns-in-27-6-clause-some
returns-in-27-6-clause-some c = (escape ∷ codes "[6$", IsPageKey.rxvt_down, search (rules, first-four))
