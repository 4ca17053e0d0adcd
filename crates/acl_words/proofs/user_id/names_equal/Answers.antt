use Rattle.acl_words.proofs.SameLemmas.{same_user-true, same_user-refl, same_user-sym}
use Rattle.acl_words.proofs.user_id.names_equal.Goals as goal

pub returns : goal.returns
returns c = record { equal = same_user-true; reflexive = same_user-refl; symmetric = same_user-sym }
