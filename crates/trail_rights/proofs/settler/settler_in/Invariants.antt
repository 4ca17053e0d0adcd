use Rattle.trail_rights.proofs.Vocabulary.{◌≡◌, drop, settler_in}
use Rattle.trail_rights.proofs.settler.settler_in.Given as goal

abbrev pub invariant-loop-settler : goal.invariant-loop-settler
invariant-loop-settler l = settler_in (drop l.settler-index l.settlers) l.setting ≡ settler_in l.settlers l.setting
