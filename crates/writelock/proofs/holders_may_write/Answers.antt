use Rattle.writelock.proofs.holders_may_write.Goals as goal

pub returns : goal.returns
returns c = λ t edition owner h window user s held. s.are.able window user held
