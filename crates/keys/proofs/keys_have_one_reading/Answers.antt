use Rattle.keys.proofs.Readings.{keys-hold, keys-are}
use Rattle.keys.proofs.keys_have_one_reading.Goals as goal

pub returns-clause-read : goal.returns-clause-read
returns-clause-read c = keys-hold

pub returns-clause-once : goal.returns-clause-once
returns-clause-once c = λ keys given rest d. keys-are d
