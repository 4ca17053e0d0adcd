use Rattle.control_parser.proofs.Vocabulary.{◌≡◌, length, take, ap, arith, length-front}
use Rattle.control_parser.proofs.Arrays.{front_pushed}
use Rattle.control_parser.proofs.params.Params.push.Goals as goal

pub invariant_of-self : goal.invariant_of-self
invariant_of-self c =
    let values = c.self.inside.values in
    let count = c.self.inside.count in
    let l : length (take count values) ≡ count = length-front 16 count values c.self.invariant.1 in
    let v : length (take count values) ≡ length c.args.self.now = ap length c.self.view_is in
    (omega arith, front_pushed 16 count c.args.value values c.self.invariant.1 (omega arith))
