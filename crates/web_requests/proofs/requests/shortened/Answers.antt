use Rattle.std.proofs.Common.{arith, length-take, sym}
use Rattle.std.proofs.lemmas.List.{take_all}
use Rattle.web_requests.proofs.requests.shortened.Goals as goal

pub returns-then-address-le-LONGEST_ADDRESS : goal.returns-then-address-le-LONGEST_ADDRESS
returns-then-address-le-LONGEST_ADDRESS c = sym (take_all 64 c.args.address.now (omega arith))

pub slice_bounds-result-end : goal.slice_bounds-result-end
slice_bounds-result-end c = omega (arith, length-take 64 c.args.address.now)
