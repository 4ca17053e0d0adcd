use Rattle.control_parser.proofs.Vocabulary.{◌≡◌, ◌++◌, ap, sym, ◌∙◌, option_to_list, rules, functions, step_of}
use Rattle.control_parser.proofs.Keeping.{stands-push, gives-push, next-push}
use Rattle.control_parser.proofs.parser.Parser.push.Goals as goal

pub returns-clause-stands : goal.returns-clause-stands
returns-clause-stands c = λ units h.
    let e : (c.read.result, c.read.new.self) ≡ step_of c.args.self.now c.args.unit = search rules in
    ap (λ r. r.1) e ∙ stands-push c.args.self.now c.args.unit units h

pub returns-clause-gives : goal.returns-clause-gives
returns-clause-gives c = λ units h.
    let e : (c.read.result, c.read.new.self) ≡ step_of c.args.self.now c.args.unit = search rules in
    gives-push c.args.self.now c.args.unit units h
    ∙ ap (λ o. (functions units).0 ++ option_to_list o) (sym (ap (λ r. r.0) e))

pub returns-clause-next : goal.returns-clause-next
returns-clause-next c = λ rest proper h.
    let e : (c.read.result, c.read.new.self) ≡ step_of c.args.self.now c.args.unit = search rules in
    let n = next-push c.args.self.now c.args.unit rest proper h in
    (n.0 ∙ ap (λ r. option_to_list r.0) (sym e), ap (λ r. r.1) e ∙ n.1)
