use Rattle.session_core.proofs.Vocabulary.{ℕ, ◌≡◌, false, List, [], ◌∷◌, not, refl, sym, rules, arith, ◌==◌, without}
use Rattle.session_core.proofs.Vocabulary.{is_one_of}
use Rattle.std.proofs.lemmas.Fn.{filter_same}
use Rattle.session_core.proofs.sharing.leave_out.Goals as goal

-- a list is what it is without one that isn't in it
without_none : (client : ℕ) (l : List ℕ) → is_one_of client l ≡ false → without client l ≡ l
without_none client [] none = refl
without_none client (n ∷ l) none = grind (arith, none, without_none client l)

pub returns-then-contains : goal.returns-then-contains
returns-then-contains c =
    let test = λ (n : ℕ). not (n == c.args.client) in
    filter_same _ test _ (λ x b f called. search rules) c.args.clients.now.items c.retain.new.self.items
    c.retain.ensures.filtered

pub returns-else-contains : goal.returns-else-contains
returns-else-contains c =
    let none : is_one_of c.args.client c.args.clients.now.items ≡ false = search rules in
    sym (without_none c.args.client c.args.clients.now.items none)
