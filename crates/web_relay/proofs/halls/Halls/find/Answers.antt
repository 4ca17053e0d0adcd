use Rattle.std.proofs.Common.{◌≡◌, ◌⊎◌, ◌<◌, ◌≤◌, ℕ, inr, arith, rules}
use Rattle.slab.specs.Slab.{get, slab_len}
use Rattle.web_relay.specs.Halls.{HasNone, HasSize, IsStandIn}
use Rattle.web_relay.proofs.Turns.{no-halls, some_more}
use Rattle.web_relay.proofs.halls.Halls.find.Goals as goal

pub returns-clause-some : goal.returns-clause-some
returns-clause-some g c =
    let size = c.args.size in
    let list = c.args.self.now.list in
    let none : HasNone size list = c.of_size.ensures.none (search rules) in
    let many : 8 ≤ slab_len list = omega arith in
    some_more (IsStandIn size list)
    (λ (place : ℕ). HasSize size (get list place)
    ⊎ (HasNone size list × (8 ≤ slab_len list) × IsStandIn size list place))
    c.stand_in.result (λ place h. inr (none, many, h)) c.stand_in.ensures.some

pub returns-clause-none : goal.returns-clause-none
returns-clause-none g c = λ e.
    let size = c.args.size in
    let list = c.args.self.now.list in
    let none : HasNone size list = c.of_size.ensures.none (search rules) in
    let empty : slab_len list ≡ 0 = no-halls list.slots (c.stand_in.ensures.none e) in
    let few : slab_len list < 8 = omega arith in (none, few)
