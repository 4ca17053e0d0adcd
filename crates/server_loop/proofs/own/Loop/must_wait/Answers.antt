use Rattle.server_loop.proofs.Vocabulary.{◌≡◌, ◌∙◌, Bool, true, false, sym, subst, rules, UserId, Connections, state_of}
use Rattle.server_loop.proofs.Vocabulary.{MustWait}
use Rattle.server_loop.proofs.Keys.{forbidden, goes_on, held_on, unasked, waiting}
use Rattle.server_loop.proofs.own.Loop.must_wait.Goals as goal

pub returns-then-not-is_asked : goal.returns-then-not-is_asked
returns-then-not-is_asked g c =
    let no : c.is_asked.result ≡ false = search rules in
    waiting g.J.SessionSeat c.args.key c.in-Some.target c.is_stopped-is_full.result
    (state_of c.args.self.now) false (state_of c.args.self.now) (sym c.in-Some.ensures) c.is_stopped-is_full.ensures
    (unasked g.J.SessionSeat c.args.key c.in-Some.target
    c.is_stopped-is_full.result (state_of c.args.self.now) (sym c.is_asked.ensures ∙ no))

pub returns-then-not-may_type : goal.returns-then-not-may_type
returns-then-not-may_type g c =
    let asked : c.is_asked.result ≡ true = search rules in
    let no : c.may_type.result ≡ false = search rules in
    let lets = subst (λ (b : Bool). g.J.SessionSeat.lets_type c.args.self.now.seat c.in-Some.target.user.user
    c.in-Some.target.window b) no
    (subst (λ (u : UserId). g.J.SessionSeat.lets_type c.args.self.now.seat u c.in-Some.target.window
    c.may_type.result) c.user.ensures c.may_type.ensures) in
    subst (λ (s : Connections g.row.S.Denot). MustWait g.J.SessionSeat c.args.key
    (state_of c.args.self.now) false (record (state_of c.args.self.now) { connections = s }))
    (sym c.free_keys.ensures)
    (waiting g.J.SessionSeat c.args.key c.in-Some.target
    c.is_stopped-is_full.result (state_of c.args.self.now) false _ (sym c.in-Some.ensures)
    c.is_stopped-is_full.ensures
    (forbidden g.J.SessionSeat c.args.key c.in-Some.target
    c.is_stopped-is_full.result (state_of c.args.self.now) (sym c.is_asked.ensures ∙ asked) lets))

pub returns-then-is_full : goal.returns-then-is_full
returns-then-is_full g c =
    let asked : c.is_asked.result ≡ true = search rules in
    let yes : c.may_type.result ≡ true = search rules in
    let full : c.is_stopped-is_full.result ≡ true = search rules in
    let lets = subst (λ (b : Bool). g.J.SessionSeat.lets_type c.args.self.now.seat c.in-Some.target.user.user
    c.in-Some.target.window b) yes
    (subst (λ (u : UserId). g.J.SessionSeat.lets_type c.args.self.now.seat u c.in-Some.target.window
    c.may_type.result) c.user.ensures c.may_type.ensures) in
    subst (λ (s : Connections g.row.S.Denot). MustWait g.J.SessionSeat c.args.key
    (state_of c.args.self.now) c.is_stopped-is_full.result
    (record (state_of c.args.self.now) { connections = s })) (sym c.hold_keys.ensures)
    (waiting g.J.SessionSeat c.args.key c.in-Some.target
    c.is_stopped-is_full.result (state_of c.args.self.now) c.is_stopped-is_full.result _ (sym c.in-Some.ensures)
    c.is_stopped-is_full.ensures
    (held_on g.J.SessionSeat c.args.key c.in-Some.target
    c.is_stopped-is_full.result (state_of c.args.self.now) (sym c.is_asked.ensures ∙ asked) lets full))

pub returns-else-is_full : goal.returns-else-is_full
returns-else-is_full g c =
    let asked : c.is_asked.result ≡ true = search rules in
    let yes : c.may_type.result ≡ true = search rules in
    let no : c.is_stopped-is_full.result ≡ false = search rules in
    let lets = subst (λ (b : Bool). g.J.SessionSeat.lets_type c.args.self.now.seat c.in-Some.target.user.user
    c.in-Some.target.window b) yes
    (subst (λ (u : UserId). g.J.SessionSeat.lets_type c.args.self.now.seat u c.in-Some.target.window
    c.may_type.result) c.user.ensures c.may_type.ensures) in
    waiting g.J.SessionSeat c.args.key c.in-Some.target c.is_stopped-is_full.result
    (state_of c.args.self.now) c.is_stopped-is_full.result (state_of c.args.self.now) (sym c.in-Some.ensures)
    c.is_stopped-is_full.ensures
    (goes_on g.J.SessionSeat c.args.key c.in-Some.target
    c.is_stopped-is_full.result (state_of c.args.self.now) (sym c.is_asked.ensures ∙ asked) lets no)
