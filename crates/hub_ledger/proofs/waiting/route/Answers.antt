use Rattle.hub_ledger.proofs.Vocabulary.{◌≡◌, ◌<◌, ◌++◌, ◌∷◌, [], length, refl, sym, ap, ◌∙◌, arith, get_or, subst}
use Rattle.hub_ledger.proofs.Vocabulary.{List, length-append, append-nil, Some, IsSome, AllByRecursion, Vec, Global}
use Rattle.hub_ledger.proofs.Vocabulary.{into_iter_items, length-map, slice_get-get_or, all_weaken, Effect, HasPeer}
use Rattle.hub_ledger.proofs.Vocabulary.{owners_of, seat_of, Sent, views}
use Rattle.hub_ledger.proofs.Queues.{Waits, seat_there, seat_within, more_waits, room_left, append_turned}
use Rattle.hub_ledger.proofs.waiting.route.Goals as goal

nothing : (es : List Effect) → length es ≡ 0 → es ≡ []
nothing [] none = refl
nothing (e ∷ es) none = absurd (omega (arith, none))

pub bounds-waiting-seat : goal.bounds-waiting-seat
bounds-waiting-seat c = rw (c.loop-effect.auto.waiting)
    (seat_within (length c.args.waiting.now) (owners_of c.args.peers.now) c.in-Some.effect c.seat_of-seat.result
    c.requires.seats c.seat_of-seat.ensures)

pub push_reserved-requires : goal.push_reserved-requires
push_reserved-requires c =
    let seat = c.seat_of-seat.result in
    let within : seat < length c.loop-effect.waiting = rw (c.loop-effect.auto.waiting)
    (seat_within (length c.args.waiting.now) (owners_of c.args.peers.now) c.in-Some.effect seat c.requires.seats
    c.seat_of-seat.ensures) in
    let at = slice_get-get_or c.loop-effect.waiting seat c.index-waiting-seat.result within in
    let steps : into_iter_items c.loop-effect.effect-iterator ≡ c.in-Some.effect ∷ into_iter_items c.next.new.self =
    c.in-Some.ensures.steps.0 in
    let all : length c.args.effects.items ≡ length
    (c.loop-effect.yielded ++ c.in-Some.effect ∷ into_iter_items c.next.new.self) =
    ap length (c.loop-effect.invariant.all ∙ ap (λ (x : List Effect). c.loop-effect.yielded ++ x) steps) in
    let room = c.loop-effect.invariant.room seat _ at in
    omega (
      arith,
      all,
      room,
      c.requires.few,
      length-append c.loop-effect.yielded
          (c.in-Some.effect ∷ into_iter_items c.next.new.self),
    )

pub loop-effect-preserved : goal.loop-effect-preserved
loop-effect-preserved c =
    let o = owners_of c.args.peers.now in
    let seat = c.seat_of-seat.result in
    let at_seat : seat_of o c.in-Some.effect ≡ Some seat = c.seat_of-seat.ensures in
    let within : seat < length c.loop-effect.waiting = rw (c.loop-effect.auto.waiting)
    (seat_within (length c.args.waiting.now) o c.in-Some.effect seat c.requires.seats at_seat) in
    let v = get_or c.loop-effect.waiting seat c.index-waiting-seat.result in
    let at = slice_get-get_or c.loop-effect.waiting seat c.index-waiting-seat.result within in
    let steps : into_iter_items c.loop-effect.effect-iterator ≡ c.in-Some.effect ∷ into_iter_items c.next.new.self =
    c.in-Some.ensures.steps.0 in
    let here : seat < length (views c.loop-effect.waiting) = rw length-map within in
    record {
      can = tt;
      finite = tt;
      all = append_turned c.loop-effect.yielded c.in-Some.effect (into_iter_items c.next.new.self) c.args.effects.items
          (rw (← steps) c.loop-effect.invariant.all);
      come = (subst (AllByRecursion (HasPeer o)) steps c.loop-effect.invariant.come).1;
      waits = more_waits o c.args.typist c.loop-effect.yielded c.in-Some.effect seat (views c.args.waiting.now)
          c.loop-effect.waiting v c.push_reserved.new.self here at_seat at c.push_reserved.ensures.items
          c.loop-effect.invariant.waits;
      room = room_left c.loop-effect.waiting seat v c.push_reserved.new.self 256 c.loop-effect.yielded c.in-Some.effect
          at c.push_reserved.ensures.len c.push_reserved.ensures.capacity c.loop-effect.invariant.room;
    }

pub returns : goal.returns
returns c =
    let o = owners_of c.args.peers.now in
    let rest = c.loop-effect.effect-iterator.rest in
    let done : into_iter_items c.loop-effect.effect-iterator ≡ [] = nothing rest.items
    (omega (arith, rest.ok.0, c.in-None.ensures.steps.0)) in
    let all : c.args.effects.items ≡ c.loop-effect.yielded = c.loop-effect.invariant.all
    ∙ ap (λ (x : List Effect). c.loop-effect.yielded ++ x) done ∙ append-nil c.loop-effect.yielded in
    record {
      found = all_weaken (HasPeer o) (λ e. IsSome (seat_of o e)) c.args.effects.items (seat_there o) c.requires.come;
      seats = length-map c.loop-effect.waiting (λ (u : Vec Sent Global). u.items) ∙ c.loop-effect.auto.waiting
          ∙ sym (length-map c.args.waiting.now (λ (u : Vec Sent Global). u.items));
      waiting = subst
          (λ (es : List Effect). Waits o c.args.typist es (views c.args.waiting.now) (views c.loop-effect.waiting))
          (sym all) c.loop-effect.invariant.waits;
    }
