use Rattle.hub_ledger.proofs.Vocabulary.{◌≡◌, ◌<◌, length, ap, ◌∙◌, arith, inl, inr, get_or, vec_len, vec_capacity, Vec}
use Rattle.hub_ledger.proofs.Vocabulary.{Global, slice_get_within, Sent}
use Rattle.hub_ledger.proofs.Places.{slice_get-get_or, slice_get-set, map-set_same}
use Rattle.hub_ledger.proofs.waiting.make_room.Goals as goal

pub returns-in_err-reserve-clause-same : goal.returns-in_err-reserve-clause-same
returns-in_err-reserve-clause-same c =
    map-set_same (λ (v : Vec Sent Global). v.items) c.loop-i.waiting c.loop-i.i c.reserve.new.self
    (get_or c.loop-i.waiting c.loop-i.i c.index-waiting-i.result)
    (slice_get-get_or c.loop-i.waiting c.loop-i.i c.index-waiting-i.result (omega arith)) c.reserve.ensures.items
    ∙ c.loop-i.invariant.same

pub loop-i-preserved : goal.loop-i-preserved
loop-i-preserved c = record {
  same = map-set_same (λ (v : Vec Sent Global). v.items) c.loop-i.waiting c.loop-i.i c.reserve.new.self
      (get_or c.loop-i.waiting c.loop-i.i c.index-waiting-i.result)
      (slice_get-get_or c.loop-i.waiting c.loop-i.i c.index-waiting-i.result (omega arith)) c.reserve.ensures.items
      ∙ c.loop-i.invariant.same;
  room = λ k v below at. elim (slice_get-set c.loop-i.waiting c.loop-i.i c.reserve.new.self v k at) [
    | inl p ↦
        (let h = c.in_ok-reserve.ensures.ok in let e : vec_len v ≡ vec_len c.reserve.new.self = ap
        (λ (x : Vec Sent Global). vec_len x) p.1 in let d : vec_capacity v ≡ vec_capacity c.reserve.new.self = ap
        (λ (x : Vec Sent Global). vec_capacity x) p.1 in omega (arith, h, e, d))
    | inr p ↦ c.loop-i.invariant.room k v (let d = p.0 in omega (arith, d, below)) p.1
  ];
}

pub returns-clause-room : goal.returns-clause-room
returns-clause-room c = λ k v at. c.loop-i.invariant.room k v
    (let w : k < length c.loop-i.waiting = slice_get_within c.loop-i.waiting k v at in omega (arith, w)) at
