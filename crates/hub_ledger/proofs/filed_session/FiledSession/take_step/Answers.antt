use Rattle.hub_ledger.proofs.Vocabulary.{◌≡◌, ◌<◌, List, length, sym, ap, ◌∙◌, subst, false, Bool, Vec, Global}
use Rattle.hub_ledger.proofs.Vocabulary.{AllByRecursion, length-map, happening, entry_of, wants_memory, kept_of}
use Rattle.hub_ledger.proofs.Vocabulary.{HasPeer, Owners, owners_of, with_peers, Sent, views, marked, trail_in}
use Rattle.hub_ledger.proofs.Vocabulary.{with_entries, written, state_of}
use Rattle.hub_ledger.specs.Routing.{typed_in, AreRouted}
use Rattle.hub_ledger.proofs.Steps.{few, peers_there, made_by, filed_is, kept_after}
use Rattle.hub_ledger.proofs.filed_session.FiledSession.take_step.Goals as goal

pub route-requires-clause-come : goal.route-requires-clause-come
route-requires-clause-come c =
    let past = c.requires.kept.past in
    let able : wants_memory c.step-reply.result ≡ false = sym c.wants_memory.ensures ∙ c.if-wants_memory.false in
    let step = entry_of (happening c.args.event) c.step-reply.result c.step-reply.new.notes
    c.step-reply.new.effects.items in
    let st = made_by c.args.self.now.session (happening c.args.event) c.step-reply.new.notes c.new-effects.result.items
    c.step-reply.new.effects.items c.step-reply.result c.step-reply.new.self
    able c.new-effects.ensures.items c.step-reply.ensures.step past.0 past.1.stands in
    subst (λ (o : Owners). AllByRecursion (HasPeer o) step.effects) (sym c.make_room-2.ensures.same)
    (peers_there past.0 (state_of c.args.self.now) step c.step-reply.new.self past.1 st)

pub route-requires-clause-few : goal.route-requires-clause-few
route-requires-clause-few c =
    let past = c.requires.kept.past in
    let able : wants_memory c.step-reply.result ≡ false = sym c.wants_memory.ensures ∙ c.if-wants_memory.false in
    let step = entry_of (happening c.args.event) c.step-reply.result c.step-reply.new.notes
    c.step-reply.new.effects.items in
    let st = made_by c.args.self.now.session (happening c.args.event) c.step-reply.new.notes c.new-effects.result.items
    c.step-reply.new.effects.items c.step-reply.result c.step-reply.new.self
    able c.new-effects.ensures.items c.step-reply.ensures.step past.0 past.1.stands in
    few past.0 step c.step-reply.new.self st

pub returns-clause-step : goal.returns-clause-step
returns-clause-step c =
    let able : wants_memory c.step-reply.result ≡ false = sym c.wants_memory.ensures ∙ c.if-wants_memory.false in
    let event = happening c.args.event in
    let reply = c.step-reply.result in
    let noted = c.step-reply.new.notes in
    let effects = c.step-reply.new.effects.items in (
      noted,
      effects,
      record {
        stands = made_by c.args.self.now.session event noted c.new-effects.result.items effects reply
            c.step-reply.new.self able c.new-effects.ensures.items c.step-reply.ensures.step;
        trail = c.write.ensures
            ∙ (λ i. with_entries (c.make_room.ensures.same i) (written (c.requires.prepared i) noted reply))
            ∙ ap (with_entries (trail_in c.args.self.now.entries)) (filed_is (kept_of event) event reply noted effects);
        owners = c.add.ensures ∙ ap (with_peers event reply c.args.seat) c.make_room-2.ensures.same;
        typist = c.typist_of-typist.result;
        typist_is = c.typist_of-typist.ensures;
        waiting = subst
            (λ (now : List (List Sent)). AreRouted (owners_of c.args.self.now.peers) c.typist_of-typist.result effects
            (views c.args.self.now.waiting.lists.items) now)
            (sym (ap (λ (v : Vec (Vec Sent Global) Global). views v.items) c.mark.ensures.lists))
            (subst
            (λ (was : List (List Sent)). AreRouted (owners_of c.args.self.now.peers) c.typist_of-typist.result effects
            was (views c.route.new.self.lists.items)) c.make_room-3.ensures.lists
            (subst
            (λ (o : Owners). AreRouted o c.typist_of-typist.result effects (views c.make_room-3.new.self.lists.items)
            (views c.route.new.self.lists.items)) c.make_room-2.ensures.same c.route.ensures.lists));
        typed_is = c.typed_in-typed.ensures ∙ ap (typed_in event) c.as_slice.ensures.value;
        marks = c.mark.ensures.marks
            ∙ ap (λ (m : Vec Bool Global). marked event m.items) (c.route.ensures.marks ∙ c.make_room-3.ensures.marks);
      },
    )

pub returns-clause-kept : goal.returns-clause-kept
returns-clause-kept c =
    let here : c.args.seat < length (views c.args.self.now.waiting.lists.items) = rw length-map c.requires.seat in
    let step = returns-clause-step c in
    kept_after (state_of c.args.self.now) _ c.args.seat _ _ c.requires.kept here step.2
