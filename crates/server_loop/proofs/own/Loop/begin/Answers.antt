use Rattle.server_loop.proofs.Vocabulary.{◌≡◌, ◌∙◌, Some, None, true, ap, inl, refl, sym, subst, rules, codes}
use Rattle.server_loop.proofs.Vocabulary.{Done, TurnsAway, State, happening, state_of, Loop}
use Rattle.std.specs.Prelude.{option_map}
use Rattle.server_steps.specs.Meaning.{shown_in}
use Rattle.server_users.specs.Entries.{Entry}
use Rattle.server_loop.proofs.Begun.{begun_as, begun_by, names_shown}
use Rattle.server_loop.proofs.own.Loop.begin.Goals as goal

pub join-requires : goal.join-requires
join-requires g c =
    names_shown c.in-Some-user_of.user c.args.message.now (happening c.in-Some-event_of.event) c.in-Some-event_of.ensures

pub command-requires : goal.command-requires
command-requires g c =
    names_shown c.in-Some-user_of.user c.args.message.now (happening c.in-Some-event_of.event) c.in-Some-event_of.ensures

pub returns-in_default-user_of : goal.returns-in_default-user_of
returns-in_default-user_of g c =
    let entry : Entry = record { name = c.in-Some.name.now; token = c.in-Some.token.now } in
    let shows : shown_in c.args.message.now ≡ Some entry = search rules in
    let yes : c.may_judge.result ≡ true = search rules in
    begun_by g.J.SessionSeat c.args.message.now entry c.args.key (state_of c.args.self.now) Done
    (state_of c.turn_away.new.self) shows (sym c.may_judge.ensures ∙ yes) (inl (
      c.user_of.ensures.none c.in_default-user_of.is,
      refl,
      subst (λ (s : State g.row.S.Denot g.row.J.Denot). TurnsAway g.J.SessionSeat (codes "unknown user or wrong token")
          c.args.key s (state_of c.turn_away.new.self))
          (ap (λ (l : Loop g.row.S.Denot g.row.G.Denot g.row.J.Denot). state_of l) c.tell.ensures) c.turn_away.ensures,
    ))

pub returns-in_default-event_of : goal.returns-in_default-event_of
returns-in_default-event_of g c =
    let entry : Entry = record { name = c.in-Some.name.now; token = c.in-Some.token.now } in
    let shows : shown_in c.args.message.now ≡ Some entry = search rules in
    let yes : c.may_judge.result ≡ true = search rules in
    begun_as g.J.SessionSeat c.args.message.now entry c.args.key (state_of c.args.self.now) Done
    (state_of c.args.self.now) c.in-Some-user_of.user _ None shows (sym c.may_judge.ensures ∙ yes)
    c.in-Some-user_of.ensures.shown refl (sym (ap (option_map happening) c.in_default-event_of.is) ∙ c.event_of.ensures) (refl, refl)

pub returns-in-Some-kind_of : goal.returns-in-Some-kind_of
returns-in-Some-kind_of g c =
    let entry : Entry = record { name = c.in-Some.name.now; token = c.in-Some.token.now } in
    let shows : shown_in c.args.message.now ≡ Some entry = search rules in
    let yes : c.may_judge.result ≡ true = search rules in
    begun_as g.J.SessionSeat c.args.message.now entry c.args.key (state_of c.args.self.now) c.join.result
    (state_of c.join.new.self) c.in-Some-user_of.user (Some c.in-Some-kind_of.kind) (Some (happening c.in-Some-event_of.event)) shows (sym c.may_judge.ensures ∙ yes)
    c.in-Some-user_of.ensures.shown c.in-Some-kind_of.ensures c.in-Some-event_of.ensures c.join.ensures

pub returns-in-None : goal.returns-in-None
returns-in-None g c =
    let entry : Entry = record { name = c.in-Some.name.now; token = c.in-Some.token.now } in
    let shows : shown_in c.args.message.now ≡ Some entry = search rules in
    let yes : c.may_judge.result ≡ true = search rules in
    begun_as g.J.SessionSeat c.args.message.now entry c.args.key (state_of c.args.self.now) c.command.result
    (state_of c.command.new.self) c.in-Some-user_of.user None (Some (happening c.in-Some-event_of.event)) shows (sym c.may_judge.ensures ∙ yes)
    c.in-Some-user_of.ensures.shown c.in-None.ensures c.in-Some-event_of.ensures c.command.ensures
