use Rattle.std.proofs.Common.{arith, inl, refl}
use Rattle.server_session.proofs.SettingUp.{begun_by}
use Rattle.server_session.proofs.loop_body.begin.Goals as goal

pub returns-clause-set_up : goal.returns-clause-set_up
returns-clause-set_up g c =
    let parts = c.requires.blank.2 in
    let some = c.requires.blank.3 in
    let seats = c.in-Ok-new.ensures.seats.0 in
    begun_by c.args.parts.owner c.args.setup.items c.in-Ok-new.seats.items c.index_mut-first.result.now
    c.ask_for_entries.new.self c.set_up.new.seat (omega arith) c.in-Ok-new.ensures.seats.1
    c.index_mut-first.ensures.value c.ask_for_entries.ensures c.in_ok-set_up.ensures.done

pub returns-in_default-clause-fault : goal.returns-in_default-clause-fault
returns-in_default-clause-fault g c = inl refl

pub returns-in_default-new_session-clause-fault : goal.returns-in_default-new_session-clause-fault
returns-in_default-new_session-clause-fault g c = inl refl

pub returns-in_default-new-clause-fault : goal.returns-in_default-new-clause-fault
returns-in_default-new-clause-fault g c = inl refl
