use Rattle.server_users.proofs.Vocabulary.{ap, sym, ◌∙◌, option_map, position, as_nanos}
use Rattle.server_users.specs.Rationed.{later_end}
use Rattle.server_users.proofs.Places.{found, lost}
use Rattle.server_users.proofs.Rationing.{is_for, no_ration, counted, uncounted}
use Rattle.server_users.proofs.ration.Rations.count.Goals as goal

pub returns-in-Some-clause-own : goal.returns-in-Some-clause-own
returns-in-Some-clause-own c =
    counted c.args.self.now.list.items c.args.user c.in-Some.place c.index_mut.result.now
    (found (is_for c.args.user) _ _ (ap (position (is_for c.args.user)) (sym c.deref.ensures.value)
    ∙ sym c.place_of.ensures.place ∙ c.in-Some.is))
    c.index_mut.ensures.value c.count.new.self
    (later_end (as_nanos c.args.now) (as_nanos c.args.self.now.period) c.args.entries)
    c.count.ensures.user c.count.ensures.until

pub returns-in-Some-clause-others : goal.returns-in-Some-clause-others
returns-in-Some-clause-others c = λ u differ.
    uncounted c.args.self.now.list.items c.args.user c.in-Some.place c.index_mut.result.now
    (found (is_for c.args.user) _ _ (ap (position (is_for c.args.user)) (sym c.deref.ensures.value)
    ∙ sym c.place_of.ensures.place ∙ c.in-Some.is))
    c.index_mut.ensures.value c.count.new.self c.count.ensures.user u differ

pub returns-in_default-clause-own : goal.returns-in_default-clause-own
returns-in_default-clause-own c =
    let none = no_ration c.args.self.now.list.items c.args.user (lost (is_for c.args.user) _
    (ap (position (is_for c.args.user)) (sym c.deref.ensures.value)
    ∙ sym c.place_of.ensures.place ∙ c.in_default.is)) in
    none
    ∙ sym (ap (option_map (later_end (as_nanos c.args.now) (as_nanos c.args.self.now.period) c.args.entries)) none)
