use Rattle.session_state.proofs.Vocabulary.{◌≡◌, ◌∙◌, ap, refl, subst, FnOnceReturnsAtMut, Arrangement, with_row}
use Rattle.session_state.proofs.Vocabulary.{Client, moved_to}
use Rattle.std.proofs.Common.{Ok, Err}
use Rattle.std.proofs.lemmas.Result.{err_from_is_err_and}
use Rattle.session_state.proofs.Changing.{serial_of, lent_at}
use Rattle.session_state.proofs.clients.Clients.try_on_page.Goals as goal

pub returns-clause-there : goal.returns-clause-there
returns-clause-there g c = λ x is.
    let old = c.args.self.now in
    let n = c.args.serial in
    let both = lent_at old c.self.inside.rows n c.get_mut.result c.in-Some.client c.get_mut.follows.lender
    c.see.new.self c.self.view_is c.get_mut.follows.claims c.get_mut.follows.holds c.in-Some.is in
    subst
    (λ (y : Client). (l : Arrangement) × FnOnceReturnsAtMut g.F.FnOnce c.args.change y.layout (Ok tt) l
    × (c.get_mut.follows.lender c.see.new.self ≡ with_row serial_of old n (moved_to l y)))
    (let same : c.in-Some.client.now ≡ x = cc (both.0, is) in same) (
      _,
      record { shown = _; shows = refl; left = _; met = c.in_ok-change.ensures; leaves = refl },
      both.1 ∙ ap (with_row serial_of old n) c.see.ensures,
    )

pub returns-in_err-change-clause-there : goal.returns-in_err-change-clause-there
returns-in_err-change-clause-there g c =
    let old = c.args.self.now in
    let n = c.args.serial in
    let y : Client = c.in-Some.client.now in
    let d : Client = record y { layout = c.change.new.arg2 } in
    let both = lent_at old c.self.inside.rows n c.get_mut.result c.in-Some.client c.get_mut.follows.lender d
    c.self.view_is c.get_mut.follows.claims c.get_mut.follows.holds c.in-Some.is in
    let p = err_from_is_err_and c.from_residual.result c.from_residual.ensures.1 in
    rw (p.1, p.2)
    (λ x is.
    subst
    (λ (z : Client). (l : Arrangement)
    × FnOnceReturnsAtMut g.F.FnOnce c.args.change z.layout (Err c.in_err-change.field-0.0) l
    × (c.get_mut.follows.lender d ≡ with_row serial_of old n (record z { layout = l })))
    (let same : y ≡ x = cc (both.0, is) in same) (
      _,
      record { shown = _; shows = refl; left = _; met = c.in_err-change.ensures; leaves = refl },
      both.1,
    ))
