use Rattle.session_state.proofs.Vocabulary.{◌≡◌, ◌∙◌, ap, subst, rules, FnOnceReturnsAtMut, Arrangement, with_row}
use Rattle.session_state.proofs.Vocabulary.{Client, moved_to}
use Rattle.session_state.proofs.Changing.{serial_of, lent_at, none_lent}
use Rattle.session_state.proofs.clients.Clients.on_page.Goals as goal

pub returns : goal.returns
returns g c =
    let old = c.args.self.now in
    let n = c.args.serial in
    let both = lent_at old c.self.inside.rows n c.get_mut.result c.in-Some.client c.get_mut.follows.lender
    c.see.new.self c.self.view_is c.get_mut.follows.claims c.get_mut.follows.holds c.in-Some.is in
    record {
      there = λ x is.
          subst
          (λ (y : Client). (l : Arrangement) × FnOnceReturnsAtMut g.F.FnOnce c.args.change y.layout tt l
          × (c.get_mut.follows.lender c.see.new.self ≡ with_row serial_of old n (moved_to l y)))
          (let same : c.in-Some.client.now ≡ x = cc (both.0, is) in same)
          (_, search rules, both.1 ∙ ap (with_row serial_of old n) c.see.ensures);
      none = λ is. absurd (cc (both.0, is));
    }

pub returns-in_default : goal.returns-in_default
returns-in_default g c =
    let old = c.args.self.now in
    let none = none_lent old c.self.inside.rows c.args.serial c.get_mut.result c.self.view_is
    c.get_mut.follows.claims c.in_default.is in
    record {
      there = λ x is. absurd (cc (none, is));
      none = λ is. c.get_mut.follows.holds-at-none ∙ c.self.view_is;
    }
