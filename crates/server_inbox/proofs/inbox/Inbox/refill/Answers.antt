use Rattle.std.proofs.Common.{◌∙◌, List, ℕ, sym, ap, subst, arith, rules}
use Rattle.std.proofs.lemmas.List.{drop_all, nil_from_length}
use Rattle.std.proofs.lemmas.Grind.{common_steps}
use Rattle.server_inbox.specs.Asking.{HasTaken}
use Rattle.server_inbox.specs.declared.inbox.Inbox.{Inbox}
use Rattle.server_inbox.proofs.inbox.Inbox.refill.Goals as goal

pub pieces-preserved : goal.pieces-preserved
pieces-preserved c = record {
  lay = λ taken stream h. c.look.ensures.lies taken stream
      (nil_from_length c.pieces.self.messages.items (grind (arith, common_steps))) c.if-self.false
      (c.pieces.invariant.lay taken stream h);
  as_before = c.look.ensures.same ∙ ap (λ (s : Inbox). record s {
    messages = c.look.new.self.messages;
    seen = c.look.new.self.seen;
    is_broken = c.look.new.self.is_broken;
  }) c.pieces.invariant.as_before ∙ ap (λ r. record c.args.self.now {
    messages = c.look.new.self.messages;
    rest = r;
    seen = c.look.new.self.seen;
    is_broken = c.look.new.self.is_broken;
  }) (sym (ap (λ (s : Inbox). s.rest) c.look.ensures.same));
  same_rest = ap (λ (s : Inbox). s.rest) c.look.ensures.same ∙ c.pieces.invariant.same_rest;
  further = let on = c.look.ensures.on (grind (arith, common_steps)) in omega (arith, on, c.pieces.invariant.further);
}

pub returns-then-self-len-2-clause-lies : goal.returns-then-self-len-2-clause-lies
returns-then-self-len-2-clause-lies c = λ taken stream h. subst
    (λ (xs : List ℕ). HasTaken c.pieces.self.messages.items xs c.pieces.self.is_broken c.pieces.reader taken stream)
    (drop_all c.pieces.self.seen c.pieces.self.rest.items (search rules) ∙ sym c.new.ensures.items)
    (c.pieces.invariant.lay taken stream h)

pub returns-then-self-len-2-clause-same : goal.returns-then-self-len-2-clause-same
returns-then-self-len-2-clause-same c =
    ap (λ (s : Inbox). record s { rest = c.new.result; seen = 0 }) c.pieces.invariant.as_before
