use Rattle.std.proofs.Common.{◌≡◌, ℕ, List, [], ◌++◌, ◌∙◌, refl, sym, ap, subst, append-nil, append_assoc, arith}
use Rattle.std.proofs.lemmas.Bool.Decides.{nat_tests}
use Rattle.std.proofs.lemmas.List.{nil_from_length}
use Rattle.client_typing.specs.Assisting.{Makes, at, next, none}
use Rattle.client_typing.proofs.typing.Typing.assist.Goals as goal

pub keys-init : goal.keys-init
keys-init c = record {
  sent = [];
  added = sym (append-nil c.args.out.now.items);
  makes = λ more last m. m;
  same = (refl, refl, refl);
}

pub keys-preserved : goal.keys-preserved
keys-preserved c =
    let front : List ℕ = c.keys.invariant.sent in
    let first = c.in_ok-rest.ensures.takes in
    record {
      sent = front ++ first.sent;
      added =
          first.added ∙ ap (λ (l : List ℕ). l ++ first.sent) c.keys.invariant.added
          ∙ append_assoc c.args.out.now.items front first.sent;
      makes = λ more last m.
          subst (λ (l : List ℕ). Makes c.args.page (at c.args.self.now) c.args.keys.now l last)
          (sym (append_assoc front first.sent more))
          (c.keys.invariant.makes (first.sent ++ more) last (next first.makes m));
      same = (
        c.take.ensures.same.0 ∙ c.keys.invariant.same.0,
        c.take.ensures.same.1 ∙ c.keys.invariant.same.1,
        c.take.ensures.same.2 ∙ c.keys.invariant.same.2,
      );
    }

pub returns-clause-assists : goal.returns-clause-assists
returns-clause-assists c =
    let sent : List ℕ = c.keys.invariant.sent in
    let end : c.keys.rest.now ≡ [] = nil_from_length c.keys.rest.now (grind (arith, nat_tests)) in
    let all : Makes c.args.page (at c.args.self.now) c.args.keys.now (sent ++ []) (at c.keys.self) =
    c.keys.invariant.makes [] (at c.keys.self)
    (subst (λ (l : List ℕ). Makes c.args.page (at c.keys.self) l [] (at c.keys.self)) (sym end) none) in
    record {
      sent = sent;
      added = c.keys.invariant.added;
      makes =
          subst (λ (l : List ℕ). Makes c.args.page (at c.args.self.now) c.args.keys.now l (at c.keys.self)) (append-nil sent) all;
    }
