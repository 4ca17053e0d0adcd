use Rattle.std.proofs.Common.{◌≡◌, ◌∙◌, ◌<◌, ◌&&◌, ◌+◌, ℕ, true, false, not, ap, sym, subst, nat_lt}
use Rattle.std.proofs.lemmas.Bool.{lt-ltb}
use Rattle.acl.specs.History.{is_known, is_open, open_count}
use Rattle.rights.proofs.Redoing.{both}
use Rattle.rights.proofs.moves.open.Goals as goal

pub returns : goal.returns
returns c = λ edition owner h s.
    let known : is_known owner h c.args.by ≡ true = sym (s.acl.known c.args.by)
    ∙ (sym c.knows.ensures ∙ c.if-not-knows.false) in
    let closed : is_open h c.args.window ≡ false = sym (c.is_open.ensures edition owner h s) ∙ c.if-is_open.false in
    let room : open_count h < 40 = subst (λ (k : ℕ). k < 40) s.count c.if-rights-ge-WINDOWS.false in (
      sym (both (is_known owner h c.args.by) (not (is_open h c.args.window) && nat_lt (open_count h) 40) known
          (both (not (is_open h c.args.window)) (nat_lt (open_count h) 40) (ap not closed)
          (lt-ltb (open_count h) 40 room))),
      λ is. record {
        acl = c.window_opened.ensures edition owner h s.acl known closed room;
        locks = c.opened.ensures edition owner h s.locks closed room;
        clients = s.clients;
        differ = s.differ;
        count = ap (λ k. k + 1) s.count;
      },
    )
