use Rattle.std.proofs.Common.{rules, refl, true}
use Rattle.client_peer.specs.declared.peer.Peer.{Peer}
use Rattle.client_peer.proofs.Passing.{passes_keeps, passes_then}
use Rattle.client_peer.proofs.peer.Peer.help.Goals as goal

pub returns-clause-helps : goal.returns-clause-helps
returns-clause-helps c = λ asks.
    let middle : Peer = c.put_draw.new.self in
    let new : Peer = record middle { is_helping = true; is_covered = true } in record {
      shows = λ free. (
        refl,
        refl,
        passes_then c.args.self.now middle new c.in_ok-put_draw.ensures.ok
            (passes_keeps middle new (record { subcommand = refl; draws = refl; kept = refl })),
        c.in_ok-page.page.items,
        c.in_ok-page.ensures,
        c.in_ok-put_draw.ensures.added,
      );
      stays = λ busy. search rules;
    }
