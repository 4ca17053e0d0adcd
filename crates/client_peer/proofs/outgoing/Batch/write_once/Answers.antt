use Rattle.std.proofs.Common.{◌≡◌, ◌-◌, ◌∙◌, ℕ, true, List, [], Option, length, take, drop, ap, subst, arith, length-drop}
use Rattle.std.specs.Io.KnownBytes.{Appends, Keeps}
use Rattle.std.proofs.KnownBytes.{Appends-kept, Appends-nil}
use Rattle.std.proofs.lemmas.List.{take_all}
use Rattle.client_peer.specs.declared.outgoing.Batch.{Batch}
use Rattle.client_peer.proofs.Sending.{sends_first, sends_none}
use Rattle.client_peer.proofs.outgoing.Batch.write_once.Goals as goal
use Rattle.client_peer.proofs.outgoing.Batch.write_once.Goals.{in-Ok-eq0, in-Ok, in-Err+in-Interrupted, in-Err+in_default}

pub returns : goal.returns
returns g c =
    let old : Batch = c.args.self.now in
    let new : Batch = c.match-write.self in
    let had : Option (List ℕ) = g.S.Write.contents c.args.stream.now in
    let has : Option (List ℕ) = g.S.Write.contents c.write.new.self in
    let lent : List ℕ = c.deref.result.now in
    let offered : List ℕ = take (length lent - old.sent) (drop old.sent lent) in
    let same : offered ≡ drop old.sent old.frames.items =
    take_all (length lent - old.sent) (drop old.sent lent) (omega (arith, length-drop old.sent lent))
    ∙ ap (λ (l : List ℕ). drop old.sent l) c.deref.ensures.value in
    let none : Keeps had has → Appends had has [] = λ k. Appends-kept had had has [] (Appends-nil had) k in
    elim c.match-write.branch [
      | in-Ok-eq0 w ↦ sends_none had has old new true
          (subst (λ n. Appends had has (take n offered)) w.in-Ok-eq0.field-0-test w.in-Ok-eq0.ensures.bytes) w.self-is
      | in-Ok w ↦ sends_first had has old new w.in-Ok.count offered same w.in-Ok.ensures.bytes w.self-is
      | in-Err+in-Interrupted w ↦ sends_none had has old new old.is_shut (none w.in-Err.ensures.bytes) w.self-is
      | in-Err+in_default w ↦ sends_none had has old new true (none w.in-Err.ensures.bytes) w.self-is
    ]
