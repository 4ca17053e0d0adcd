use Rattle.std.proofs.Common.{◌≡◌, ◌++◌, [], List, ℕ, true, sym, subst}
use Rattle.std.proofs.lemmas.Bool.{false≢true}
use Rattle.std.specs.Prelude.{drop}
use Rattle.server_inbox.specs.Asking.{HasTaken, Lies}
use Rattle.server_inbox.specs.declared.inbox.Inbox.{Inbox}
use Rattle.server_inbox.proofs.Asking.{added, kept_after, lost_more}
use Rattle.server_inbox.proofs.inbox.Inbox.take.Goals as goal

pub returns-in-Ok-clause-stands : goal.returns-in-Ok-clause-stands
returns-in-Ok-clause-stands c = λ taken stream none sound h.
    let old = c.args.self.now in
    let bytes = c.args.bytes.now in
    let reader = c.args.reader.now in
    let seen : (old.rest.items ≡ []) × (old.seen ≡ 0) = h.through none sound in
    let more = added old.messages.items (drop old.seen old.rest.items) bytes old.is_broken reader taken stream h.lies in
    let lies = subst (λ (xs : List ℕ). HasTaken old.messages.items xs old.is_broken reader taken (stream ++ bytes))
    (sym (kept_after old.seen old.rest.items c.keep.new.self.rest.items bytes seen.0 seen.1 c.in-Ok.ensures.kept)) more in
    record {
      lies = c.refill.ensures.lies taken (stream ++ bytes)
          (subst (λ (i : Inbox). Lies i reader taken (stream ++ bytes)) (sym c.keep.ensures.same) lies);
      through = c.refill.ensures.through;
    }

pub returns-in-Err-clause-stands : goal.returns-in-Err-clause-stands
returns-in-Err-clause-stands c = λ taken stream none sound h.
    let old = c.args.self.now in
    let bytes = c.args.bytes.now in
    let reader = c.args.reader.now in
    record {
      lies = subst (λ (i : Inbox). HasTaken i.messages.items (drop i.seen i.rest.items) true reader taken
          (stream ++ bytes)) (sym c.keep.ensures.same)
          (lost_more old.messages.items (drop old.seen old.rest.items) (drop old.seen c.keep.new.self.rest.items) bytes
          old.is_broken reader taken stream h.lies sound);
      through = λ _ e. absurd (false≢true (sym e));
    }
