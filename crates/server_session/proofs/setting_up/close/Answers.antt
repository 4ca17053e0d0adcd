use Rattle.std.proofs.Common.{◌≡◌, ◌∙◌, ap, ℕ, true, false, not, Option, None, Some, is_some}
use Rattle.hub.specs.Closing.{IsFirstWrong, receipts_of}
use Rattle.server_session.proofs.setting_up.close.Goals as goal

none_by : (P : Option ℕ → Type 0) (o : Option ℕ) → P o → is_some o ≡ false → P None
none_by P None p e = p
none_by P (Some n) p e = absurd (cc (e))

some_by : (P : Option ℕ → Type 0) (o : Option ℕ) → P o → is_some o ≡ true → (n : ℕ) × P (Some n)
some_by P None p e = absurd (cc (e))
some_by P (Some n) p e = (n, p)

pub returns-clause-agrees : goal.returns-clause-agrees
returns-clause-agrees g c is_so = none_by (IsFirstWrong c.close-trail.result.0.entries (receipts_of c.args.left.items))
    c.close-trail.result.1 c.close-trail.ensures.wrong (c.is_none-is_so.ensures ∙ ap not is_so)

pub returns-clause-differs : goal.returns-clause-differs
returns-clause-differs g c is_so = some_by (IsFirstWrong c.close-trail.result.0.entries (receipts_of c.args.left.items))
    c.close-trail.result.1 c.close-trail.ensures.wrong (c.is_none-is_so.ensures ∙ ap not is_so)
