use Rattle.session.proofs.Vocabulary.{◌≡◌, refl, ap, sym, ◌∙◌, List, ℕ, None, UserId, line_of, text_of, Trace}
use Rattle.session.proofs.Vocabulary.{EventValue, Command, StandsFor, Refuses, spoken}
use Rattle.session.proofs.Giving.{one_done, one_refused, refused_by}
use Rattle.session.proofs.setup_file.give.Goals as goal

-- the event of what a line says
abbrev event_of : UserId × List ℕ → EventValue
event_of p = Command p.0 None p.1

given : (owner : UserId) (bytes line : List ℕ) (p : UserId × List ℕ) → p ≡ spoken owner bytes → bytes ≡ line
    → Command p.0 None p.1 ≡ Command (spoken owner line).0 None (spoken owner line).1
given owner bytes line p is same = ap event_of is ∙ ap (λ b. event_of (spoken owner b)) same

pub returns-in-Ok-clause-done : goal.returns-in-Ok-clause-done
returns-in-Ok-clause-done c = λ h st.
    one_done h c.args.session.now c.step-reply.new.self c.args.owner (line_of c.args.line.now)
    (Command c.spoken.result.0 None c.spoken.result.1.now) _ _ _ c.step-reply.result c.in-Ok._done
    (given c.args.owner _ _ _ c.spoken.ensures c.as_bytes.ensures.value) c.in-Ok.is
    (c.step-reply.ensures.step (sym c.wants_memory.ensures ∙ c.if-wants_memory.false)) st

pub returns-clause-refused : goal.returns-clause-refused
returns-clause-refused c =
    refused_by c.refused.result c.args.line.now.number (text_of c.in-Err.refusal)
    (λ said. (h : Trace) → StandsFor h c.args.session.now → Refuses h c.args.owner (line_of c.args.line.now) said)
    c.refused.ensures
    (λ h st. one_refused h c.args.session.now c.step-reply.new.self c.args.owner (line_of c.args.line.now)
    (Command c.spoken.result.0 None c.spoken.result.1.now) _ _ _ c.step-reply.result c.in-Err.refusal
    (text_of c.in-Err.refusal)
    (given c.args.owner _ _ _ c.spoken.ensures c.as_bytes.ensures.value) c.in-Err.is
    (c.step-reply.ensures.step (sym c.wants_memory.ensures ∙ c.if-wants_memory.false)) refl st)
