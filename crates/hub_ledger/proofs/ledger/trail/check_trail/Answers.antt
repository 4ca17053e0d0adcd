use Rattle.hub_ledger.proofs.Vocabulary.{◌≡◌, [], ℕ, List, subst, sym, Edition, UserId, Entry, AreGood, AreJudgeable}
use Rattle.hub_ledger.proofs.Vocabulary.{IsBadAt, IsIllegalAt, AreLegal, bad_illegal}
use Rattle.hub_check.proofs.Judged.{good_legal}
use Rattle.hub_ledger.proofs.OtherOwner.{legal_until}
use Rattle.hub_ledger.proofs.ledger.trail.check_trail.Goals as goal

-- the same entries, judged by the same edition
legal_for : (here edition : Edition) (owner : UserId) (es entries : List Entry) → here ≡ edition → es ≡ entries
    → AreGood here owner [] es → AreLegal edition owner [] entries
legal_for here edition owner es entries same is good =
    subst (λ (x : List Entry). AreLegal edition owner [] x) is
    (subst (λ (x : Edition). AreLegal x owner [] es) same (good_legal here owner [] es good))

illegal_for : (here edition : Edition) (user owner : UserId) (es entries : List Entry) (place : ℕ) → here ≡ edition
    → es ≡ entries → user ≡ owner → AreJudgeable edition owner [] entries → IsBadAt here user [] es place
    → IsIllegalAt edition user [] entries place
illegal_for here edition user owner es entries place same is own judged bad =
    bad_illegal edition user [] entries place
    (subst (λ (u : UserId). AreJudgeable edition u [] entries) (sym own) judged)
    (subst (λ (x : List Entry). IsBadAt edition user [] x place) is
    (subst (λ (x : Edition). IsBadAt x user [] es place) same bad))

pub returns-clause-legal : goal.returns-clause-legal
returns-clause-legal c = λ ok. legal_for c.acl_edition.result c.args.trail.now.edition c.args.owner
    c.entries.result.now.entries c.args.trail.now.entries c.acl_edition.ensures c.entries.ensures
    (c.check_entries.ensures.good ok)

pub returns-clause-bad : goal.returns-clause-bad
returns-clause-bad c = λ place own err.
    illegal_for c.acl_edition.result c.args.trail.now.edition c.args.owner c.args.trail.now.owner
    c.entries.result.now.entries c.args.trail.now.entries place c.acl_edition.ensures c.entries.ensures own
    c.is_judgeable.ensures (c.check_entries.ensures.bad place err)

bad_for : (here edition : Edition) (user : UserId) (es entries : List Entry) (place : ℕ) → here ≡ edition → es ≡ entries
    → IsBadAt here user [] es place → IsBadAt edition user [] entries place
bad_for here edition user es entries place same is bad =
    subst (λ (x : List Entry). IsBadAt edition user [] x place) is
    (subst (λ (x : Edition). IsBadAt x user [] es place) same bad)

pub returns-clause-first : goal.returns-clause-first
returns-clause-first c = λ place err.
    bad_for c.acl_edition.result c.args.trail.now.edition c.args.owner c.entries.result.now.entries
    c.args.trail.now.entries place c.acl_edition.ensures c.entries.ensures (c.check_entries.ensures.bad place err)

pub returns-clause-legal_until : goal.returns-clause-legal_until
returns-clause-legal_until c = λ place legal err.
    legal_until c.args.trail.now.edition c.args.trail.now.owner c.args.owner c.args.trail.now.entries place
    c.is_judgeable.ensures legal
    (bad_for c.acl_edition.result c.args.trail.now.edition c.args.owner c.entries.result.now.entries
    c.args.trail.now.entries place c.acl_edition.ensures c.entries.ensures (c.check_entries.ensures.bad place err))
