use Rattle.acl.proofs.Vocabulary.{◌≡◌, ◌≤◌, drop, count_by, spare, Edition, UserId, History, followed_by, AllMayFollow}
use Rattle.acl.proofs.Vocabulary.{makes_known, sets_mask, StandsFor, table_of}
use Rattle.acl.proofs.carry.apply_all.Given as goal

-- the history after the acts before this index, and the acts that are still to follow
abbrev pub invariant-loop-act : goal.invariant-loop-act
invariant-loop-act g l = record {
  stands : (edition : Edition) (owner : UserId) (h : History) → StandsFor (table_of l.fn.lists) edition owner h
      → AllMayFollow edition owner h l.acts
      → (past : History) × StandsFor (table_of l.lists) edition owner past
      × AllMayFollow edition owner past (drop l.act-index l.acts)
      × (followed_by past (drop l.act-index l.acts) ≡ followed_by h l.acts)
      × (g.F.Follower.follows l.fn.follower edition owner h → g.F.Follower.follows l.follower edition owner past);
  rows : count_by makes_known (drop l.act-index l.acts) ≤ spare l.lists.rows;
  masks : count_by sets_mask (drop l.act-index l.acts) ≤ spare l.lists.masks;
}
