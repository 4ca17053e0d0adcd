-- What a user has paid for steps, and how much of that comes back.
use Rattle.std.specs.Prelude.{ℕ, ◌+◌, ◌-◌, ◌/◌, ◌<◌, min, max}
use Rattle.server_users.specs.declared.allowance.Outcome.{Outcome}
use Rattle.server_users.specs.declared.allowance.Outcome.TheVariants as outcome

pub record Purse : Type 0 where
  -- what was paid and hasn't come back yet, in milliseconds
  pub spent : ℕ
  -- the part of it that was paid for steps that weren't checked
  pub lent : ℕ
  -- what commands that were granted used and hasn't come back yet, in milliseconds
  pub used : ℕ
  -- the time of the last change, in milliseconds
  pub seen : ℕ

abbrev pub fresh : Purse
fresh = record { spent = 0; lent = 0; used = 0; seen = 0 }

-- in each millisecond, one of the milliseconds that were paid comes back, and one of those that were used
abbrev pub stands_at : ℕ → Purse → Purse
stands_at now p =
    let spent : ℕ = p.spent - (now - p.seen) in
    record {
      spent = spent;
      lent = min p.lent spent;
      used = p.used - (now - p.seen);
      seen = max p.seen now;
    }

-- 1,000 units may be spent, of a second each, and 1,000 used, of a fifth of a second each
abbrev pub MayPay : Purse → Type 0
MayPay p = (p.spent < 1000000) × (p.used < 200000)

abbrev pub paid : ℕ → Purse → Purse
paid cost p = record p { spent = p.spent + cost }

-- a cost came back, and what was lent; so much of them was used, at a fifth of its price
abbrev pub given_back : ℕ → ℕ → Purse → Purse
given_back cost used p = record p {
  spent = p.spent - (cost + p.lent);
  lent = 0;
  used = min (p.used + used / 5) 1000000;
}

-- the purse after a step of this cost and outcome
abbrev pub settled : Outcome → ℕ → Purse → Purse
settled outcome.Granted cost p = given_back cost (cost + p.lent) p
settled outcome.Typed cost p = given_back cost p.lent p
settled outcome.Unchecked cost p = record p { lent = min (p.lent + cost) p.spent }
settled outcome.Denied cost p = p
settled outcome.Untaken cost p =
    record p { spent = p.spent - cost; lent = min p.lent (p.spent - cost) }
