use Rattle.trail_rights.proofs.Vocabulary.{◌≡◌, ◌+◌, ◌≤◌, ◌++◌, ◌∷◌, [], ℕ, List, Option, Some, None, length, rules}
use Rattle.trail_rights.proofs.Vocabulary.{refl, ◌∙◌, subst, arith, inl, inr, IfSome, Edition, UserId, Said, read_line}
use Rattle.trail_rights.proofs.Vocabulary.{said, OfKnown, IsWrong, AreRead, entries_in, Follows, HasWatched}
use denote.Param.Always.{mut_next}
use Rattle.std.proofs.iter.Next.{called_at}
use Rattle.trail_lines.specs.declared.halt.Halt.{Halt}
use Rattle.trail_lines.specs.declared.halt.Halt.TheVariants as halt
use Rattle.trail_lines.specs.Halting.{IsEnd, IsReadTo, NextIs}
use Rattle.trail_lines.proofs.Halted.{count_in, count_more, read_more, read_to, stops_at}
use Rattle.trail_rights.specs.declared.watch.Watch.{Watch}
use Rattle.trail_rights.specs.Watching.{IsWatchedTo, TellsAll}
use Rattle.trail_rights.proofs.Seen.{folds_more}
use Rattle.trail_rights.proofs.watch.watch_entries.Goals as goal

tells : (h : Halt) (w : Watch) (line : List ℕ) (edition : Edition) (owner : UserId) (said : List Said) → IsEnd h
    → HasWatched w edition owner said → TellsAll h w line edition owner said
tells halt.Nothing w line edition owner said is watched = watched
tells halt.Torn w line edition owner said is watched = watched
tells (halt.Last number) w line edition owner said is watched = watched
tells (halt.Stopped number wrong) w line edition owner said is watched = absurd is

all_watched : (last : ℕ) (said : List Said) (line : List ℕ) (old now : Option (List ℕ)) → length said ≡ last + 1
    → OfKnown old now (AreRead said) → OfKnown old now (IsWatchedTo halt.Nothing last said line)
all_watched last said line None now all a = tt
all_watched last said line (Some bytes) None all a = absurd a
all_watched last said line (Some bytes) (Some rest) all a = inl (all, refl, a)

halted : (h : Halt) (last : ℕ) (said : List Said) (line : List ℕ) (old new : Option (List ℕ)) → length said ≤ last
    → OfKnown old new (IsReadTo h said line) → OfKnown old new (IsWatchedTo h last said line)
halted h last said line None new few a = tt
halted h last said line (Some bytes) None few a = absurd a
halted h last said line (Some bytes) (Some rest) few a = inr (few, a)

pub returns-then-count-last-clause-watched : goal.returns-then-count-last-clause-watched
returns-then-count-last-clause-watched g c = λ edition owner fresh.
    let come = c.loop-number.invariant.0 edition owner fresh in
    let counted : c.loop-number.watch.audit.next ≡ length come.0 = come.1.read.next ∙ count_in come.0 in
    let all : length come.0 ≡ c.args.last + 1 =
    omega (arith, come.3, counted, c.count.ensures, c.if-count-last.true) in
    record {
      said = come.0;
      tells = come.1;
      few = come.3;
      from = all_watched c.args.last come.0 c.loop-number.line.items _ _ all come.4;
      done = (_, come.5);
    }

pub returns-in-Some-clause-watched : goal.returns-in-Some-clause-watched
returns-in-Some-clause-watched g c = λ edition owner fresh.
    let come = c.loop-number.invariant.0 edition owner fresh in
    let counted : c.loop-number.watch.audit.next ≡ length come.0 = come.1.read.next ∙ count_in come.0 in
    let less : length come.0 ≤ c.args.last = omega (arith, counted, c.count.ensures, c.if-count-last.false) in
    let is_end = subst (λ (h : Option Halt). IfSome h IsEnd) c.in-Some.is c.in_ok-halt.ensures.end in
    let halts = subst (λ (h : Option Halt). OfKnown (g.R.Read.remaining c.loop-number.reader)
    (g.R.Read.remaining c.next_entry.new.reader) (NextIs h c.loop-number.number c.next_entry.new.line.items))
    c.in-Some.is c.in_ok-halt.ensures.next in
    record {
      said = come.0;
      tells = tells c.in-Some.halt c.loop-number.watch c.next_entry.new.line.items edition owner come.0
          is_end come.1;
      few = come.3;
      from = halted c.in-Some.halt c.args.last come.0 c.next_entry.new.line.items _ _ less
          (read_to c.in-Some.halt come.0 c.next_entry.new.line.items c.loop-number.number _ _ _ come.2
          come.4 halts);
      done = (_, come.5);
    }

pub returns-in-Err-clause-watched : goal.returns-in-Err-clause-watched
returns-in-Err-clause-watched g c = λ edition owner fresh.
    let come = c.loop-number.invariant.0 edition owner fresh in
    let counted : c.loop-number.watch.audit.next ≡ length come.0 = come.1.read.next ∙ count_in come.0 in
    let less : length come.0 ≤ c.args.last = omega (arith, counted, c.count.ensures, c.if-count-last.false) in
    let next = subst (λ (h : Option Halt). OfKnown (g.R.Read.remaining c.loop-number.reader)
    (g.R.Read.remaining c.next_entry.new.reader) (NextIs h c.loop-number.number c.next_entry.new.line.items))
    c.in_default.is c.in_ok-halt.ensures.next in
    let wrong = c.in-Err.ensures.tells edition owner come.0 come.1 in
    record {
      said = come.0;
      tells = (
        come.2,
        subst (λ (line : List ℕ). IsWrong c.in-Err.wrong line edition owner (entries_in come.0))
            c.as_slice.ensures.value wrong,
      );
      few = come.3;
      from = halted (halt.Stopped c.loop-number.number c.in-Err.wrong) c.args.last come.0
          c.next_entry.new.line.items _ _ less
          (read_to (halt.Stopped c.loop-number.number c.in-Err.wrong) come.0 c.next_entry.new.line.items
          c.loop-number.number _ _ _ come.2 come.4
          (stops_at c.in-Err.wrong c.next_entry.new.line.items c.loop-number.number _ _ next));
      done = (_, come.5);
    }

pub loop-number-preserved : goal.loop-number-preserved
loop-number-preserved g c = (
  λ edition owner fresh.
      let come = c.loop-number.invariant.0 edition owner fresh in
      let counted : c.loop-number.watch.audit.next ≡ length come.0 = come.1.read.next ∙ count_in come.0 in
      let next = subst (λ (h : Option Halt). OfKnown (g.R.Read.remaining c.loop-number.reader)
      (g.R.Read.remaining c.next_entry.new.reader) (NextIs h c.loop-number.number c.next_entry.new.line.items))
      c.in_default.is c.in_ok-halt.ensures.next in
      let takes = c.in-Ok.ensures.tells edition owner come.0 come.1 in
      let x = said c.in-Ok.said in
      let is = subst (λ (line : List ℕ). read_line line ≡ Some x) c.as_slice.ensures.value takes.is in (
        come.0 ++ x ∷ [],
        takes.watched,
        omega (arith, come.2, count_more come.0 x),
        omega (arith, counted, c.count.ensures, c.if-count-last.false, count_more come.0 x),
        read_more come.0 x c.next_entry.new.line.items c.loop-number.number _ _ _ come.4 next is,
        folds_more (Follows g.F.FnMut) _ come.0 _ x _ come.5
            (c.in-Ok.said, refl, called_at g.F.FnMut c.follow.ensures (search rules)),
      ),
  mut_next g.F.FnMut _ _ _ _ _ c.follow.ensures refl c.loop-number.invariant.1,
  c.in-Ok.ensures.asked ∙ c.loop-number.invariant.2,
)
