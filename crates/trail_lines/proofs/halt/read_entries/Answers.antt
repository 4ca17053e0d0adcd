use Rattle.trail_lines.proofs.Vocabulary.{◌≡◌, ◌+◌, ◌++◌, ◌∷◌, [], ℕ, List, Option, Some, ◌∙◌, ap, sym, subst, arith}
use Rattle.trail_lines.proofs.Vocabulary.{IfSome, Edition, UserId, Entry, read_line, said, Audit, Halt, Times, OfKnown}
use Rattle.trail_lines.proofs.Vocabulary.{time_after, HasRead, IsWrong, entries_in, IsEnd, NextIs, TellsOf}
use Rattle.trail_lines.specs.declared.halt.Halt.TheVariants as halt
use Rattle.trail_lines.proofs.Halted.{count_in, count_more, entries_more, times_more, read_more, read_to, stops_at}
use Rattle.trail_lines.proofs.halt.read_entries.Goals as goal

tells : (h : Halt) (audit : Audit) (line : List ℕ) (edition : Edition) (owner : UserId) (entries : List Entry) → IsEnd h
    → HasRead audit edition owner entries → TellsOf h audit line edition owner entries
tells halt.Nothing audit line edition owner entries is read = read
tells halt.Torn audit line edition owner entries is read = read
tells (halt.Last number) audit line edition owner entries is read = read
tells (halt.Stopped number wrong) audit line edition owner entries is read = absurd is

pub returns-in-Some : goal.returns-in-Some
returns-in-Some g c = λ edition owner fresh.
    let come = c.loop-number.invariant edition owner fresh in
    let is_end = subst (λ (h : Option Halt). IfSome h IsEnd) c.in-Some.is c.in_ok-halt.ensures.end in
    let halts = subst (λ (h : Option Halt). OfKnown (g.R.Read.remaining c.loop-number.reader)
    (g.R.Read.remaining c.next_entry.new.reader) (NextIs h c.loop-number.number c.next_entry.new.line.items))
    c.in-Some.is c.in_ok-halt.ensures.next in
    record {
      said = come.said;
      tells = tells c.in-Some.halt c.loop-number.audit c.next_entry.new.line.items edition owner
          (entries_in come.said) is_end come.read;
      times = λ is. come.times;
      from = read_to c.in-Some.halt come.said c.next_entry.new.line.items c.loop-number.number _ _ _
          come.place come.from halts;
    }

pub returns-in-Err : goal.returns-in-Err
returns-in-Err g c = λ edition owner fresh.
    let come = c.loop-number.invariant edition owner fresh in
    let next = subst (λ (h : Option Halt). OfKnown (g.R.Read.remaining c.loop-number.reader)
    (g.R.Read.remaining c.next_entry.new.reader) (NextIs h c.loop-number.number c.next_entry.new.line.items))
    c.in_default.is c.in_ok-halt.ensures.next in
    let wrong = c.in-Err.ensures.tells edition owner (entries_in come.said) come.read in
    record {
      said = come.said;
      tells = (
        come.place ∙ ap (λ n. n + 2) (sym (count_in come.said)),
        subst (λ (line : List ℕ). IsWrong c.in-Err.wrong line edition owner (entries_in come.said))
            c.as_slice.ensures.value wrong,
      );
      times = λ is. absurd is;
      from = read_to (halt.Stopped c.loop-number.number c.in-Err.wrong) come.said
          c.next_entry.new.line.items c.loop-number.number _ _ _ come.place come.from
          (stops_at c.in-Err.wrong c.next_entry.new.line.items c.loop-number.number _ _ next);
    }

pub loop-number-preserved : goal.loop-number-preserved
loop-number-preserved g c = λ edition owner fresh.
    let come = c.loop-number.invariant edition owner fresh in
    let next = subst (λ (h : Option Halt). OfKnown (g.R.Read.remaining c.loop-number.reader)
    (g.R.Read.remaining c.next_entry.new.reader) (NextIs h c.loop-number.number c.next_entry.new.line.items))
    c.in_default.is c.in_ok-halt.ensures.next in
    let takes = c.in_default-take.ensures.tells edition owner (entries_in come.said) come.read in
    let x = said c.in_default-take.field-0 in
    let is = subst (λ (line : List ℕ). read_line line ≡ Some x) c.as_slice.ensures.value takes.is in
    record {
      said = come.said ++ x ∷ [];
      read = subst (HasRead c.take.new.self edition owner) (sym (entries_more come.said x)) takes.read;
      times = c.in_default-take.ensures.times
          ∙ (ap (λ (t : Times). time_after t x.0 x.1) come.times
          ∙ sym (times_more c.args.audit.now.times come.said x));
      place = omega (arith, come.place, count_more come.said x);
      from = read_more come.said x c.next_entry.new.line.items c.loop-number.number _ _ _ come.from
          next is;
    }
