use Rattle.std.proofs.Common.{◌≡◌, ◌∙◌, ℕ, List, Option, None, length, refl, subst, sym, rules}
use Rattle.std.proofs.lemmas.Result.{IfOk-weaker}
use Rattle.acl.specs.declared.leaders.Edition.{Edition}
use Rattle.acl.specs.declared.user_id.UserId.{UserId}
use Rattle.trail_files.specs.Finishing.{EndsAt, Finishes}
use Rattle.trail_files.specs.declared.check.Finish.{Finish}
use Rattle.trail_lines.specs.Entries.{Said}
use Rattle.trail_lines.specs.declared.halt.Halt.{Halt}
use Rattle.trail_lines.specs.declared.halt.Halt.TheVariants as halt
use Rattle.trail_lines.proofs.Halted.{count_in}
use Rattle.mux_trail.specs.Reading.{AreTaken, TakesAll}
use Rattle.mux_trail.proofs.reading.take_file.Goals as goal

-- what is counted are the entries that were taken
counted : (After : List Said → Type 0) (f : Finish) (h : Halt) (n : ℕ) (line : List ℕ) (edition : Edition)
    (owner : UserId) (said : List Said) (behind : Option (List ℕ)) → TakesAll After h line edition owner said
    → (After said → n ≡ length said) → Finishes f h n line behind → Finishes f h (length said) line behind
counted After f halt.Nothing n line edition owner said behind takes is ends = ends
counted After f halt.Torn n line edition owner said behind takes is ends = ends
counted After f (halt.Last number) n line edition owner said behind takes is ends =
    subst (λ (k : ℕ). EndsAt f k number line behind) (is takes) ends
counted After f (halt.Stopped number w) n line edition owner said behind takes is ends = ends

pub returns : goal.returns
returns g c = λ edition owner fresh.
    let first = c.args.taker.now in
    let After = g.T.TakesEntries.has_taken first c.take_entries.new.taker edition owner in
    let line = c.take_entries.new.line.items in
    let rest = g.R.Read.remaining c.take_entries.new.reader in
    let f = c.in_ok-finish.finish in
    let taken = subst (λ (last : ℕ). AreTaken After c.in_ok-halt.halt line last edition owner
    (g.R.Read.remaining c.args.reader.now) rest) c.unwrap_or-last.ensures (c.in_ok-halt.ensures edition owner fresh) in
    let ends = subst (λ (l : List ℕ). EndsAt f c.count-count.result c.in-Last.number l None) c.as_slice.ensures.value
    c.in_ok-finish.ensures in
    record {
      halt_is = c.in_ok-halt.halt;
      line = line;
      rest = rest;
      behind = None;
      taken = taken;
      finishes = counted After f c.in_ok-halt.halt c.count-count.result line edition owner taken.said None taken.takes
          (λ after. c.count-count.ensures first edition owner taken.said after ∙ count_in taken.said)
          (subst (λ (h : Halt). Finishes f h c.count-count.result line None) (sym c.in-Last.is) ends);
      looked = search rules;
    }

pub returns-2 : goal.returns-2
returns-2 g c = λ edition owner fresh.
    let first = c.args.taker.now in
    let After = g.T.TakesEntries.has_taken first c.take_entries.new.taker edition owner in
    let line = c.take_entries.new.line.items in
    let rest = g.R.Read.remaining c.take_entries.new.reader in
    let taken = subst (λ (last : ℕ). AreTaken After c.in_ok-halt.halt line last edition owner
    (g.R.Read.remaining c.args.reader.now) rest) c.unwrap_or-last.ensures (c.in_ok-halt.ensures edition owner fresh) in
    IfOk-weaker c.finish_of.result _ _ (λ f ends. record {
      halt_is = c.in_ok-halt.halt;
      line = line;
      rest = rest;
      behind = rest;
      taken = taken;
      finishes = counted After f c.in_ok-halt.halt c.count-count.result line edition owner taken.said rest taken.takes
          (λ after. c.count-count.ensures first edition owner taken.said after ∙ count_in taken.said) ends;
      looked = λ is. refl;
    }) c.finish_of.ensures
