use Rattle.std.proofs.Common.{◌≡◌, ◌+◌, ◌++◌, ◌∷◌, [], ℕ, List, take, get_or, refl, ap, ap₂, sym, subst, ◌∙◌}
use Rattle.std.proofs.Common.{append-nil, append_assoc, arith}
use Rattle.std.specs.Option.{option_or}
use Rattle.std.proofs.lemmas.List.{take_more}
use Rattle.client_words.specs.declared.size_lines.SizeLines.{SizeLines}
use Rattle.client_words.specs.Lines.{size_of, ended, unended, last_size}
use Rattle.client_words.specs.Stands.{StandsFor}
use Rattle.client_words.proofs.Parts.{ended-unended, unended-behind}
use Rattle.client_words.proofs.Standing.{stands-same, says, last-byte}
use Rattle.client_words.proofs.size_lines.SizeLines.feed.Goals as goal

pub loop-byte-init : goal.loop-byte-init
loop-byte-init c =
    let reader : SizeLines = record { line = c.reserve.new.self; has_dropped = c.args.self.now.has_dropped } in
    record {
      size = λ before s. sym
          (ap (λ (l : List ℕ). last_size (ended l)) (append-nil (unended before))
          ∙ ap last_size (ended-unended before));
      stands = λ before s. subst (λ (l : List ℕ). StandsFor reader l) (sym (append-nil before))
          (stands-same c.args.self.now reader before c.reserve.ensures.items refl s);
      room = omega (arith, c.in_ok-reserve.ensures.ok);
    }

pub loop-byte-preserved : goal.loop-byte-preserved
loop-byte-preserved c =
    let bytes : List ℕ = c.args.bytes.now in
    let i : ℕ = c.loop-byte.byte-index in
    let byte : ℕ = get_or bytes i 0 in
    let more : take (i + 1) bytes ≡ take i bytes ++ byte ∷ [] = take_more bytes i 0 c.loop-byte-test.true in
    record {
      size = λ before s.
          c.or-last.ensures ∙ ap₂ option_or c.take.ensures.size (c.loop-byte.invariant.size before s)
          ∙ last-byte (unended before ++ take i bytes) byte c.loop-byte.self.line.items
          (says c.loop-byte.self (before ++ take i bytes) (c.loop-byte.invariant.stands before s)
          ∙ ap size_of (unended-behind before (take i bytes)))
          ∙ ap (λ (l : List ℕ). last_size (ended l))
          (append_assoc (unended before) (take i bytes) (byte ∷ [])
          ∙ ap (λ (l : List ℕ). unended before ++ l) (sym more));
      stands = λ before s.
          subst (λ (l : List ℕ). StandsFor c.take.new.self l)
          (append_assoc before (take i bytes) (byte ∷ []) ∙ ap (λ (l : List ℕ). before ++ l) (sym more))
          (c.take.ensures.stands (before ++ take i bytes) (c.loop-byte.invariant.stands before s));
      room = omega (arith, c.take.ensures.room);
    }
