use Rattle.std.proofs.Common.{◌≡◌, ◌+◌, ◌≤◌, ◌++◌, ◌∷◌, [], ℕ, List, length, take, get_or, vec_capacity, ap, sym, subst}
use Rattle.std.proofs.Common.{◌∙◌, append_assoc, arith}
use Rattle.std.specs.Option.{option_to_list}
use Rattle.std.proofs.lemmas.List.{take_more}
use Rattle.std.proofs.lemmas.Grind.{common_steps}
use Rattle.client_words.specs.Leaving.{sent}
use Rattle.client_words.specs.Stands.{HasRead}
use Rattle.client_words.proofs.leaving.LeaveReader.feed.Goals as goal
use Rattle.client_words.proofs.leaving.LeaveReader.feed.Goals.{in-Some, in_default}

pub loop-byte-preserved : goal.loop-byte-preserved
loop-byte-preserved c =
    let bytes : List ℕ = c.args.bytes.now in
    let i : ℕ = c.loop-byte.byte-index in
    let byte : ℕ = get_or bytes i 0 in
    let own : ℕ = c.args.self.now.byte in
    let more : take (i + 1) bytes ≡ take i bytes ++ byte ∷ [] = take_more bytes i 0 c.loop-byte-test.true in
    let put : c.match-take.out.items ≡ c.loop-byte.out.items ++ option_to_list c.take.result =
    elim c.match-take.branch [ in-Some w ↦ grind (arith, common_steps) | in_default w ↦ grind (arith, common_steps) ] in
    let room : length c.match-take.out.items + length bytes ≤ vec_capacity c.match-take.out + (i + 1) =
    elim c.match-take.branch [ in-Some w ↦ grind (arith, common_steps) | in_default w ↦ grind (arith, common_steps) ] in
    record {
      all_sent = λ before gone s e.
          ap (λ (l : List ℕ). gone ++ l) put
          ∙ sym (append_assoc gone c.loop-byte.out.items (option_to_list c.take.result))
          ∙ ap (λ (l : List ℕ). l ++ option_to_list c.take.result) (c.loop-byte.invariant.all_sent before gone s e)
          ∙ sym
          (subst
          (λ (b : ℕ). sent b ((before ++ take i bytes) ++ byte ∷ []) ≡ sent b (before ++ take i bytes) ++
          option_to_list c.take.result)
          c.loop-byte.invariant.byte
          (c.take.ensures.sent (before ++ take i bytes) (c.loop-byte.invariant.stands before s)))
          ∙ ap (sent own)
          (append_assoc before (take i bytes) (byte ∷ []) ∙ ap (λ (l : List ℕ). before ++ l) (sym more));
      stands = λ before s.
          subst (λ (l : List ℕ). HasRead c.take.new.self l)
          (append_assoc before (take i bytes) (byte ∷ []) ∙ ap (λ (l : List ℕ). before ++ l) (sym more))
          (c.take.ensures.stands (before ++ take i bytes) (c.loop-byte.invariant.stands before s));
      byte = c.take.ensures.byte ∙ c.loop-byte.invariant.byte;
      room = room;
    }
