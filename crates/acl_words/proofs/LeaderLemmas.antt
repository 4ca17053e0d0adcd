-- Facts of names that stand at the front of a fixed array.
use Rattle.std.proofs.Common.{ℕ, ◌+◌, ◌-◌, ◌<◌, List, drop, replicate, arith, ap, ◌∙◌, sym, set}
use Rattle.std.proofs.lemmas.List.{drop-set-lt, drop-replicate, length-set, drop-drop}
use Rattle.acl_words.specs.Leaders.{AreFront, blank}
use Rattle.acl_words.specs.declared.user_id.UserId.{UserId}

pub front_pushed : (count : ℕ) (x : UserId) (names : List UserId) → AreFront count names → count < 8
    → AreFront (count + 1) (set names count x)
front_pushed count x names h k = (
  omega arith,
  length-set names count x ∙ h.1,
  drop-set-lt (count + 1) names count x (omega arith) ∙ sym (drop-drop 1 count names) ∙ ap (drop 1) h.2
      ∙ drop-replicate 1 (8 - count) blank ∙ ap (λ n. replicate n blank) (omega arith),
)
