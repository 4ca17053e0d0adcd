use Rattle.trail_rights.proofs.Vocabulary.{◌≡◌, ◌∙◌, ◌++◌, ap, append_assoc, ℕ, List, Result, Ok, Err, preset_text}
use Rattle.std.specs.Prelude.{OnOk, codes, if◌then◌else◌}
use Rattle.std.specs.Result.{is_ok}
use Rattle.acl.specs.declared.PresetKind.TheVariants as kind
use Rattle.trail_rights.proofs.masks.push_newcomer.Goals as goal

-- a list to which something was appended
on_ok : {T E : Type 0} (r : Result T E) (now more old all : List ℕ) → now ≡ (if is_ok r then more else old)
    → more ≡ all → OnOk r (now ≡ all)
on_ok (Ok x) now more old all is same = is ∙ same
on_ok (Err e) now more old all is same = tt

-- five parts, one after another
five : (o w p v q z a b c d : List ℕ) → a ≡ o ++ w → b ≡ a ++ p → c ≡ b ++ v → d ≡ c ++ q
    → d ++ z ≡ o ++ (w ++ (p ++ (v ++ (q ++ z))))
five o w p v q z a b c d first second third fourth =
    ap (λ x. x ++ z) (fourth ∙ ap (λ x. x ++ q) (third ∙ ap (λ x. x ++ v) (second ∙ ap (λ x. x ++ p) first)))
    ∙ (append_assoc (((o ++ w) ++ p) ++ v) q z
    ∙ (append_assoc ((o ++ w) ++ p) v (q ++ z)
    ∙ (append_assoc (o ++ w) p (v ++ (q ++ z)) ∙ append_assoc o w (p ++ (v ++ (q ++ z))))))

pub returns : goal.returns
returns c =
    let s = c.args.settlers.now in
    on_ok c.extend_from_slice-3.result _ _ _ _ c.extend_from_slice-3.ensures.items
    (five c.args.out.now.items (codes "newcomer windows:") (preset_text s kind.Windows) (codes " commands:")
    (preset_text s kind.Commands) (codes " later:rwx\n") c.extend_from_slice.new.self.items c.push_preset.new.out.items
    c.extend_from_slice-2.new.self.items c.push_preset-2.new.out.items c.in_ok-extend_from_slice.ensures.items
    c.in_ok-push_preset.ensures c.in_ok-extend_from_slice-2.ensures.items c.in_ok-push_preset-2.ensures)
