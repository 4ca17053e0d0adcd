use Rattle.acl.proofs.Vocabulary.{◌∙◌, ap, sym, subst, List, [], Some, None, replicate, if◌then◌else◌, lookup, keys_of}
use Rattle.acl.proofs.Vocabulary.{insert_entry, UserId, Bits, Row, all_bits, same_user, StandsFor}
use Rattle.acl_words.specs.declared.slots.Slots.{Slots}
use Rattle.acl.proofs.RowLemmas.{StandsFor-new}
use Rattle.acl.proofs.lists.Lists.new.Goals as goal

pub returns : goal.returns
returns c =
    subst
    (λ (s : Slots). StandsFor
    (record {
      edition = c.args.edition;
      owner = c.args.owner;
      rows = c.insert.new.self.entries;
      masks =
          c.new-2.result.entries;
      windows = s.serials;
      window_preset = all_bits;
      command_preset = all_bits;
    })
    c.args.edition c.args.owner [])
    (sym c.new-3.ensures)
    (subst
    (λ (ms : List ((UserId × UserId) × Bits)). StandsFor
    (record {
      edition = c.args.edition;
      owner = c.args.owner;
      rows = c.insert.new.self.entries;
      masks = ms;
      windows =
          replicate 40 None;
      window_preset = all_bits;
      command_preset = all_bits;
    }) c.args.edition c.args.owner [])
    (sym c.new-2.ensures.empty)
    (StandsFor-new c.args.edition c.args.owner c.insert.new.self.entries
    (λ q. c.in_ok-insert.ensures.updates.0 q
    ∙ (λ i. if same_user c.args.owner q then Some (c.new.ensures i) else lookup (same_user q)
    (c.new-rows.ensures.empty i)))
    (ap keys_of
    (c.in_ok-insert.ensures.entries
    ∙ ap (λ (es : List (UserId × Row)). insert_entry same_user es c.args.owner c.new.result)
    c.new-rows.ensures.empty))))
