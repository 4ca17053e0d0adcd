-- What a list of entries stands for.
use Rattle.std.specs.Prelude.{ℕ, ◌<◌, ◌≤◌, ◌≡◌, ◌++◌, List, length, flat_map, option_to_list, slice_get}
use Rattle.hub_trail.specs.Trails.{Entry}
use Rattle.hub_record.specs.declared.growing_trail.NewEntry.{NewEntry}

-- the entries, the oldest first; how many fit without more memory; how many forms are stored, and
-- how many of them fit
pub record StoredEntries : Type 0 where
  pub entries : List Entry
  pub most : ℕ
  pub forms : ℕ
  pub most_forms : ℕ

-- one more entry takes no memory
abbrev pub HasRoom : StoredEntries → Type 0
HasRoom r = (length r.entries < r.most) × (r.forms < r.most_forms)

-- the forms that the codes name, in the order of the codes
abbrev pub listed : List Entry → List ℕ → List Entry
listed forms codes = flat_map (λ code. option_to_list (slice_get forms code)) codes

-- the entry with these parts
abbrev pub entry_in : NewEntry → Entry
entry_in s = record {
  event = s.event;
  verdicts = s.verdicts.items;
  acts = s.acts.items;
  reply = s.reply;
}

-- what was stored is unchanged, and at most one form is stored after it
abbrev pub HasOneMore : {A : Type 0} → List A → List A → Type 0
HasOneMore {A = A} old new = (more : List A) × (new ≡ old ++ more) × (length more ≤ 1)
