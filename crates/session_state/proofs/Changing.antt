-- If rows change as their model's rows do, the table still stands for the model's.
use Rattle.session_state.proofs.Vocabulary.{◌≡◌, ℕ, List, Some, None, sym, subst, ◌∙◌, ap, Option, MutBor, Bool, map}
use Rattle.session_state.proofs.Vocabulary.{◌≤◌, ◌++◌, length, take, drop, append-nil, take_all, OnSome}
use Rattle.session_state.proofs.Vocabulary.{option_copied_mut, row_of, with_row, with_back, Client, ClientStands}
use Rattle.session_state.proofs.Vocabulary.{AreClients, Finds}
use Rattle.std.proofs.Common.{filter}
use Rattle.std.proofs.lemmas.List.{drop_all}
use Rattle.windows_model.proofs.Lending.{over_same}
use Rattle.windows_model.specs.Lending.{written_over}
use Rattle.session_model.specs.Tables as model
use Rattle.windows_model.proofs.Matching.{row_there, with_match, filter_match, map_match}
use Rattle.session_state.specs.Clients.{Changes, ChangesAll, Keeps}

pub serials : (m : model.Client) (c : Client) → ClientStands m c → c.serial ≡ m.serial
serials m c st = st.serial_is

abbrev pub model_serial : model.Client → ℕ
model_serial m = m.serial

abbrev pub serial_of : Client → ℕ
serial_of c = c.serial

-- the row that changes is there
pub changed : (f : model.Client → model.Client) (old new : List Client) (serial : ℕ) (c d : Client)
    → row_of serial_of old serial ≡ Some c → new ≡ with_row serial_of old serial d
    → ((m : model.Client) → ClientStands m c → ClientStands (f m) d) → Changes f serial old new
changed f old new serial c d at is keeps rows m st there =
    let found = row_there ClientStands model_serial serial_of serials rows old serial m st there in
    let same : found.0 ≡ c = cc (found.1, at) in
    subst (λ cs. AreClients (with_row model_serial rows serial (f m)) cs) (sym is)
    (with_match ClientStands model_serial serial_of serials rows old serial (f m) d
    (keeps m (subst (λ (x : Client). ClientStands m x) same found.2)) st)

some_at : {A : Type 0} (r : Option (MutBor A)) (b : MutBor A) (o : Option A) (P : Type 0)
    → r ≡ Some b → option_copied_mut r ≡ o → OnSome r P → (o ≡ Some b.now) × P
some_at {A} None b o P is same on = absurd (cc (is))
some_at {A} (Some x) b o P is same on =
    (sym same ∙ ap (λ (y : MutBor A). Some y.now) (let e : x ≡ b = cc (is) in e), on)

-- a row that is lent is changed
pub changed_row : (f : model.Client → model.Client) (old inside : List Client) (serial : ℕ)
    (r : Option (MutBor Client)) (b : MutBor Client) (lender : Client → List Client) (d : Client)
    → inside ≡ old → option_copied_mut r ≡ row_of serial_of inside serial
    → ((w : Client) → OnSome r (lender w ≡ with_row serial_of inside serial w)) → r ≡ Some b
    → ((m : model.Client) → ClientStands m b.now → ClientStands (f m) d)
    → Changes f serial old (lender d)
changed_row f old inside serial r b lender d same at holds is keeps =
    let both = some_at r b (row_of serial_of inside serial) _ is at (holds d) in
    subst (λ cs. Changes f serial cs (lender d)) same
    (changed f inside (lender d) serial b.now d both.0 both.1 keeps)

none_at : {A : Type 0} (r : Option (MutBor A)) (o : Option A) → r ≡ None → option_copied_mut r ≡ o
    → o ≡ None
none_at None o is same = sym same
none_at (Some x) o is same = absurd (cc (is))

-- the row that would change isn't there
pub no_row : (f : model.Client → model.Client) (old inside new : List Client) (serial : ℕ)
    (r : Option (MutBor Client)) → inside ≡ old
    → option_copied_mut r ≡ row_of serial_of inside serial → r ≡ None → Changes f serial old new
no_row f old inside new serial r same at is rows m st there =
    let found = row_there ClientStands model_serial serial_of serials rows old serial m st there in
    let none : row_of serial_of old serial ≡ None =
    ap (λ cs. row_of serial_of cs serial) (sym same)
    ∙ none_at r (row_of serial_of inside serial) is at in
    absurd (cc (found.1, none))

-- rows that pass a test stay
pub kept : (p : model.Client → Bool) (q : Client → Bool) (old inside new : List Client)
    → ((m : model.Client) (c : Client) → ClientStands m c → q c ≡ p m) → inside ≡ old
    → new ≡ filter q inside → Keeps p old new
kept p q old inside new same is now rows st =
    subst (λ cs. AreClients (filter p rows) cs) (sym (now ∙ ap (λ cs. filter q cs) is))
    (filter_match ClientStands p q same rows old st)

-- all rows change
pub all_changed : (f : model.Client → model.Client) (g : Client → Client) (old new : List Client)
    → ((m : model.Client) (c : Client) → ClientStands m c → ClientStands (f m) (g c))
    → new ≡ map g old → ChangesAll f old new
all_changed f g old new keeps now rows st =
    subst (λ cs. AreClients (map f rows) cs) (sym now)
    (map_match ClientStands ClientStands f g keeps rows old st)

-- a row that is lent and put back as it was
pub lent_back : (old inside : List Client) (serial : ℕ) (r : Option (MutBor Client))
    (b : MutBor Client) (lender : Client → List Client) → inside ≡ old
    → option_copied_mut r ≡ row_of serial_of inside serial
    → ((w : Client) → OnSome r (lender w ≡ with_row serial_of inside serial w)) → r ≡ Some b
    → lender b.now ≡ old
lent_back old inside serial r b lender same at holds is =
    let both = some_at r b (row_of serial_of inside serial) _ is at (holds b.now) in
    both.1 ∙ (with_back serial_of inside serial b.now both.0 ∙ same)

-- a fact of the row that is lent
pub found : (P : model.Client → Type 0) (old inside : List Client) (serial : ℕ)
    (r : Option (MutBor Client)) (b : MutBor Client) → inside ≡ old
    → option_copied_mut r ≡ row_of serial_of inside serial → r ≡ Some b
    → ((m : model.Client) → ClientStands m b.now → P m) → Finds serial old P
found P old inside serial r b same at is holds rows m st there =
    let row = row_there ClientStands model_serial serial_of serials rows old serial m st there in
    let here : row_of serial_of old serial ≡ Some b.now =
    ap (λ cs. row_of serial_of cs serial) (sym same)
    ∙ (some_at r b (row_of serial_of inside serial) _ is at (any_at r)).0 in
    let alike : row.0 ≡ b.now = cc (row.1, here) in
    holds m (subst (λ (x : Client). ClientStands m x) alike row.2) where
      any_at : (o : Option (MutBor Client)) → OnSome o (Unit {0})
      any_at None = tt
      any_at (Some x) = tt

pub found_none : (P : model.Client → Type 0) (old inside : List Client) (serial : ℕ)
    (r : Option (MutBor Client)) → inside ≡ old
    → option_copied_mut r ≡ row_of serial_of inside serial → r ≡ None → Finds serial old P
found_none P old inside serial r same at is rows m st there =
    let row = row_there ClientStands model_serial serial_of serials rows old serial m st there in
    let none : row_of serial_of old serial ≡ None =
    ap (λ cs. row_of serial_of cs serial) (sym same)
    ∙ none_at r (row_of serial_of inside serial) is at in
    absurd (cc (row.1, none))

-- rows that are lent, all of which are changed, one after another
pub all_over : (f : model.Client → model.Client) (g : Client → Client)
    (old inside lent items : List Client) (i : ℕ)
    → ((m : model.Client) (c : Client) → ClientStands m c → ClientStands (f m) (g c))
    → inside ≡ old → lent ≡ inside → length lent ≤ i → length items ≡ length lent
    → items ≡ map g (take i lent) ++ drop i lent → ChangesAll f old (written_over inside items)
all_over f g old inside lent items i keeps is same past count made =
    let whole : items ≡ map g old =
    made
    ∙ (ap (λ (xs : List Client). map g (take i lent) ++ xs) (drop_all i lent past)
    ∙ (append-nil (map g (take i lent))
    ∙ (ap (map g) (take_all i lent past) ∙ ap (map g) (same ∙ is)))) in
    all_changed f g old (written_over inside items) keeps
    (over_same inside items (count ∙ ap length same) ∙ whole)

-- the row that is lent, and what stands in its place
pub lent_at : (old inside : List Client) (serial : ℕ) (r : Option (MutBor Client))
    (b : MutBor Client) (lender : Client → List Client) (d : Client) → inside ≡ old
    → option_copied_mut r ≡ row_of serial_of inside serial
    → ((w : Client) → OnSome r (lender w ≡ with_row serial_of inside serial w)) → r ≡ Some b
    → (row_of serial_of old serial ≡ Some b.now) × (lender d ≡ with_row serial_of old serial d)
lent_at old inside serial r b lender d same at holds is =
    let both = some_at r b (row_of serial_of inside serial) _ is at (holds d) in (
      ap (λ cs. row_of serial_of cs serial) (sym same) ∙ both.0,
      both.1 ∙ ap (λ cs. with_row serial_of cs serial d) same,
    )

pub none_lent : (old inside : List Client) (serial : ℕ) (r : Option (MutBor Client))
    → inside ≡ old → option_copied_mut r ≡ row_of serial_of inside serial → r ≡ None
    → row_of serial_of old serial ≡ None
none_lent old inside serial r same at is =
    ap (λ cs. row_of serial_of cs serial) (sym same)
    ∙ none_at r (row_of serial_of inside serial) is at
