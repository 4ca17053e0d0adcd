-- A right that is set in a row, and look-ups in rows and masks that change.
use Rattle.acl.proofs.Vocabulary.{◌≡◌, ◌≢◌, ◌∙◌, ℕ, ◌<◌, Bool, true, false, not, ◌==◌, ◌&&◌, ◌||◌, cond, ap, sym, refl}
use Rattle.acl.proofs.Vocabulary.{arith, List, [], ◌∷◌, Option, Some, None, is_some, filter, map, if◌then◌else◌}
use Rattle.acl.proofs.Vocabulary.{slice_index_or, slice_set, replicate, true≢false, length, get_or-set_same}
use Rattle.acl.proofs.Vocabulary.{get_or-set_other, eq-eqb, lit<, ◌++◌, option_map_or, option_map, lookup, keys_of}
use Rattle.acl.proofs.Vocabulary.{same_user, same_bit, same_object, index_of_command, allows, with_bit, no_bits}
use Rattle.acl.proofs.Vocabulary.{all_bits, slot_of, is_window, bits_on, same_pair, with_window, with_right, new_row}
use Rattle.acl.proofs.Vocabulary.{Table, StandsFor, granted, is_there, list_any, without_user, PresetKind, Edition}
use Rattle.acl.proofs.Vocabulary.{UserId, Bit, Bits, Object, Window, Command, Row}
use Rattle.std.proofs.lemmas.List.{get_or-replicate}
use Rattle.std.proofs.lemmas.Map.Entries.{lookup-filter-keys}
use borrow.Author.Tests.{eqb-true}
use Rattle.acl_words.specs.declared.command_name.TheConstants.CommandName.{COUNT}
use Rattle.acl_words.proofs.SlotLemmas.{slots-new, found, slot_of-apart}
use Rattle.indexmap.specs.IndexSet.{remove_key}
use Rattle.acl_words.specs.declared.act.PresetKind.TheVariants as preset
use Rattle.acl_words.proofs.BitSetLemmas.{allows-with_bit, allows-no_bits, allows-all_bits}
use Rattle.acl.proofs.StandsForLemmas.{same_user-true}
use Rattle.acl_words.specs.declared.command_name.CommandName.{CommandName}
use Rattle.acl_words.specs.declared.command_name.CommandName.TheVariants as command

skipped-and : (c : Bool) (value x : Bool) → x ≡ (if c && false then value else x)
skipped-and true value x = refl
skipped-and false value x = refl

same_bool : (c d : Bool) → (c ≡ true → d ≡ true) → (d ≡ true → c ≡ true) → c ≡ d
same_bool true true f g = refl
same_bool true false f g = sym (f refl)
same_bool false true f g = g refl
same_bool false false f g = refl

pub index_of_command-lt : (c : CommandName) → index_of_command c < COUNT
index_of_command-lt command.Acladd = lit< tt
index_of_command-lt c = lit< tt

set_bit : (bit b : Bit) (value : Bool) (xs : List Bits) (i j : ℕ) → i < length xs
    → allows b (slice_index_or (slice_set xs i (with_bit bit value (slice_index_or xs i no_bits))) j no_bits) ≡
    (if same_bit bit b && i == j then value else allows b (slice_index_or xs j no_bits))
set_bit bit b value xs i j below = by (i == j) refl
  where
    set_to : Bits → Bool
    set_to x = allows b (slice_index_or (slice_set xs i x) j no_bits)

    chosen : (c : Bool) (x : Bool) → (if c then value else x) ≡ (if c && true then value else x)
    chosen true x = refl
    chosen false x = refl

    by : (c : Bool) → (i == j) ≡ c
        → allows b (slice_index_or (slice_set xs i (with_bit bit value (slice_index_or xs i no_bits))) j no_bits) ≡
        (if same_bit bit b && c then value else allows b (slice_index_or xs j no_bits))
    by true e =
        ap (λ k. allows b
        (slice_index_or (slice_set xs i (with_bit bit value (slice_index_or xs i no_bits))) k no_bits))
        (sym (eqb-true i j e))
        ∙ ap (allows b) (get_or-set_same xs i (with_bit bit value (slice_index_or xs i no_bits)) no_bits below)
        ∙ allows-with_bit bit b value (slice_index_or xs i no_bits)
        ∙ ap (λ k. if same_bit bit b then value else allows b (slice_index_or xs k no_bits)) (eqb-true i j e)
        ∙ chosen (same_bit bit b) (allows b (slice_index_or xs j no_bits))
    by false e =
        let apart : j ≢ i = λ same. true≢false (sym (eq-eqb i j (sym same)) ∙ e) in
        ap (allows b) (get_or-set_other xs i j (with_bit bit value (slice_index_or xs i no_bits)) no_bits apart)
        ∙ skipped-and (same_bit bit b) value (allows b (slice_index_or xs j no_bits))

module _ (t : Table) (bit : Bit) (value : Bool) (row : Row) where
  -- what a row allows after a right is set, at each object
  pub allows-with_right : (object : Object) (b : Bit) (place : Object) → length row.commands ≡ COUNT
      → length row.windows ≡ length t.windows → is_there t object ≡ true
      → allows b (bits_on t.windows place (with_right t.windows object bit value row)) ≡
      (if same_bit bit b && same_object object place then value else allows b (bits_on t.windows place row))
  allows-with_right (Command c) b (Command d) lc lw there = set_bit bit b value row.commands (index_of_command c)
      (index_of_command d) (omega (arith, lc, index_of_command-lt c))
  allows-with_right (Command c) b (Window w) lc lw there = skipped-and (same_bit bit b) value
      (allows b (bits_on t.windows (Window w) row))
  allows-with_right (Window w) b (Command d) lc lw there = by (slot_of t.windows w)
      ∙ skipped-and (same_bit bit b) value (allows b (bits_on t.windows (Command d) row))
    where
      by : (o : Option ℕ)
          → allows b
          (slice_index_or
          (option_map_or (λ slot. with_window slot (with_bit bit value (slice_index_or row.windows slot no_bits)) row) o
          row).commands (index_of_command d) no_bits) ≡ allows b
          (slice_index_or row.commands (index_of_command d) no_bits)
      by None = refl
      by (Some s) = refl
  allows-with_right (Window w) b (Window v) lc lw there = by (slot_of t.windows w) (slot_of t.windows v) refl refl there
    where
      at_slot : Option ℕ → Row → Bool
      at_slot o r = allows b (option_map_or (λ slot. slice_index_or r.windows slot no_bits) o no_bits)

      same_test : (s k : ℕ) → slot_of t.windows w ≡ Some s → slot_of t.windows v ≡ Some k → (s == k) ≡ (w == v)
      same_test s k e f = same_bool (s == k) (w == v)
          (λ h. eq-eqb w v (slot_of-apart t.windows w v k (e ∙ ap Some (eqb-true s k h)) f))
          (λ h. let same : Some s ≡ Some k = sym e ∙ ap (slot_of t.windows) (eqb-true w v h) ∙ f in eq-eqb s k cc)

      other : (s : ℕ) → slot_of t.windows w ≡ Some s → slot_of t.windows v ≡ None → (w == v) ≡ false
      other s e f = same_bool (w == v) false
          (λ h. let same : Some s ≡ None = sym e ∙ ap (slot_of t.windows) (eqb-true w v h) ∙ f in cc)
          (λ h. absurd (true≢false (sym h)))

      by : (o p : Option ℕ) → slot_of t.windows w ≡ o → slot_of t.windows v ≡ p → is_some o ≡ true
          → at_slot p
          (option_map_or
          (λ slot. with_window slot (with_bit bit value (slice_index_or row.windows slot no_bits)) row) o row) ≡
          (if same_bit bit b && w == v then value else at_slot p row)
      by None p e f h = absurd (true≢false (sym h))
      by (Some s) None e f h =
          skipped-and (same_bit bit b) value (allows b no_bits)
          ∙ ap (λ c. if same_bit bit b && c then value else allows b no_bits) (sym (other s e f))
      by (Some s) (Some k) e f h =
          set_bit bit b value row.windows s k (omega (arith, lw, (found (is_window w) s t.windows e).0))
          ∙ ap (λ c. if same_bit bit b && c then value else allows b (slice_index_or row.windows k no_bits))
          (same_test s k e f)

-- a look-up among entries whose values change
pub lookup-revalued : (g : UserId → Row → Row) (q : UserId) (es : List (UserId × Row))
    → lookup (same_user q) (map (λ e. (e.0, g e.0 e.1)) es) ≡ option_map (g q) (lookup (same_user q) es)
lookup-revalued g q [] = refl
lookup-revalued g q (e ∷ es) = by (same_user q e.0) refl (lookup-revalued g q es)
  where
    by : (c : Bool) → same_user q e.0 ≡ c
        → lookup (same_user q) (map (λ e. (e.0, g e.0 e.1)) es) ≡ option_map (g q) (lookup (same_user q) es)
        → cond c (Some (g e.0 e.1)) (lookup (same_user q) (map (λ e. (e.0, g e.0 e.1)) es)) ≡ option_map (g q)
        (cond c (Some e.1) (lookup (same_user q) es))
    by true p rest = ap (λ k. Some (g k e.1)) (sym (same_user-true q e.0 p))
    by false p rest = rest

-- a look-up among masks, after those of a user are removed
pub lookup-without_user : (u : UserId) (p : UserId × UserId) (ms : List ((UserId × UserId) × Bits))
    → lookup (same_pair p) (filter (λ e. not (same_user u e.0.0 || same_user u e.0.1)) ms) ≡
    (if same_user u p.0 || same_user u p.1 then None else lookup (same_pair p) ms)
lookup-without_user u p ms =
    lookup-filter-keys (same_pair p) (λ k. not (same_user u k.0 || same_user u k.1))
    (not (same_user u p.0 || same_user u p.1)) same ms
    ∙ by (same_user u p.0 || same_user u p.1)
  where
    first : (c d : Bool) → (c && d) ≡ true → c ≡ true
    first true d h = refl
    first false d h = h

    second : (c d : Bool) → (c && d) ≡ true → d ≡ true
    second true d h = h
    second false d h = absurd (true≢false (sym h))

    same : (k : UserId × UserId) → same_pair p k ≡ true
        → not (same_user u k.0 || same_user u k.1) ≡ not (same_user u p.0 || same_user u p.1)
    same k h =
        let e = sym (same_user-true p.0 k.0 (first (same_user p.0 k.0) (same_user p.1 k.1) h)) in
        let f = sym (same_user-true p.1 k.1 (second (same_user p.0 k.0) (same_user p.1 k.1) h)) in
        (λ i. not (same_user u (e i) || same_user u (f i)))

    by : (c : Bool) → cond (not c) (lookup (same_pair p) ms) None ≡ (if c then None else lookup (same_pair p) ms)
    by true = refl
    by false = refl

pub leaders-with_right : (ws : List (Option ℕ)) (object : Object) (bit : Bit) (value : Bool) (row : Row)
    → (with_right ws object bit value row).leaders ≡ row.leaders
leaders-with_right ws (Command c) bit value row = refl
leaders-with_right ws (Window w) bit value row = by (slot_of ws w)
  where
    by : (o : Option ℕ)
        →
        (option_map_or (λ slot. with_window slot (with_bit bit value (slice_index_or row.windows slot no_bits)) row) o
        row).leaders ≡ row.leaders
    by None = refl
    by (Some s) = refl

-- a new row has the presets
pub bits_on-new_row : (t : Table) → length t.windows ≡ 40 → (object : Object) → is_there t object ≡ true
    → bits_on t.windows object (new_row t.command_preset t.window_preset) ≡
    (elim object [ Window w ↦ t.window_preset | Command c ↦ t.command_preset ])
bits_on-new_row t long (Command c) there = get_or-replicate COUNT (index_of_command c) t.command_preset no_bits
    (index_of_command-lt c)
bits_on-new_row t long (Window w) there = by (slot_of t.windows w) refl there
  where
    by : (o : Option ℕ) → slot_of t.windows w ≡ o → is_some o ≡ true
        → option_map_or (λ slot. slice_index_or (new_row t.command_preset t.window_preset).windows slot no_bits) o
        no_bits ≡ t.window_preset
    by None e h = absurd (true≢false (sym h))
    by (Some s) e h = get_or-replicate 40 s t.window_preset no_bits
        (omega (arith, long, (found (is_window w) s t.windows e).0))

-- the lists of a new session stand for the empty history
pub StandsFor-new : (edition : Edition) (owner : UserId) (es : List (UserId × Row))
    → ((q : UserId) → lookup (same_user q) es ≡ (if same_user owner q then Some (new_row no_bits no_bits) else None))
    → keys_of es ≡ owner ∷ []
    → StandsFor
    (record {
      edition = edition;
      owner = owner;
      rows = es;
      masks = [];
      windows = replicate 40 None;
      window_preset =
          all_bits;
      command_preset = all_bits;
    }) edition owner []
StandsFor-new edition owner es rows keys = record {
  edition_is = refl;
  owned = refl;
  users = keys;
  known = λ q. ap is_some (rows q) ∙ known_now (same_user owner q);
  slots = slots-new;
  rights = λ q bit object there. rights_now q bit object there;
  strangers = λ q bit object none. refl;
  led = λ q. ap (λ o. option_map_or (λ r. r.leaders) o []) (rows q) ∙ led_now (same_user owner q);
  masks = λ by q bit. refl;
  presets = λ kind bit. presets_now kind bit;
}
  where
    known_now : (c : Bool) → is_some (if c then Some (new_row no_bits no_bits) else None) ≡ (c || false)
    known_now true = refl
    known_now false = refl

    led_now : (c : Bool)
        → option_map_or (λ (r : Row). r.leaders) (if c then Some (new_row no_bits no_bits) else None) [] ≡ []
    led_now true = refl
    led_now false = refl

    command_now : (bit : Bit) (c : CommandName) (b : Bool)
        → option_map_or (λ (r : Row). allows bit (slice_index_or r.commands (index_of_command c) no_bits))
        (if b then Some (new_row no_bits no_bits) else None) false ≡ false
    command_now bit c true = ap (allows bit)
        (get_or-replicate COUNT (index_of_command c) no_bits no_bits (index_of_command-lt c)) ∙ allows-no_bits bit
    command_now bit c false = refl

    rights_now : (q : UserId) (bit : Bit) (object : Object)
        → is_there
        (record {
          edition = edition;
          owner = owner;
          rows = es;
          masks = [];
          windows = replicate 40 None;
          window_preset =
              all_bits;
          command_preset = all_bits;
        }) object ≡ true
        → granted
        (record {
          edition = edition;
          owner = owner;
          rows = es;
          masks = [];
          windows = replicate 40 None;
          window_preset =
              all_bits;
          command_preset = all_bits;
        }) q bit object ≡ false
    rights_now q bit (Window w) there = absurd (true≢false (sym there))
    rights_now q bit (Command c) there = ap
        (λ o. option_map_or (λ (r : Row). allows bit (slice_index_or r.commands (index_of_command c) no_bits)) o false)
        (rows q) ∙ command_now bit c (same_user owner q)

    presets_now : (kind : PresetKind) (bit : Bit)
        → allows bit (elim kind [ preset.Windows ↦ all_bits | preset.Commands ↦ all_bits ]) ≡ true
    presets_now preset.Windows bit = allows-all_bits bit
    presets_now preset.Commands bit = allows-all_bits bit

-- the keys, after one entry is pushed
pub keys_of-push : {K X : Type 0} (es : List (K × X)) (k : K) (x : X)
    → keys_of (es ++ (k, x) ∷ []) ≡ keys_of es ++ k ∷ []
keys_of-push [] k x = refl
keys_of-push (e ∷ es) k x = ap (λ ks. e.0 ∷ ks) (keys_of-push es k x)

-- a change of the values leaves the keys
pub keys_of-revalued : (g : UserId → Row → Row) (es : List (UserId × Row))
    → keys_of (map (λ e. (e.0, g e.0 e.1)) es) ≡ keys_of es
keys_of-revalued g [] = refl
keys_of-revalued g (e ∷ es) = ap (λ ks. e.0 ∷ ks) (keys_of-revalued g es)

-- removing a key is removing the user from the list of users
pub remove_key-user : (u : UserId) (users : List UserId) → remove_key (same_user u) users ≡ without_user u users
remove_key-user u [] = refl
remove_key-user u (v ∷ users) = elim (same_user u v) as
    (λ c. cond c users (v ∷ remove_key (same_user u) users) ≡ (if c then users else v ∷ without_user u users))
    [ true ↦ refl | false ↦ ap (λ us. v ∷ us) (remove_key-user u users) ]

-- what a look-up finds is among the keys
pub is_some-lookup : {K X : Type 0} (test : K → Bool) (es : List (K × X))
    → is_some (lookup test es) ≡ list_any test (keys_of es)
is_some-lookup test [] = refl
is_some-lookup test (e ∷ es) = by (test e.0) (is_some-lookup test es)
  where
    by : (c : Bool) → is_some (lookup test es) ≡ list_any test (keys_of es)
        → is_some (cond c (Some e.1) (lookup test es)) ≡ (c || list_any test (keys_of es))
    by true rest = refl
    by false rest = rest
