-- A table in which a preset is set, or a window is opened or closed, stands for the history with that
-- act in front.
use Rattle.acl.proofs.Vocabulary.{◌≡◌, ◌≢◌, ◌∙◌, ℕ, ◌<◌, Bool, true, false, ◌==◌, ◌&&◌, ap, sym, refl, List, ◌∷◌}
use Rattle.acl.proofs.Vocabulary.{Option, Some, None, is_some, unwrap_or, if◌then◌else◌, slice_index_or, true≢false}
use Rattle.acl.proofs.Vocabulary.{length, get_or-set_same, get_or-set_other, option_map_or, option_map, lookup, keys_of}
use Rattle.acl.proofs.Vocabulary.{same_user, same_bit, same_object, same_preset, allows, with_bit, all_bits, no_bits}
use Rattle.acl.proofs.Vocabulary.{slot_of, SlotsStandFor, History, open_count, there, decided, is_known, is_open, mask}
use Rattle.acl.proofs.Vocabulary.{preset_of, has, opening, Table, StandsFor, row_of, users_in, knows, granted}
use Rattle.acl.proofs.Vocabulary.{same_pair, preset_bits, is_there, opening_bits, mask_bits, with_window}
use Rattle.acl.proofs.Vocabulary.{same_user-true, Edition, UserId, Bit, Bits, Object, Window, Command, PresetKind}
use Rattle.acl.proofs.Vocabulary.{Preset, Opened, Closed, Row}
use Rattle.acl_words.proofs.BitSetLemmas.{allows-with_bit, allows-all_bits}
use Rattle.acl_words.specs.declared.act.PresetKind.TheVariants as preset
use Rattle.acl.proofs.Choices.{at_row, leaders_at, mask_at}

module _ (t : Table) (edition : Edition) (owner : UserId) (h : History) (s : StandsFor t edition owner h) where
  chosen_bit : (bit b : Bit) (value : Bool) (set : Bits) (y : Bool) → allows b set ≡ y
      → allows b (with_bit bit value set) ≡ unwrap_or (decided (same_bit bit b) value) y
  chosen_bit bit b value set y e = allows-with_bit bit b value set ∙ by (same_bit bit b)
    where
      by : (c : Bool) → (if c then value else allows b set) ≡ unwrap_or (decided c value) y
      by true = refl
      by false = e

  -- a preset is set
  pub StandsFor-Preset-windows : (bit : Bit) (value : Bool)
      → StandsFor (record t { window_preset = with_bit bit value t.window_preset }) edition owner
      (Preset preset.Windows bit value ∷ h)
  StandsFor-Preset-windows bit value = record {
    edition_is = s.edition_is;
    owned = s.owned;
    users = s.users;
    known = s.known;
    slots = s.slots;
    rights = s.rights;
    strangers = s.strangers;
    led = s.led;
    masks = s.masks;
    presets = λ kind b. by kind b;
  }
    where
      by : (kind : PresetKind) (b : Bit)
          → allows b (preset_bits (record t { window_preset = with_bit bit value t.window_preset }) kind) ≡ unwrap_or
          (decided (same_preset preset.Windows kind && same_bit bit b) value) (preset_of h kind b)
      by preset.Windows b = chosen_bit bit b value t.window_preset (preset_of h preset.Windows b)
          (s.presets preset.Windows b)
      by preset.Commands b = s.presets preset.Commands b

  pub StandsFor-Preset-commands : (bit : Bit) (value : Bool)
      → StandsFor (record t { command_preset = with_bit bit value t.command_preset }) edition owner
      (Preset preset.Commands bit value ∷ h)
  StandsFor-Preset-commands bit value = record {
    edition_is = s.edition_is;
    owned = s.owned;
    users = s.users;
    known = s.known;
    slots = s.slots;
    rights = s.rights;
    strangers = s.strangers;
    led = s.led;
    masks = s.masks;
    presets = λ kind b. by kind b;
  }
    where
      by : (kind : PresetKind) (b : Bit)
          → allows b (preset_bits (record t { command_preset = with_bit bit value t.command_preset }) kind) ≡ unwrap_or
          (decided (same_preset preset.Commands kind && same_bit bit b) value) (preset_of h kind b)
      by preset.Windows b = s.presets preset.Windows b
      by preset.Commands b = chosen_bit bit b value t.command_preset (preset_of h preset.Commands b)
          (s.presets preset.Commands b)

  -- a window is closed
  pub StandsFor-Closed : (ws : List (Option ℕ)) (w : ℕ)
      → ((v : ℕ) → slot_of ws v ≡ (if w == v then None else slot_of t.windows v))
      → SlotsStandFor ws (is_open (Closed w ∷ h)) (open_count (Closed w ∷ h))
      → StandsFor (record t { windows = ws }) edition owner (Closed w ∷ h)
  StandsFor-Closed ws w slots stand = record {
    edition_is = s.edition_is;
    owned = s.owned;
    users = s.users;
    known = s.known;
    slots = stand;
    rights = λ q b place there. rights_same q b place there;
    strangers = s.strangers;
    led = s.led;
    masks = s.masks;
    presets = s.presets;
  }
    where
      same_slot : (v : ℕ) (c : Bool) → is_some (if c then None else slot_of t.windows v) ≡ true
          → (if c then None else slot_of t.windows v) ≡ slot_of t.windows v
      same_slot v true there = absurd (true≢false (sym there))
      same_slot v false there = refl

      rights_same : (q : UserId) (b : Bit) (place : Object) → is_there (record t { windows = ws }) place ≡ true
          → granted (record t { windows = ws }) q b place ≡ has owner h q b place
      rights_same q b (Command c) there = s.rights q b (Command c) refl
      rights_same q b (Window v) there =
          let e : slot_of ws v ≡ slot_of t.windows v = slots v
          ∙ same_slot v (w == v) (sym (ap is_some (slots v)) ∙ there) in
          ap (λ o. option_map_or
          (λ row. allows b (option_map_or (λ slot. slice_index_or row.windows slot no_bits) o no_bits)) (row_of t q)
          false) e
          ∙ s.rights q b (Window v) (sym (ap is_some e) ∙ there)

  -- a known user opens a window, in a slot that is free
  pub StandsFor-Opened : (ws : List (Option ℕ)) (es : List (UserId × Row)) (by : UserId) (w slot : ℕ)
      → ((v : ℕ) → slot_of ws v ≡ (if w == v then Some slot else slot_of t.windows v))
      → SlotsStandFor ws (is_open (Opened by w ∷ h)) (open_count (Opened by w ∷ h))
      → keys_of es ≡ users_in t
      → ((q : UserId)
      → lookup (same_user q) es ≡ option_map (with_window slot (opening_bits t.masks by q)) (row_of t q))
      → ((q : UserId) (row : Row) → row_of t q ≡ Some row → slot < length row.windows)
      → ((v k : ℕ) → slot_of t.windows v ≡ Some k → k ≢ slot)
      → knows t by ≡ true
      → StandsFor (record t { windows = ws; rows = es }) edition owner (Opened by w ∷ h)
  StandsFor-Opened ws es by w slot slots stand keys rows room apart opener = record {
    edition_is = s.edition_is;
    owned = s.owned;
    users = keys ∙ s.users;
    known = λ q. ap is_some (rows q) ∙ kept q (row_of t q) ∙ s.known q;
    slots = stand;
    rights = rights_now;
    strangers = λ q b place none. stranger q b place (sym (kept q (row_of t q)) ∙ sym (ap is_some (rows q)) ∙ none);
    led = λ q. ap leaders_at (rows q) ∙ led_same q (row_of t q) ∙ s.led q;
    masks = s.masks;
    presets = s.presets;
  }
    where
      kept : (q : UserId) (o : Option Row)
          → is_some (option_map (with_window slot (opening_bits t.masks by q)) o) ≡ is_some o
      kept q None = refl
      kept q (Some r) = refl

      led_same : (q : UserId) (o : Option Row)
          → leaders_at (option_map (with_window slot (opening_bits t.masks by q)) o) ≡ leaders_at o
      led_same q None = refl
      led_same q (Some r) = refl

      -- a user who isn't known gets nothing
      nothing : (q : UserId) (b : Bit) (place : Object) (c d : Bool) → same_user by q ≡ c → is_known owner h q ≡ d
          → d ≡ false
          → unwrap_or (if c then Some true else decided d (mask h by q b)) (has owner h q b place) ≡ has owner h q b
          place
      nothing q b place true d e k none = absurd
          (true≢false (sym opener ∙ s.known by ∙ ap (is_known owner h) (same_user-true by q e) ∙ k ∙ none))
      nothing q b place false true e k none = absurd (true≢false none)
      nothing q b place false false e k none = refl

      skipped : (c : Bool) (g : Option Bool) (r : Bool) → unwrap_or g r ≡ r → unwrap_or (if c then g else None) r ≡ r
      skipped true g r e = e
      skipped false g r e = refl

      stranger : (q : UserId) (b : Bit) (place : Object) → knows t q ≡ false
          → has owner (Opened by w ∷ h) q b place ≡ false
      stranger q b place none =
          skipped (same_object (Window w) place) (opening owner h by q b) (has owner h q b place)
          (nothing q b place (same_user by q) (is_known owner h q) refl refl (sym (s.known q) ∙ none))
          ∙ s.strangers q b place none

      given : (q : UserId) (b : Bit) (place : Object) (r : Row) (c d : Bool) → same_user by q ≡ c
          → is_known owner h q ≡ d → d ≡ true
          → allows b (if c then all_bits else mask_bits t.masks by q) ≡ unwrap_or
          (if c then Some true else decided d (mask h by q b)) (has owner h q b place)
      given q b place r true d e k there = allows-all_bits b
      given q b place r false true e k there = before b (lookup (same_pair (by, q)) t.masks) ∙ s.masks by q b
        where
          before : (b : Bit) (o : Option Bits) → allows b (unwrap_or o all_bits) ≡ mask_at b o
          before b None = allows-all_bits b
          before b (Some x) = refl
      given q b place r false false e k there = absurd (true≢false (sym there))

      command_same : (q : UserId) (b : Bit) (c : _) (o : Option Row)
          → at_row ws b (Command c) (option_map (with_window slot (opening_bits t.masks by q)) o) ≡ at_row t.windows b
          (Command c) o
      command_same q b c None = refl
      command_same q b c (Some r) = refl

      rights_now : (q : UserId) (b : Bit) (place : Object)
          → is_there (record t { windows = ws; rows = es }) place ≡ true
          → granted (record t { windows = ws; rows = es }) q b place ≡ has owner (Opened by w ∷ h) q b place
      rights_now q b (Command c) there = ap (at_row ws b (Command c)) (rows q) ∙ command_same q b c (row_of t q)
          ∙ s.rights q b (Command c) refl
      rights_now q b (Window v) there = ap (at_row ws b (Window v)) (rows q) ∙ at_window (row_of t q) (w == v) refl refl
        where
          slot_bits : Option ℕ → Row → Bits
          slot_bits o r = option_map_or (λ k. slice_index_or r.windows k no_bits) o no_bits

          at_window : (o : Option Row) (c : Bool) → row_of t q ≡ o → (w == v) ≡ c
              → at_row ws b (Window v) (option_map (with_window slot (opening_bits t.masks by q)) o) ≡ unwrap_or
              (if c then opening owner h by q b else None) (has owner h q b (Window v))
          at_window None c e f = sym (s.strangers q b (Window v) (ap is_some e))
              ∙ sym
              (skipped c (opening owner h by q b) (has owner h q b (Window v))
              (nothing q b (Window v) (same_user by q) (is_known owner h q) refl refl (sym (s.known q) ∙ ap is_some e)))
          at_window (Some r) true e f =
              let there_slot : slot_of ws v ≡ Some slot = slots v
              ∙ ap (λ c. if c then Some slot else slot_of t.windows v) f in
              ap (λ o. allows b (slot_bits o (with_window slot (opening_bits t.masks by q) r))) there_slot
              ∙ ap (allows b) (get_or-set_same r.windows slot (opening_bits t.masks by q) no_bits (room q r e))
              ∙ given q b (Window v) r (same_user by q) (is_known owner h q) refl refl (sym (s.known q) ∙ ap is_some e)
          at_window (Some r) false e f =
              let old_slot : slot_of ws v ≡ slot_of t.windows v = slots v
              ∙ ap (λ c. if c then Some slot else slot_of t.windows v) f in
              ap (λ o. allows b (slot_bits o (with_window slot (opening_bits t.masks by q) r))) old_slot
              ∙ same_slot (slot_of t.windows v) refl
              ∙ sym (ap (at_row t.windows b (Window v)) e)
              ∙ s.rights q b (Window v) (sym (ap is_some old_slot) ∙ there)
            where
              same_slot : (o : Option ℕ) → slot_of t.windows v ≡ o
                  → allows b (slot_bits o (with_window slot (opening_bits t.masks by q) r)) ≡ allows b (slot_bits o r)
              same_slot None g = refl
              same_slot (Some k) g = ap (allows b)
                  (get_or-set_other r.windows slot k (opening_bits t.masks by q) no_bits (apart v k g))
