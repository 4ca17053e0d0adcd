-- A table to which an act about a user is done stands for the history with that act in front.
use Rattle.acl.proofs.Vocabulary.{◌≡◌, ◌≢◌, ◌∙◌, Bool, true, false, not, ◌&&◌, ◌||◌, ap, sym, refl, List, [], ◌∷◌}
use Rattle.acl.proofs.Vocabulary.{Option, Some, None, is_some, unwrap_or, filter, if◌then◌else◌, true≢false, ◌++◌}
use Rattle.acl.proofs.Vocabulary.{option_map, lookup, keys_of, same_user, same_bit, same_object, allows, with_bit}
use Rattle.acl.proofs.Vocabulary.{all_bits, History, without_user, there, decided, is_known, mask, preset_of, has}
use Rattle.acl.proofs.Vocabulary.{leaders_of, leaders_with, greeting, Table, StandsFor, row_of, users_in, bits_on}
use Rattle.acl.proofs.Vocabulary.{same_pair, is_there, without_leader, mask_bits, same_user-true, Edition, UserId, Bit}
use Rattle.acl.proofs.Vocabulary.{Bits, Object, Window, Command, Known, Gone, Set, Grouped, Masked, Row}
use Rattle.acl_words.proofs.BitSetLemmas.{allows-with_bit, allows-all_bits}
use Rattle.acl_words.specs.declared.act.PresetKind.TheVariants as preset
use Rattle.acl.proofs.Choices.{step, step_of, or-true, or-false, known_step, at_row, leaders_at, mask_at}

module _ (t : Table) (edition : Edition) (owner : UserId) (h : History) (s : StandsFor t edition owner h) (u : UserId)
  where
    -- a user becomes known: the user's row is new, and no mask names the user
    pub StandsFor-Known : (es : List (UserId × Row)) (ms : List ((UserId × UserId) × Bits)) (row : Row)
        → keys_of es ≡ users_in t ++ u ∷ []
        → ((q : UserId) → lookup (same_user q) es ≡ (if same_user u q then Some row else row_of t q))
        → ((p : UserId × UserId)
        → lookup (same_pair p) ms ≡
        (if same_user u p.0 || same_user u p.1 then None else lookup (same_pair p) t.masks))
        → row.leaders ≡ []
        → ((object : Object) → is_there t object ≡ true
        → bits_on t.windows object row ≡ (elim object [ Window w ↦ t.window_preset | Command c ↦ t.command_preset ]))
        → row_of t u ≡ None
        → StandsFor (record t { rows = es; masks = ms }) edition owner (Known u ∷ h)
    StandsFor-Known es ms row keys rows masks alone bits absent = record {
      edition_is = s.edition_is;
      owned = s.owned;
      users = keys ∙ ap (λ users. users ++ u ∷ []) s.users;
      known = λ q. ap is_some (rows q)
          ∙ known_step (same_user u q) (same_user owner q) true _ (Some row) (row_of t q)
          (λ _. sym (or-true (same_user owner q))) (s.known q);
      slots = s.slots;
      rights = λ q bit object there. ap (at_row t.windows bit object) (rows q)
          ∙ step (at_row t.windows bit object) (same_user u q) (Some row) (row_of t q) (greeting h bit object)
          (has owner h q bit object)
          (λ _. ap (allows bit) (bits object there) ∙ greeted bit object q there) (s.rights q bit object there);
      strangers = λ q bit object none. stranger bit object q (same_user u q) refl (sym (ap is_some (rows q)) ∙ none);
      led = λ q. ap leaders_at (rows q) ∙ led_same q (same_user u q) refl;
      masks = λ by q bit. ap (mask_at bit) (masks (by, q))
          ∙ step (mask_at bit) (same_user u by || same_user u q) None (lookup (same_pair (by, q)) t.masks) (Some true)
          (mask h by q bit) (λ _. refl) (s.masks by q bit);
      presets = s.presets;
    }
      where
        greeted : (bit : Bit) (object : Object) (q : UserId) → is_there t object ≡ true
            → allows bit (elim object [ Window w ↦ t.window_preset | Command c ↦ t.command_preset ]) ≡ unwrap_or
            (greeting h bit object) (has owner h q bit object)
        greeted bit (Window w) q there = s.presets preset.Windows bit
            ∙ ap (λ c. unwrap_or (decided c (preset_of h preset.Windows bit)) (has owner h q bit (Window w)))
            (sym there ∙ s.slots.shown w)
        greeted bit (Command c) q there = s.presets preset.Commands bit

        stranger : (bit : Bit) (object : Object) (q : UserId) (c : Bool) → same_user u q ≡ c
            → is_some (if c then Some row else row_of t q) ≡ false
            → unwrap_or (if c then greeting h bit object else None) (has owner h q bit object) ≡ false
        stranger bit object q true e none = absurd (true≢false none)
        stranger bit object q false e none = s.strangers q bit object none

        led_same : (q : UserId) (c : Bool) → same_user u q ≡ c
            → leaders_at (if c then Some row else row_of t q) ≡ leaders_of edition h q
        led_same q true e = alone ∙ sym (ap leaders_at absent) ∙ s.led u
            ∙ ap (leaders_of edition h) (same_user-true u q e)
        led_same q false e = s.led q

    -- a user is gone: no row and no mask belongs to the user, who leads nobody
    pub StandsFor-Gone : (es : List (UserId × Row)) (ms : List ((UserId × UserId) × Bits))
        → keys_of es ≡ without_user u (users_in t)
        → ((q : UserId)
        → lookup (same_user q) es ≡ (if same_user u q then None else option_map (without_leader u) (row_of t q)))
        → ((p : UserId × UserId)
        → lookup (same_pair p) ms ≡
        (if same_user u p.0 || same_user u p.1 then None else lookup (same_pair p) t.masks))
        → same_user owner u ≡ false
        → StandsFor (record t { rows = es; masks = ms }) edition owner (Gone u ∷ h)
    StandsFor-Gone es ms keys rows masks other = record {
      edition_is = s.edition_is;
      owned = s.owned;
      users = keys ∙ ap (without_user u) s.users;
      known = λ q. ap is_some (rows q)
          ∙ known_step (same_user u q) (same_user owner q) false _ None (option_map (without_leader u) (row_of t q))
          (λ e. sym (or-false (same_user owner q) ∙ ap (same_user owner) (sym (same_user-true u q e)) ∙ other))
          (kept (row_of t q) ∙ s.known q);
      slots = s.slots;
      rights = λ q bit object there. ap (at_row t.windows bit object) (rows q)
          ∙ step (at_row t.windows bit object) (same_user u q) None (option_map (without_leader u) (row_of t q))
          (Some false) (has owner h q bit object)
          (λ _. refl) (same_bits bit object (row_of t q) ∙ s.rights q bit object there);
      strangers = λ q bit object none. stranger bit object q (same_user u q) (sym (ap is_some (rows q)) ∙ none);
      led = λ q. ap leaders_at (rows q) ∙ led_still q (same_user u q);
      masks = λ by q bit. ap (mask_at bit) (masks (by, q))
          ∙ step (mask_at bit) (same_user u by || same_user u q) None (lookup (same_pair (by, q)) t.masks) (Some true)
          (mask h by q bit) (λ _. refl) (s.masks by q bit);
      presets = s.presets;
    }
      where
        kept : (o : Option Row) → is_some (option_map (without_leader u) o) ≡ is_some o
        kept None = refl
        kept (Some r) = refl

        same_bits : (bit : Bit) (object : Object) (o : Option Row)
            → at_row t.windows bit object (option_map (without_leader u) o) ≡ at_row t.windows bit object o
        same_bits bit object None = refl
        same_bits bit (Window w) (Some r) = refl
        same_bits bit (Command c) (Some r) = refl

        stranger : (bit : Bit) (object : Object) (q : UserId) (c : Bool)
            → is_some (if c then None else option_map (without_leader u) (row_of t q)) ≡ false
            → unwrap_or (decided c false) (has owner h q bit object) ≡ false
        stranger bit object q true none = refl
        stranger bit object q false none = s.strangers q bit object (sym (kept (row_of t q)) ∙ none)

        of_row : (o : Option Row)
            → leaders_at (option_map (without_leader u) o) ≡ filter (λ leader. not (same_user u leader)) (leaders_at o)
        of_row None = refl
        of_row (Some r) = refl

        led_still : (q : UserId) (c : Bool)
            → leaders_at (if c then None else option_map (without_leader u) (row_of t q)) ≡
            (if c then [] else filter (λ leader. not (same_user u leader)) (leaders_of edition h q))
        led_still q true = refl
        led_still q false = of_row (row_of t q) ∙ ap (filter (λ leader. not (same_user u leader))) (s.led q)

    -- a bit of a known user is set
    pub StandsFor-Set : (es : List (UserId × Row)) (bit : Bit) (object : Object) (value : Bool) (row row' : Row)
        → row_of t u ≡ Some row
        → keys_of es ≡ users_in t
        → ((q : UserId) → lookup (same_user q) es ≡ (if same_user u q then Some row' else row_of t q))
        → row'.leaders ≡ row.leaders
        → ((b : Bit) (place : Object) → is_there t place ≡ true
        → allows b (bits_on t.windows place row') ≡
        (if same_bit bit b && same_object object place then value else allows b (bits_on t.windows place row)))
        → StandsFor (record t { rows = es }) edition owner (Set u bit object value ∷ h)
    StandsFor-Set es bit object value row row' had keys rows leaders bits = record {
      edition_is = s.edition_is;
      owned = s.owned;
      users = keys ∙ s.users;
      known = λ q. ap is_some (rows q) ∙ known_same (same_user u q) q refl;
      slots = s.slots;
      rights = λ q b place there. ap (at_row t.windows b place) (rows q)
          ∙ step_of (at_row t.windows b place) (same_user u q) (same_bit bit b) (same_object object place) (Some row')
          (row_of t q) value (has owner h q b place)
          (λ e. bits b place there
          ∙ chosen (same_bit bit b && same_object object place) _ _
          (sym (ap (at_row t.windows b place) had)
          ∙ ap (at_row t.windows b place) (ap (row_of t) (same_user-true u q e)) ∙ s.rights q b place there))
          (s.rights q b place there);
      strangers = λ q b place none. stranger b place q (same_user u q) refl (sym (ap is_some (rows q)) ∙ none);
      led = λ q. ap leaders_at (rows q) ∙ led_same (same_user u q) q refl;
      masks = s.masks;
      presets = s.presets;
    }
      where
        chosen : (c : Bool) (x y : Bool) → x ≡ y → (if c then value else x) ≡ unwrap_or (decided c value) y
        chosen true x y e = refl
        chosen false x y e = e

        known_same : (c : Bool) (q : UserId) → same_user u q ≡ c
            → is_some (if c then Some row' else row_of t q) ≡ is_known owner h q
        known_same true q e = sym (ap is_some had) ∙ s.known u ∙ ap (is_known owner h) (same_user-true u q e)
        known_same false q e = s.known q

        stranger : (b : Bit) (place : Object) (q : UserId) (c : Bool) → same_user u q ≡ c
            → is_some (if c then Some row' else row_of t q) ≡ false
            → unwrap_or (decided (c && same_bit bit b && same_object object place) value) (has owner h q b place) ≡
            false
        stranger b place q true e none = absurd (true≢false none)
        stranger b place q false e none = s.strangers q b place none

        led_same : (c : Bool) (q : UserId) → same_user u q ≡ c
            → leaders_at (if c then Some row' else row_of t q) ≡ leaders_of edition h q
        led_same true q e = leaders ∙ sym (ap leaders_at had) ∙ s.led u
            ∙ ap (leaders_of edition h) (same_user-true u q e)
        led_same false q e = s.led q

    -- a known user gets a leader, or none
    pub StandsFor-Grouped : (es : List (UserId × Row)) (leader : Option UserId) (row : Row)
        → row_of t u ≡ Some row
        → keys_of es ≡ users_in t
        → ((q : UserId)
        → lookup (same_user q) es ≡
        (if same_user u q then Some (record row { leaders = leaders_with edition leader row.leaders }) else row_of t
        q))
        → StandsFor (record t { rows = es }) edition owner (Grouped u leader ∷ h)
    StandsFor-Grouped es leader row had keys rows = record {
      edition_is = s.edition_is;
      owned = s.owned;
      users = keys ∙ s.users;
      known = λ q. ap is_some (rows q) ∙ known_same (same_user u q) q refl;
      slots = s.slots;
      rights = λ q b place there. ap (at_row t.windows b place) (rows q)
          ∙ rights_same b place there (same_user u q) q refl;
      strangers = λ q b place none. s.strangers q b place
          (s.known q ∙ sym (known_same (same_user u q) q refl) ∙ sym (ap is_some (rows q)) ∙ none);
      led = λ q. ap leaders_at (rows q) ∙ led_new (same_user u q) q refl;
      masks = s.masks;
      presets = s.presets;
    }
      where
        led : List UserId
        led = leaders_with edition leader row.leaders

        known_same : (c : Bool) (q : UserId) → same_user u q ≡ c
            → is_some (if c then Some (record row { leaders = led }) else row_of t q) ≡ is_known owner h q
        known_same true q e = sym (ap is_some had) ∙ s.known u ∙ ap (is_known owner h) (same_user-true u q e)
        known_same false q e = s.known q

        bits_same : (b : Bit) (place : Object)
            → at_row t.windows b place (Some (record row { leaders = led })) ≡ at_row t.windows b place (Some row)
        bits_same b (Window w) = refl
        bits_same b (Command c) = refl

        rights_same : (b : Bit) (place : Object) → is_there t place ≡ true → (c : Bool) (q : UserId) → same_user u q ≡ c
            → at_row t.windows b place (if c then Some (record row { leaders = led }) else row_of t q) ≡ has owner h q b
            place
        rights_same b place there true q e = bits_same b place ∙ sym (ap (at_row t.windows b place) had)
            ∙ s.rights u b place there ∙ ap (λ v. has owner h v b place) (same_user-true u q e)
        rights_same b place there false q e = s.rights q b place there

        led_new : (c : Bool) (q : UserId) → same_user u q ≡ c
            → leaders_at (if c then Some (record row { leaders = led }) else row_of t q) ≡
            (if c then leaders_with edition leader (leaders_of edition h q) else leaders_of edition h q)
        led_new true q e = ap (leaders_with edition leader)
            (sym (ap leaders_at had) ∙ s.led u ∙ ap (leaders_of edition h) (same_user-true u q e))
        led_new false q e = s.led q

    -- a mask is set: what u gives `of` on windows that u opens later
    pub StandsFor-Masked : (ms : List ((UserId × UserId) × Bits)) (named : UserId) (bit : Bit) (value : Bool)
        → ((p : UserId × UserId)
        → lookup (same_pair p) ms ≡
        (if same_pair (u, named) p then Some (with_bit bit value (mask_bits t.masks u named)) else lookup
        (same_pair p) t.masks))
        → StandsFor (record t { masks = ms }) edition owner (Masked u named bit value ∷ h)
    StandsFor-Masked ms named bit value masks = record {
      edition_is = s.edition_is;
      owned = s.owned;
      users = s.users;
      known = s.known;
      slots = s.slots;
      rights = s.rights;
      strangers = s.strangers;
      led = s.led;
      masks = λ by q b. ap (mask_at b) (masks (by, q))
          ∙ masked_now by q b (same_user u by) (same_user named q) refl refl;
      presets = s.presets;
    }
      where
        before : (b : Bit) (o : Option Bits) → allows b (unwrap_or o all_bits) ≡ mask_at b o
        before b None = allows-all_bits b
        before b (Some x) = refl

        chosen : (c : Bool) (x y : Bool) → x ≡ y → (if c then value else x) ≡ unwrap_or (decided c value) y
        chosen true x y e = refl
        chosen false x y e = e

        masked_now : (by q : UserId) (b : Bit) (c d : Bool) → same_user u by ≡ c → same_user named q ≡ d
            → mask_at b
            (if c && d then Some (with_bit bit value (mask_bits t.masks u named)) else lookup (same_pair (by, q))
            t.masks) ≡ unwrap_or (decided (c && d && same_bit bit b) value) (mask h by q b)
        masked_now by q b true true e f =
            allows-with_bit bit b value (mask_bits t.masks u named)
            ∙ chosen (same_bit bit b) _ _
            (before b (lookup (same_pair (u, named)) t.masks) ∙ s.masks u named b
            ∙ (λ i. mask h (same_user-true u by e i) (same_user-true named q f i) b))
        masked_now by q b true false e f = s.masks by q b
        masked_now by q b false d e f = s.masks by q b
