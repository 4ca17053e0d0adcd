-- A user leaves a window only if none of their clients has it in focus; what goes has its act, and
-- clients of the tables are attached.
use Rattle.hub_trail.proofs.Vocabulary.{◌≡◌, ◌∙◌, ℕ, Bool, true, false, ◌&&◌, ◌||◌, List, ◌∷◌, ◌++◌, Option, Some, None}
use Rattle.hub_trail.proofs.Vocabulary.{map, filter, reverse, sym, ◌==◌, if◌then◌else◌, list_any, and_from, or_left}
use Rattle.hub_trail.proofs.Vocabulary.{or_right, eq-eqb, reverse-append, UserId, Act, same_user, same_user-refl}
use Rattle.hub_trail.proofs.Vocabulary.{ActsAgree, Tables, Client, Window, row_of, client_at, focused, is_in_focus}
use Rattle.hub_trail.proofs.Vocabulary.{left_acts_of, left_acts, row_serial, is_client_of}
use Rattle.std.proofs.Common.{[], refl, ap}
use Rattle.acl.specs.declared.act.Act.TheVariants as act
use Rattle.session.specs.Tables.{with_row, is_window}
use Rattle.hub_trail.specs.Legal.{is_parted, is_closed}

-- ---- a list with more elements

pub any_behind : {A : Type 0} (p : A → Bool) (xs ys : List A) → list_any p ys ≡ true → list_any p (xs ++ ys) ≡ true
any_behind p [] ys e = e
any_behind p (x ∷ xs) ys e = or_right (p x) (list_any p (xs ++ ys)) (any_behind p xs ys e)

pub any_before : {A : Type 0} (p : A → Bool) (xs ys : List A) → list_any p xs ≡ true → list_any p (xs ++ ys) ≡ true
any_before p [] ys e = absurd (cc (e))
any_before p (x ∷ xs) ys e = on (p x) e (any_before p xs ys) where
  on : (b : Bool) → (b || list_any p xs) ≡ true → (list_any p xs ≡ true → list_any p (xs ++ ys) ≡ true)
      → (b || list_any p (xs ++ ys)) ≡ true
  on true e rest = refl
  on false e rest = rest e

any_reverse : {A : Type 0} (p : A → Bool) (xs : List A) → list_any p xs ≡ true → list_any p (reverse xs) ≡ true
any_reverse p [] e = absurd (cc (e))
any_reverse p (x ∷ xs) e = ap (list_any p) (reverse-append (x ∷ []) xs) ∙ on (p x) refl e (any_reverse p xs) where
  on : (b : Bool) → p x ≡ b → (b || list_any p xs) ≡ true → (list_any p xs ≡ true → list_any p (reverse xs) ≡ true)
      → list_any p (reverse xs ++ x ∷ []) ≡ true
  on true is e rest = any_behind p (reverse xs) (x ∷ []) (or_left (p x) false is)
  on false is e rest = any_before p (reverse xs) (x ∷ []) (rest e)

-- ---- what clients show

-- a client's user, and the window in its focus
abbrev pub Sight : Type 0
Sight = UserId × Option ℕ

abbrev pub sight : Client → Sight
sight c = (c.user, focused c)

seen_in : UserId → ℕ → List Sight → Bool
seen_in u w seen = list_any (λ (s : Sight). same_user s.0 u && is_window w s.1) seen

focus_by : (cs : List Client) (u : UserId) (w : ℕ) → is_in_focus cs u w ≡ seen_in u w (map sight cs)
unfolding seen_in
focus_by [] u w = refl
focus_by (c ∷ cs) u w = ap (λ b. (same_user c.user u && is_window w (focused c)) || b) (focus_by cs u w)

-- what is in focus of some clients is in focus of the others, too
abbrev pub Stays : List Client → List Client → Type 0
Stays before after = (u : UserId) (w : ℕ) → is_in_focus before u w ≡ true → is_in_focus after u w ≡ true

pub stays_alike : (before after : List Client) → map sight after ≡ map sight before → Stays before after
stays_alike before after same u w seen = focus_by after u w ∙ ap (seen_in u w) same ∙ sym (focus_by before u w) ∙ seen

own_focus : (c : Client) (cs : List Client) (w : ℕ) → focused c ≡ Some w → is_in_focus (c ∷ cs) c.user w ≡ true
own_focus c cs w e = or_left _ (is_in_focus cs c.user w)
    (and_from _ _ (same_user-refl c.user) (ap (is_window w) e ∙ eq-eqb w w refl))

pub left_none : (before after : List Client) → Stays before after → left_acts before after ≡ []
left_none [] after stays = refl
left_none (c ∷ before) after stays = on (left_none before after (λ u w e. stays u w (or_right _ _ e))) (focused c) refl
  where
    on : left_acts before after ≡ [] → (o : Option ℕ) → focused c ≡ o
        → left_acts_of c o before after ++ left_acts before after ≡ []
    on rest None e = rest
    on rest (Some w) e =
        ap (λ b. (if b then [] else act.Left c.user w ∷ []) ++ left_acts before after)
        (or_right (is_in_focus before c.user w) _ (stays c.user w (own_focus c before w e)))
        ∙ rest

-- ---- another row of a client

with_alike : (cs : List Client) (s : ℕ) (c new : Client) → row_of (λ (x : Client). x.serial) cs s ≡ Some c
    → sight new ≡ sight c → map sight (with_row (λ (x : Client). x.serial) cs s new) ≡ map sight cs
with_alike [] s c new found same = refl
with_alike (d ∷ cs) s c new found same = on (d.serial == s) found (with_alike cs s c new) where
  on : (b : Bool) → (if b then Some d else row_of (λ (x : Client). x.serial) cs s) ≡ Some c
      → (row_of (λ (x : Client). x.serial) cs s ≡ Some c → sight new ≡ sight c
      → map sight (with_row (λ (x : Client). x.serial) cs s new) ≡ map sight cs)
      → map sight (if b then new ∷ cs else d ∷ with_row (λ (x : Client). x.serial) cs s new) ≡ sight d ∷ map sight cs
  on true f rest = let e : d ≡ c = cc (f) in ap (λ (x : Sight). x ∷ map sight cs) (same ∙ ap sight (sym e))
  on false f rest = ap (λ (xs : List Sight). sight d ∷ xs) (rest f same)

pub with_stays : (cs : List Client) (s : ℕ) (c new : Client) → row_of (λ (x : Client). x.serial) cs s ≡ Some c
    → new.serial ≡ c.serial → sight new ≡ sight c
    → map sight (with_row (λ (x : Client). x.serial) cs new.serial new) ≡ map sight cs
with_stays cs s c new found serial same =
    ap (λ (n : ℕ). map sight (with_row (λ (x : Client). x.serial) cs n new))
    (serial ∙ row_serial (λ (x : Client). x.serial) cs s c found) ∙ with_alike cs s c new found same

-- ---- what goes has its act

pub parted_found : (cs : List Client) (s : ℕ) (c : Client) (more : List Act)
    → row_of (λ (x : Client). x.serial) cs s ≡ Some c
    → list_any (is_parted s)
    (map (λ (d : Client). act.Parted d.serial) (filter (λ (d : Client). d.serial == s) cs) ++ more) ≡ true
parted_found [] s c more found = absurd (cc (found))
parted_found (d ∷ cs) s c more found = on (d.serial == s) refl found (parted_found cs s c more) where
  on : (b : Bool) → (d.serial == s) ≡ b → (if b then Some d else row_of (λ (x : Client). x.serial) cs s) ≡ Some c
      → (row_of (λ (x : Client). x.serial) cs s ≡ Some c
      → list_any (is_parted s)
      (map (λ (d : Client). act.Parted d.serial) (filter (λ (d : Client). d.serial == s) cs) ++ more) ≡ true)
      → list_any (is_parted s)
      (map (λ (d : Client). act.Parted d.serial)
      (if b then d ∷ filter (λ (d : Client). d.serial == s) cs else filter (λ (d : Client). d.serial == s) cs) ++
      more) ≡ true
  on true e f rest = or_left _ _ e
  on false e f rest = rest f

pub closed_found : (ws : List Window) (s : ℕ) (w : Window) (more : List Act)
    → row_of (λ (x : Window). x.serial) ws s ≡ Some w
    → list_any (is_closed s)
    (map (λ (v : Window). act.Closed v.serial) (filter (λ (v : Window). v.serial == s) ws) ++ more) ≡ true
closed_found [] s w more found = absurd (cc (found))
closed_found (v ∷ ws) s w more found = on (v.serial == s) refl found (closed_found ws s w more) where
  on : (b : Bool) → (v.serial == s) ≡ b → (if b then Some v else row_of (λ (x : Window). x.serial) ws s) ≡ Some w
      → (row_of (λ (x : Window). x.serial) ws s ≡ Some w
      → list_any (is_closed s)
      (map (λ (v : Window). act.Closed v.serial) (filter (λ (v : Window). v.serial == s) ws) ++ more) ≡ true)
      → list_any (is_closed s)
      (map (λ (v : Window). act.Closed v.serial)
      (if b then v ∷ filter (λ (v : Window). v.serial == s) ws else filter (λ (v : Window). v.serial == s) ws) ++
      more) ≡ true
  on true e f rest = or_left _ _ e
  on false e f rest = rest f

-- ---- who is attached

row_attached : (cs : List Client) (s : ℕ) (c : Client) → row_of (λ (x : Client). x.serial) cs s ≡ Some c
    → list_any (λ (p : ℕ × UserId). (p.0 == s) && same_user p.1 c.user) (map (λ (x : Client). (x.serial, x.user)) cs) ≡
    true
row_attached [] s c found = absurd (cc (found))
row_attached (d ∷ cs) s c found = on (d.serial == s) refl found (row_attached cs s c) where
  on : (b : Bool) → (d.serial == s) ≡ b → (if b then Some d else row_of (λ (x : Client). x.serial) cs s) ≡ Some c
      → (row_of (λ (x : Client). x.serial) cs s ≡ Some c
      → list_any (λ (p : ℕ × UserId). (p.0 == s) && same_user p.1 c.user)
      (map (λ (x : Client). (x.serial, x.user)) cs) ≡ true)
      → (((d.serial == s) && same_user d.user c.user) || list_any
      (λ (p : ℕ × UserId). (p.0 == s) && same_user p.1 c.user) (map (λ (x : Client). (x.serial, x.user)) cs)) ≡ true
  on true e f rest = or_left _ _
      (and_from _ _ e
      ((let same : d ≡ c = cc (f) in ap (λ (x : Client). same_user x.user c.user) same) ∙ same_user-refl c.user))
  on false e f rest = or_right _ _ (rest f)

-- a client of the tables is attached by their acts
pub attached : (t : Tables) (s : ℕ) (c : Client) → ActsAgree t → client_at t s ≡ Some c
    → is_client_of t.acts s c.user ≡ true
attached t s c agree found =
    ap (list_any (λ (p : ℕ × UserId). (p.0 == s) && same_user p.1 c.user)) agree.clients_are
    ∙ any_reverse (λ (p : ℕ × UserId). (p.0 == s) && same_user p.1 c.user)
    (map (λ (x : Client). (x.serial, x.user)) t.clients) (row_attached t.clients s c found)
